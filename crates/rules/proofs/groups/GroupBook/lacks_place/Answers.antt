use Rattle.std.proofs.Common.{ltb, ap, ◌∙◌}
use Rattle.rules.specs.RowBuffers.{content}
use Rattle.rules.proofs.GroupFillings.{groups_full}
use Rattle.rules.proofs.groups.GroupBook.lacks_place.Goals as goal

pub returns : goal.returns
returns c = let b = c.args.self.now in ap (λ k. ltb k 2) c.free.ensures ∙ groups_full (content b.buffer) b.last b.fit
