use Rattle.std.proofs.Common.{◌∙◌}
use Rattle.rules.specs.RowBuffers.{content}
use Rattle.rules.proofs.GroupFillings.{groups_spelled}
use Rattle.rules.proofs.groups.GroupBook.words.Goals as goal

pub returns : goal.returns
returns c = let b = c.args.self.now in c.words.ensures ∙ groups_spelled (content b.buffer) b.last b.fit
