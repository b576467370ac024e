use Rattle.std.proofs.Common.{fold, ap, ◌∙◌}
use Rattle.rules.specs.GroupFilling.{filling, pushed}
use Rattle.rules.proofs.GroupFillings.{pushed_whole}
use Rattle.rules.proofs.groups.GroupBook.add.Goals as goal

pub returns : goal.returns
returns c =
    let ls = c.args.literals.now in
    let all = c.push_all.ensures ∙ ap (λ b. fold pushed b ls) c.take_back.ensures in
    let whole = pushed_whole c.args.limit (filling c.args.self.now) ls (filling c.push_all.new.book) all c.end.result c.end.ensures.answer (filling c.end.new.self) c.end.ensures.after in
    record { answer = whole.0; after = whole.1 }
