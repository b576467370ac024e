use Rattle.std.proofs.Common.{◌≡◌, ◌*◌, ap, ◌∙◌, subst, arith}
use Rattle.rules.specs.Sources.{Answer.silent}
use Rattle.theory.proofs.Looking.{look_after}
use Rattle.session.specs.Finding.{taken_clause}
use Rattle.session.specs.Memories.{trail_in, slots_in}
use Rattle.session.proofs.Planning.{same_position}
use Rattle.session.proofs.memory.Memory.find.Goals as goal

pub returns-in-None-clause-clause : goal.returns-in-None-clause-clause
returns-in-None-clause-clause g c =
    let m = c.args.self.now in
    let n = m.layout.variables in
    let mid = c.ask.new.self in
    let now = c.recall_first.new.self in
    let k = c.recall_first.result in
    let f = c.ask.ensures.frame in
    let e = c.recall_first.ensures in
    subst (λ y. taken_clause y.variables now.words.now k ≡ look_after silent (trail_in mid) (slots_in mid)) f.layout e.clause
    ∙ ap (λ p. look_after silent p.trail p.slots) (same_position (4 * n) n m mid f (omega arith) (omega arith)) ∙ ap (λ a. look_after a (trail_in m) (slots_in m)) c.in-None.ensures.told
