use Rattle.std.proofs.Common.{sym, ap, ◌∙◌}
use Rattle.theory.proofs.Choice.{touched_decisions, lighter, first_least}
use Rattle.session.specs.Decode.{assumptions_of}
use Rattle.session.specs.Memories.{trail_in, clause_in}
use Rattle.session.specs.Candidates.{by_total, decision_at}
use Rattle.session.proofs.Choosing.{allowed_all, allowed_first, choice_rule}
use Rattle.session.proofs.Planning.{marks_marked}
use Rattle.session.proofs.memory.Memory.choose.Goals as goal

pub returns-then-self-clause-chosen : goal.returns-then-self-clause-chosen
returns-then-self-clause-chosen g c =
    let m = c.args.self.now in
    let le = lighter (by_total g.W.Weight.Order.at_most g.W.Weight.Scale.zero g.W.Weight.Scale.plus (g.W.Weigher.weight c.args.weigher.now)) (trail_in m) in
    c.latest.ensures.chosen le
    ∙ ap (first_least le) (sym (allowed_first m.layout.variables m.layout.slots m.extent.slots m.words.now (touched_decisions (trail_in m) (clause_in m c.args.k)) c.if-self.true))

pub returns-then-self-clause-rule : goal.returns-then-self-clause-rule
returns-then-self-clause-rule g c =
    let m = c.args.self.now in
    choice_rule g.W.Weight.Order.at_most g.met.W.Weight.Order.total g.met.W.Weight.Order.chain g.W.Weight.Scale.zero g.W.Weight.Scale.plus (g.W.Weigher.weight c.args.weigher.now)
    m.layout.variables m.layout.slots m.extent.trail m.extent.slots m.words.now m.sound.coherent (clause_in m c.args.k) (assumptions_of m.extent.assumptions m.words.now) _ (returns-then-self-clause-chosen g c)

pub returns-clause-chosen : goal.returns-clause-chosen
returns-clause-chosen g c =
    let m = c.args.self.now in
    let le = lighter (by_total g.W.Weight.Order.at_most g.W.Weight.Scale.zero g.W.Weight.Scale.plus (g.W.Weigher.weight c.args.weigher.now)) (trail_in m) in
    c.in_ok-place.ensures.chosen
    ∙ ap (first_least le) (sym (allowed_all m.layout.variables m.layout.slots m.extent.slots m.words.now (touched_decisions (trail_in m) (clause_in m c.args.k)) c.if-self.false))

pub returns-clause-rule : goal.returns-clause-rule
returns-clause-rule g c =
    let m = c.args.self.now in
    choice_rule g.W.Weight.Order.at_most g.met.W.Weight.Order.total g.met.W.Weight.Order.chain g.W.Weight.Scale.zero g.W.Weight.Scale.plus (g.W.Weigher.weight c.args.weigher.now)
    m.layout.variables m.layout.slots m.extent.trail m.extent.slots m.words.now m.sound.coherent (clause_in m c.args.k) (assumptions_of m.extent.assumptions m.words.now) _ (returns-clause-chosen g c)

pub returns-clause-marked : goal.returns-clause-marked
returns-clause-marked g c =
    let within = c.in_ok-place.ensures.within in
    (within, marks_marked c.args.self.now c.lightest.new.self c.lightest.ensures.frame c.in_ok-place.place within _ c.mark_chunk.ensures.marked)

pub returns-in_err-place-clause-chosen : goal.returns-in_err-place-clause-chosen
returns-in_err-place-clause-chosen g c =
    let m = c.args.self.now in
    let le = lighter (by_total g.W.Weight.Order.at_most g.W.Weight.Scale.zero g.W.Weight.Scale.plus (g.W.Weigher.weight c.args.weigher.now)) (trail_in m) in
    ap (decision_at m.layout.variables m.words.now) c.from_residual.ensures ∙ c.in_err-place.ensures.chosen
    ∙ ap (first_least le) (sym (allowed_all m.layout.variables m.layout.slots m.extent.slots m.words.now (touched_decisions (trail_in m) (clause_in m c.args.k)) c.if-self.false))

pub returns-in_err-place-clause-rule : goal.returns-in_err-place-clause-rule
returns-in_err-place-clause-rule g c =
    let m = c.args.self.now in
    choice_rule g.W.Weight.Order.at_most g.met.W.Weight.Order.total g.met.W.Weight.Order.chain g.W.Weight.Scale.zero g.W.Weight.Scale.plus (g.W.Weigher.weight c.args.weigher.now)
    m.layout.variables m.layout.slots m.extent.trail m.extent.slots m.words.now m.sound.coherent (clause_in m c.args.k) (assumptions_of m.extent.assumptions m.words.now) _ (returns-in_err-place-clause-chosen g c)
