use Rattle.std.proofs.Common.{◌≡◌, ℕ, ◌*◌, ◌≤◌, filter, sym, subst, arith}
use Rattle.rules.specs.Clauses.{Status.falsified, status}
use Rattle.theory.specs.Trail.{Entry.implied, on, assumed_literals}
use Rattle.theory.specs.Chunks.{touches}
use Rattle.theory.specs.Look.{Position}
use Rattle.theory.specs.Conflict.{others_of}
use Rattle.theory.specs.Search.{Verdict.refuted, Ends, Kind, Kind.implying, Step, Step.imply}
use Rattle.session.specs.Words.{word_at, clause_at}
use Rattle.session.specs.Decode.{literal_at, clause_of}
use Rattle.session.specs.InUse.{trail_at, position_at}
use Rattle.session.specs.Finding.{StandsSo}
use Rattle.session.specs.Guides.{guided}
use Rattle.session.specs.Memories.{trail_in, position_in, clause_in}
use Rattle.session.specs.Plans.{ConflictInHand, Undone}
use Rattle.session.proofs.Planning.{rebased, same_position, placing_step, conflict_planned, contradiction_planned}
use Rattle.session.proofs.memory.Memory.plan_for.Goals as goal

pub returns-in-Unit-clause-planned : goal.returns-in-Unit-clause-planned
returns-in-Unit-clause-planned g c =
    let m = c.args.self.now in
    let n = m.layout.variables in
    let k = c.args.found.count in
    let h = c.requires.found in
    let l = word_at m.words.now (clause_at n c.in-Unit.at) in
    let C = clause_in m k in
    let stands = subst (StandsSo n (trail_in m) m.words.now k) c.in-Unit.is h.stands in
    let guide = guided (g.S.Source.meaning c.args.guide.now.source.now) c.args.guide.now.preferences.now g.W.Weight.Order.at_most g.W.Weight.Scale.zero g.W.Weight.Scale.plus (g.W.Weigher.weight c.args.guide.now.weigher.now) in (
      record { few = h.few; among = stands.0; ranged = h.ranged; stands = stands.1 },
      λ k' u p'. placing_step n m.layout.slots guide (position_in m) (implied l (others_of l C)) implying k' u p' (imply C l c.requires.look stands.1),
    )

pub returns-in-Some-clause-planned : goal.returns-in-Some-clause-planned
returns-in-Some-clause-planned g c =
    let m = c.args.self.now in
    let n = m.layout.variables in
    let e = m.extent in
    let now = c.choose.new.self in
    let ws = now.words.now in
    let k = c.args.found.count in
    let root = c.in-Some.root in
    let f = c.choose.ensures.frame in
    let fa = subst (StandsSo n (trail_in m) m.words.now k) c.in-Falsified.is c.requires.found.stands in
    let chosen = c.in-Some.ensures in
    let guide = guided (g.S.Source.meaning c.args.guide.now.source.now) c.args.guide.now.preferences.now g.W.Weight.Order.at_most g.W.Weight.Scale.zero g.W.Weight.Scale.plus (g.W.Weigher.weight c.args.guide.now.weigher.now) in
    rebased now m (sym f.layout) (sym f.extent)
    (λ y x. ConflictInHand y.variables x.trail ws k root
    × ((kind : Kind) (undone : ℕ) (p' : Position) → Undone y.variables y.slots (position_at y x ws) (clause_of y.variables k ws) (literal_at y.variables ws root) kind undone p' → Step y.variables y.slots guide (position_at y x ws) kind undone p'))
    (conflict_planned n m.layout.slots e.assumptions e.trail e.slots m.words.now ws m.sound f.outside guide k c.requires.found.few c.requires.look fa root chosen.marked.0 chosen.rule)

pub returns-in-Some-clause-position : goal.returns-in-Some-clause-position
returns-in-Some-clause-position g c =
    let n = c.args.self.now.layout.variables in
    same_position (5 * n) n c.args.self.now c.choose.new.self c.choose.ensures.frame (omega arith) (omega arith)

pub returns-in-None-clause-planned : goal.returns-in-None-clause-planned
returns-in-None-clause-planned g c =
    let m = c.args.self.now in
    let n = m.layout.variables in
    let e = m.extent in
    let now = c.choose.new.self in
    let ws = now.words.now in
    let k = c.args.found.count in
    let f = c.choose.ensures.frame in
    let fa = subst (StandsSo n (trail_in m) m.words.now k) c.in-Falsified.is c.requires.found.stands in
    let guide = guided (g.S.Source.meaning c.args.guide.now.source.now) c.args.guide.now.preferences.now g.W.Weight.Order.at_most g.W.Weight.Scale.zero g.W.Weight.Scale.plus (g.W.Weigher.weight c.args.guide.now.weigher.now) in
    rebased now m (sym f.layout) (sym f.extent)
    (λ y x. ((k ≤ y.variables) × (status (on (trail_at y x ws)) (clause_of y.variables k ws) ≡ falsified))
    × Ends y.variables guide.source (position_at y x ws) refuted (filter (λ r. touches (trail_at y x ws) r (clause_of y.variables k ws)) (assumed_literals (trail_at y x ws))))
    (contradiction_planned n m.layout.slots e.assumptions e.trail e.slots m.words.now ws m.sound f.outside guide k c.requires.found.few c.requires.look fa c.in-None.ensures.rule)

pub returns-in-None-clause-position : goal.returns-in-None-clause-position
returns-in-None-clause-position g c =
    let n = c.args.self.now.layout.variables in
    same_position (5 * n) n c.args.self.now c.choose.new.self c.choose.ensures.frame (omega arith) (omega arith)
