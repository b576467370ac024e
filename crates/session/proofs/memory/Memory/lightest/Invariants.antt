use Rattle.std.proofs.Common.{◌≡◌, ◌*◌, fold}
use Rattle.weights.specs.Choosing.{offered}
use Rattle.theory.proofs.Choice.{lighter, first_least, touched_decisions}
use Rattle.session.specs.Decode.{trail_of}
use Rattle.session.specs.Candidates.{by_total, decision_at}
use Rattle.session.specs.Memories.{trail_in, clause_in, Framed}
use Rattle.session.proofs.Choosing.{decisions_in, kept_place, KeptRight}
use Rattle.session.proofs.memory.Memory.lightest.Given as goal

abbrev pub invariant-loop-place : goal.invariant-loop-place
invariant-loop-place g l = record {
  all : fold (offered (lighter (by_total g.W.Weight.Order.at_most g.W.Weight.Scale.zero g.W.Weight.Scale.plus (g.W.Weigher.weight l.weigher)) (trail_in l.initial.self)))
      (decision_at l.initial.self.layout.variables l.initial.self.words.now (kept_place l.chooser.kept))
      (decisions_in (trail_in l.initial.self) (clause_in l.initial.self l.k) (trail_of l.initial.self.layout.variables l.place l.initial.self.words.now))
      ≡ first_least (lighter (by_total g.W.Weight.Order.at_most g.W.Weight.Scale.zero g.W.Weight.Scale.plus (g.W.Weigher.weight l.weigher)) (trail_in l.initial.self))
      (touched_decisions (trail_in l.initial.self) (clause_in l.initial.self l.k));
  kept : KeptRight g.W.Weight.Order.at_most g.W.Weight.Scale.zero g.W.Weight.Scale.plus (g.W.Weigher.weight l.weigher) l.initial.self.layout.variables l.initial.self.extent.trail l.initial.self.words.now (trail_in l.initial.self) l.chooser.kept;
  frame : Framed (5 * l.initial.self.layout.variables) l.initial.self.layout.variables l.initial.self l.self;
}
