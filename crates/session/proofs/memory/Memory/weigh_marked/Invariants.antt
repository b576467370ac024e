use Rattle.std.proofs.Common.{◌≡◌}
use Rattle.weights.specs.Weighing.{total_weight}
use Rattle.theory.specs.Chunks.{members}
use Rattle.session.specs.Decode.{trail_of, marked}
use Rattle.session.proofs.memory.Memory.weigh_marked.Given as goal

abbrev pub invariant-loop-place : goal.invariant-loop-place
invariant-loop-place g l = l.sum ≡ total_weight g.W.Weight.Scale.zero g.W.Weight.Scale.plus (g.W.Weigher.weight l.weigher) (members (marked l.self.layout.variables l.self.words.now) (trail_of l.self.layout.variables l.place l.self.words.now))
