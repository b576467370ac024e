use Rattle.session.specs.Analysis.{held, set_of}
use Rattle.session.specs.Memories.{trail_in}
use Rattle.session.proofs.Collecting.{Collected}
use Rattle.session.proofs.memory.Memory.collect.Given as goal

abbrev pub invariant-loop-x : goal.invariant-loop-x
invariant-loop-x l = Collected l.x l.count (set_of (trail_in l.fn.self) (held l.scratch)) l.initial.clause l.clause
