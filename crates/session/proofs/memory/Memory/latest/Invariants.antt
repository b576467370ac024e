use Rattle.std.proofs.Common.{◌≡◌, ◌*◌}
use Rattle.session.specs.Decode.{trail_of}
use Rattle.session.specs.Memories.{trail_in, clause_in, Framed}
use Rattle.session.proofs.Choosing.{decisions_in}
use Rattle.session.proofs.memory.Memory.latest.Given as goal

abbrev pub invariant-loop-place : goal.invariant-loop-place
invariant-loop-place l = record {
  all : decisions_in (trail_in l.initial.self) (clause_in l.initial.self l.k) (trail_of l.initial.self.layout.variables l.place l.initial.self.words.now)
      ≡ decisions_in (trail_in l.initial.self) (clause_in l.initial.self l.k) (trail_in l.initial.self);
  frame : Framed (5 * l.initial.self.layout.variables) l.initial.self.layout.variables l.initial.self l.self;
}
