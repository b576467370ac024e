use Rattle.std.proofs.Common.{◌*◌}
use Rattle.theory.specs.Chunks.{in_chunk}
use Rattle.session.specs.Decode.{literal_at, trail_of, Marked}
use Rattle.session.specs.Memories.{Framed}
use Rattle.session.proofs.memory.Memory.mark_chunk.Given as goal

abbrev pub invariant-loop-place : goal.invariant-loop-place
invariant-loop-place l = record {
  frame : Framed (5 * l.initial.self.layout.variables) l.initial.self.layout.variables l.initial.self l.self;
  marked : Marked l.initial.self.layout.variables (trail_of l.initial.self.layout.variables l.place l.initial.self.words.now)
      (in_chunk (literal_at l.initial.self.layout.variables l.initial.self.words.now l.root) (trail_of l.initial.self.layout.variables l.place l.initial.self.words.now)) l.self.words.now;
}
