use Rattle.std.proofs.Common.{◌≡◌, ◌*◌, true, ◌||◌, ℤ}
use Rattle.rules.specs.Literals.{has}
use Rattle.theory.specs.Trail.{assumed_literals}
use Rattle.theory.specs.Chunks.{in_chunk}
use Rattle.session.specs.Decode.{trail_of, marked_index, marked}
use Rattle.session.specs.Naming.{marks_member}
use Rattle.session.specs.Memories.{trail_in, Framed}
use Rattle.session.proofs.memory.Memory.mark_reasons.Given as goal

abbrev pub invariant-loop-place : goal.invariant-loop-place
invariant-loop-place l = record {
  marked : (r : ℤ) → has (assumed_literals (trail_in l.initial.self)) r ≡ true
      → (marked l.initial.self.layout.variables l.self.words.now r
      || marks_member (marked_index l.initial.self.layout.variables l.self.words.now) (in_chunk r (trail_in l.initial.self)) (trail_of l.initial.self.layout.variables l.place l.initial.self.words.now))
      ≡ marks_member (marked_index l.initial.self.layout.variables l.initial.self.words.now) (in_chunk r (trail_in l.initial.self)) (trail_in l.initial.self);
  frame : Framed (5 * l.initial.self.layout.variables) l.initial.self.layout.variables l.initial.self l.self;
}
