use Rattle.std.proofs.Common.{◌≡◌}
use Rattle.rules.specs.Literals.{has}
use Rattle.theory.proofs.Analysis.{analyse}
use Rattle.session.specs.Decode.{trail_of, marked_index, marked}
use Rattle.session.specs.Analysis.{held, set_of, both_count}
use Rattle.session.specs.Memories.{trail_in, clause_in}
use Rattle.session.proofs.memory.Memory.resolve.Given as goal

abbrev pub invariant-loop-place : goal.invariant-loop-place
invariant-loop-place l = record {
  counts : l.touching ≡ both_count (marked_index l.self.layout.variables l.self.words.now) (held l.scratch) (trail_of l.self.layout.variables l.place l.self.words.now);
  leads : analyse (marked l.self.layout.variables l.self.words.now) (trail_of l.self.layout.variables l.place l.self.words.now) (set_of (trail_in l.self) (held l.scratch))
      ≡ analyse (marked l.self.layout.variables l.self.words.now) (trail_in l.self) (has (clause_in l.self l.k));
}
