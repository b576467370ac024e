use Rattle.std.proofs.Common.{◌≡◌, ℕ, ◌+◌, ◌≤◌, ◌||◌, take}
use Rattle.session.specs.Decode.{trail_of, marked_index}
use Rattle.session.specs.Analysis.{held, names_index, both_count}
use Rattle.session.proofs.memory.Memory.include_all.Given as goal

abbrev pub invariant-loop-literal : goal.invariant-loop-literal
invariant-loop-literal l = record {
  holds : (x : ℕ) → held l.scratch x ≡ (held l.initial.scratch x || names_index (take l.literal-index l.literals) x);
  counts : l.new + both_count (marked_index l.self.layout.variables l.self.words.now) (held l.initial.scratch) (trail_of l.self.layout.variables l.place l.self.words.now)
      ≡ both_count (marked_index l.self.layout.variables l.self.words.now) (held l.scratch) (trail_of l.self.layout.variables l.place l.self.words.now);
  few : l.new ≤ l.literal-index;
}
