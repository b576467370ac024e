use Rattle.std.proofs.Common.{◌≡◌, ℕ, ◌*◌, ◌||◌}
use Rattle.session.specs.Words.{words_from}
use Rattle.session.specs.Decode.{marked_index}
use Rattle.session.specs.Analysis.{names_index}
use Rattle.session.specs.Memories.{Framed}
use Rattle.session.proofs.memory.Memory.mark_variables.Given as goal

abbrev pub invariant-loop-i : goal.invariant-loop-i
invariant-loop-i l = record {
  marked : (x : ℕ) → marked_index l.initial.self.layout.variables l.self.words.now x
      ≡ (marked_index l.initial.self.layout.variables l.initial.self.words.now x || names_index (words_from l.initial.self.words.now l.base l.i) x);
  frame : Framed (5 * l.initial.self.layout.variables) l.initial.self.layout.variables l.initial.self l.self;
}
