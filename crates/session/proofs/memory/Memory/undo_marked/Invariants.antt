use Rattle.session.proofs.Undoing.{Undone}
use Rattle.session.proofs.memory.Memory.undo_marked.Given as goal

abbrev pub invariant-loop-place : goal.invariant-loop-place
invariant-loop-place l = Undone l.layout.variables l.place l.left l.initial.words l.words
