use Rattle.std.proofs.Common.{◌≡◌, length, take}
use Rattle.answer.specs.Lines.{true_literals as literals_by}
use Rattle.answer.specs.Searching.{values_of}
use Rattle.answer.proofs.searching.model_of.Given as goal

-- the variables so far have their literals
abbrev pub invariant-loop-place : goal.invariant-loop-place
invariant-loop-place l = (length l.literals ≡ 64) × (take l.place l.literals ≡ literals_by l.place (values_of l.settled))
