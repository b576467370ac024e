use Rattle.std.proofs.Common.{codes, ◌++◌, take}
use Rattle.std.specs.List.{flat_map}
use Rattle.std.specs.Fmt.{HasWritten, IsPlainFormatter}
use Rattle.answer.specs.Lines.{value_text}
use Rattle.answer.proofs.model.ModelDisplay.fmt.Given as goal

-- the values so far are written
abbrev pub invariant-loop-literal : goal.invariant-loop-literal
invariant-loop-literal g l = IsPlainFormatter l.fn.f → HasWritten g.W.Write.write_str_gives l.fn.f (codes "v" ++ flat_map value_text (take l.literal-index l.literal-items)) l.f
