use Rattle.std.proofs.Common.{◌≡◌, ◌++◌, length, take, drop}
use Rattle.theory.specs.Conflict.{others_of}
use Rattle.session.proofs.reasons.copy_others.Given as goal

-- those of the literals so far are copied
abbrev pub invariant-loop-other : goal.invariant-loop-other
invariant-loop-other l = record {
  count : l.count ≡ length (others_of l.literal (take l.other-index l.clause));
  copied : l.room ≡ others_of l.literal (take l.other-index l.clause) ++ drop l.count l.initial.room;
}
