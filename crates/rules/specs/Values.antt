-- Values of literals and statuses of clauses, as the code has them.
use Rattle.std.specs.Prelude.{Bool, cond, ℤ, neg_ℤ}
use Rattle.rules.specs.Clauses.{Status, Status.falsified, Status.unit, Status.other}
use Rattle.rules.specs.declared.literal.Value.{Value}
use Rattle.rules.specs.declared.literal.Value.TheVariants.{True, False, Unassigned}
use Rattle.rules.specs.declared.status.ClauseStatus.{ClauseStatus}
use Rattle.rules.specs.declared.status.ClauseStatus.TheVariants.{Falsified, Unit, Other}

-- the value of a literal where `f` tells which literals are true
abbrev pub value_in : (ℤ → Bool) → ℤ → Value
value_in f l = cond (f l) True (cond (f (neg_ℤ l)) False Unassigned)

-- a status without its literal
abbrev pub kind_of : Status → ClauseStatus
kind_of falsified = Falsified
kind_of (unit l) = Unit
kind_of other = Other

-- the status of a clause with one literal more, of that value
abbrev pub with_value : ClauseStatus → Value → ClauseStatus
with_value s True = Other
with_value s False = s
with_value Falsified Unassigned = Unit
with_value Unit Unassigned = Other
with_value Other Unassigned = Other
