-- How a clause stands. Throughout, `f` tells which literals are true; a literal is false when its negation is true.
use Rattle.std.specs.Prelude.{Bool, true, false, cond, not, List, [], ◌∷◌, ℤ, neg_ℤ, filter}

-- A clause is falsified when all its literals are false, and unit when all are but one, whose variable is unassigned.
pub data Status : Type 0 where
  falsified : Status
  unit : ℤ → Status
  other : Status

-- the literals that are not false
abbrev pub loose : (ℤ → Bool) → List ℤ → List ℤ
loose f C = filter (λ l. not (f (neg_ℤ l))) C

-- the status of a clause by its literals that are not false
abbrev pub by_loose : (ℤ → Bool) → List ℤ → Status
by_loose f [] = falsified
by_loose f (l ∷ []) = cond (f l) other (unit l)
by_loose f (l ∷ k ∷ ls) = other

abbrev pub status : (ℤ → Bool) → List ℤ → Status
status f C = by_loose f (loose f C)

abbrev pub is_falsified : Status → Bool
is_falsified falsified = true
is_falsified (unit l) = false
is_falsified other = false

abbrev pub is_unit : Status → Bool
is_unit falsified = false
is_unit (unit l) = true
is_unit other = false
