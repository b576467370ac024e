-- What a sealed book of groups means.
use Rattle.std.specs.Prelude.{ℕ, Bool, true, false, cond, not, ◌&&◌, List, map, take, ℤ, neg_ℤ, Some, None, filter, Option}
use Rattle.rules.specs.Sources.{Answer, Answer.silent, Answer.tells, Meaning}
use Rattle.rules.specs.Books.{Group, over, over_clause, tight, tight_clause, group_book}
use Rattle.rules.specs.Rows.{rows}
use Rattle.rules.specs.GroupRows.{as_group}
use Rattle.rules.specs.Values.{value_in}
use Rattle.rules.specs.declared.groups.SealedGroups.{SealedGroups}
use Rattle.rules.specs.declared.groups.GroupRow.{GroupRow}
use Rattle.rules.specs.declared.literal.Value.{Value}
use Rattle.rules.specs.declared.literal.Value.TheVariants.{True, False, Unassigned}
use Rattle.rules.specs.declared.status.ClauseStatus.{ClauseStatus}
use Rattle.rules.specs.declared.status.ClauseStatus.TheVariants.{Falsified, Unit as UnitOf, Other}

abbrev pub sealed_groups : SealedGroups → Meaning
sealed_groups b = group_book b.variables (map as_group (rows b.words.now))

-- the group of a row that is taken apart
abbrev pub group_in : GroupRow → Group
group_in row = record { most = row.limit; literals = row.literals.now }

-- whether a literal is unassigned
abbrev pub is_open : (ℤ → Bool) → ℤ → Bool
is_open f l = not (f l) && not (f (neg_ℤ l))

-- whether a value is this one
abbrev pub is_value : Value → Value → Bool
is_value True True = true
is_value True False = false
is_value True Unassigned = false
is_value False True = false
is_value False False = true
is_value False Unassigned = false
is_value Unassigned True = false
is_value Unassigned False = false
is_value Unassigned Unassigned = true

-- how the clause that a group tells stands
abbrev pub group_status : (ℤ → Bool) → Group → ClauseStatus
group_status f G = cond (over f G) Falsified (cond (tight f G) UnitOf Other)

-- the clause to tell for a group
abbrev pub group_clause : (ℤ → Bool) → Group → List ℤ
group_clause f G = cond (over f G) (over_clause f G) (tight_clause f G)

-- the group that was found, as an answer
abbrev pub group_answer : (ℤ → Bool) → Option GroupRow → Answer
group_answer f None = silent
group_answer f (Some row) = tells (group_clause f (group_in row))

-- the first m of these literals that have the value
abbrev pub first_of_value : (ℤ → Bool) → Value → ℕ → List ℤ → List ℤ
first_of_value f v m ls = take m (filter (λ l. is_value v (value_in f l)) ls)
