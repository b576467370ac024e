-- Going over the clauses of a book for what it tells.
use Rattle.std.proofs.Common.{◌≡◌, ℕ, ◌+◌, ◌-◌, ◌<◌, ◌≤◌, Bool, true, false, not, List, ◌∷◌, length, get_or, take, drop, ℤ, pos, Some, None, Option, sym, refl, ap, ◌∙◌, subst}
use Rattle.std.specs.Option.{option_or}
use Rattle.rules.specs.Clauses.{status, is_falsified, is_unit, Status, Status.falsified, Status.unit, Status.other}
use Rattle.rules.specs.Sources.{true_in, Answer, Answer.tells, or_else}
use Rattle.rules.specs.Rows.{is_zero}
use Rattle.rules.specs.Values.{value_in, kind_of, with_value}
use Rattle.rules.specs.ClauseTelling.{row_answer}
use Rattle.rules.specs.declared.status.ClauseStatus.{ClauseStatus}
use Rattle.rules.specs.declared.status.ClauseStatus.TheVariants.{Falsified, Unit, Other}
use Rattle.std.specs.Borrow.{Bor}
use Rattle.rules.proofs.AnswerLaws.{told_with, told_hit, told_second, told_neither}
use Rattle.rules.proofs.RowLaws.{none_zero, pass_push, part_push}
use Rattle.rules.proofs.Valuations.{one_true}
use Rattle.rules.proofs.Values.{status_push}

-- the two tests of a clause under a row
abbrev pub falsifies : List ℤ → List ℤ → Bool
falsifies row C = is_falsified (status (true_in row) C)

abbrev pub leaves_unit : List ℤ → List ℤ → Bool
leaves_unit row C = is_unit (status (true_in row) C)

-- what is told, clause by clause
abbrev pub clause_told : List ℤ → Answer → List (List ℤ) → Answer
clause_told row = told_with (falsifies row) (λ C. C) (leaves_unit row) (λ C. C)

-- the tests, by the status that the code has
pub is_falsified_kind : (s : Status) → kind_of s ≡ Falsified → is_falsified s ≡ true
is_falsified_kind falsified e = refl
is_falsified_kind (unit l) e = cc
is_falsified_kind other e = cc

pub is_unit_kind : (s : Status) → kind_of s ≡ Unit → (is_falsified s ≡ false) × (is_unit s ≡ true)
is_unit_kind falsified e = (cc, cc)
is_unit_kind (unit l) e = (refl, refl)
is_unit_kind other e = (cc, cc)

pub is_other_kind : (s : Status) → kind_of s ≡ Other → (is_falsified s ≡ false) × (is_unit s ≡ false)
is_other_kind falsified e = (cc, cc)
is_other_kind (unit l) e = (cc, cc)
is_other_kind other e = (refl, refl)

-- one literal on in the clause from s to p
pub part_next : (row ws : List ℤ) (s p : ℕ) (k : ClauseStatus) → s ≤ p → p < length ws → is_zero (get_or ws p (pos 0)) ≡ false
    → (none_zero (take (p - s) (drop s ws)) ≡ true) × (k ≡ kind_of (status (true_in row) (take (p - s) (drop s ws))))
    → (none_zero (take (p + 1 - s) (drop s ws)) ≡ true)
    × (with_value k (value_in (true_in row) (get_or ws p (pos 0))) ≡ kind_of (status (true_in row) (take (p + 1 - s) (drop s ws))))
part_next row ws s p k a b z i =
    let part = take (p - s) (drop s ws) in
    let w = get_or ws p (pos 0) in
    let e = sym (part_push ws s p a b) in (
      subst (λ r. none_zero r ≡ true) e (pass_push (λ x. not (is_zero x)) part w i.0 (ap not z)),
      ap (λ j. with_value j (value_in (true_in row) w)) i.1 ∙ sym (status_push (true_in row) part w (one_true row w))
          ∙ ap (λ r. kind_of (status (true_in row) r)) e,
    )

-- one clause on: it is falsified and told, or it is found if it is the first unit one, or it is neither
module _ (row : List ℤ) (found : Answer) (C : List ℤ) (k : ClauseStatus) (is : k ≡ kind_of (status (true_in row) C)) (rest : List (List ℤ)) where
  pub clause_hit : k ≡ Falsified → tells C ≡ clause_told row found (C ∷ rest)
  clause_hit e = sym (told_hit (falsifies row) (λ D. D) (leaves_unit row) (λ D. D) found C rest (is_falsified_kind (status (true_in row) C) (sym is ∙ e)))

  pub clause_other : k ≡ Other → clause_told row found rest ≡ clause_told row found (C ∷ rest)
  clause_other e = let s = is_other_kind (status (true_in row) C) (sym is ∙ e) in told_neither (falsifies row) (λ D. D) (leaves_unit row) (λ D. D) found C rest s.0 s.1

  found_unit : k ≡ Unit → clause_told row (or_else found (tells C)) rest ≡ clause_told row found (C ∷ rest)
  found_unit e = let s = is_unit_kind (status (true_in row) C) (sym is ∙ e) in told_second (falsifies row) (λ D. D) (leaves_unit row) (λ D. D) found C rest s.0 s.1

or_row : (found : Option (Bor (List ℤ))) (C : Bor (List ℤ)) → row_answer (option_or found (Some C)) ≡ or_else (row_answer found) (tells C.now)
or_row None C = refl
or_row (Some D) C = refl

pub clause_unit : (row : List ℤ) (found : Option (Bor (List ℤ))) (C : Bor (List ℤ)) (k : ClauseStatus) → k ≡ kind_of (status (true_in row) C.now) → (rest : List (List ℤ)) → k ≡ Unit
    → clause_told row (row_answer (option_or found (Some C))) rest ≡ clause_told row (row_answer found) (C.now ∷ rest)
clause_unit row found C k is rest e = ap (λ a. clause_told row a rest) (or_row found C) ∙ found_unit row (row_answer found) C.now k is rest e
