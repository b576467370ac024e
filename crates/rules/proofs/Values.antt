-- Laws of values and of statuses, literal by literal.
use Rattle.std.proofs.Common.{◌≡◌, ℕ, ◌+◌, ◌-◌, ◌<◌, Bool, true, false, cond, not, leb, ◌⊎◌, List, [], ◌∷◌, ◌++◌, take, drop, length, get_or, ℤ, pos, negsuc, neg_ℤ, sym, refl, ap, ◌∙◌, subst, inl, inr, arith, append_assoc, take-append-drop}
use Rattle.std.proofs.lemmas.List.Elements.{filter-append}
use Rattle.std.proofs.lemmas.List.{append-nil, take_more, get_or_past}
use Rattle.std.proofs.lemmas.Bool.{and_left, and_right, cond-false, lt-leb, ne_eqb, both_ways}
use Rattle.rules.specs.Literals.{var, same}
use Rattle.rules.specs.Clauses.{Status.falsified, Status.unit, Status.other, loose, by_loose, status}
use Rattle.rules.specs.Sources.{true_in}
use Rattle.rules.specs.Values.{value_in, kind_of, with_value}
use Rattle.rules.specs.declared.literal.Value.{Value}
use Rattle.rules.specs.declared.literal.Value.TheVariants.{True, False, Unassigned}
use Rattle.rules.specs.declared.status.ClauseStatus.{ClauseStatus}
use Rattle.rules.specs.declared.status.ClauseStatus.TheVariants.{Other}
use Rattle.rules.proofs.Literals.{var_neg}

zero_apart : (l : ℤ) → 0 < var l → same (pos 0) l ≡ false
zero_apart (pos v) h = ne_eqb 0 v (λ e. omega arith)
zero_apart (negsuc v) h = refl

-- 0 and a literal past the row's end are not true
absent : (row : List ℤ) (l : ℤ) → (var l ≡ 0) ⊎ (length row < var l) → true_in row l ≡ false
absent row l (inl e) = and_left (leb 1 (var l)) (same (get_or row (var l - 1) (pos 0)) l) (lt-leb 1 (var l) (omega arith))
absent row l (inr h) = and_right (leb 1 (var l)) (same (get_or row (var l - 1) (pos 0)) l)
    (subst (λ w. same w l ≡ false) (sym (get_or_past row (var l - 1) (pos 0) (omega arith))) (zero_apart l (omega arith)))

-- so they are unassigned
pub absent_value : (row : List ℤ) (l : ℤ) → (var l ≡ 0) ⊎ (length row < var l) → Unassigned ≡ value_in (true_in row) l
absent_value row l h =
    let f = true_in row in
    let neg : (var (neg_ℤ l) ≡ 0) ⊎ (length row < var (neg_ℤ l)) = rw (var_neg l) h in
    sym (cond-false (f l) True (cond (f (neg_ℤ l)) False Unassigned) (absent row l h) ∙ cond-false (f (neg_ℤ l)) False Unassigned (absent row (neg_ℤ l) neg))

-- the literals that are not false, with one more
loose_push : (f : ℤ → Bool) (ls : List ℤ) (l : ℤ) → loose f (ls ++ (l ∷ [])) ≡ loose f ls ++ cond (f (neg_ℤ l)) [] (l ∷ [])
loose_push f ls l = filter-append (λ x. not (f (neg_ℤ x))) ls (l ∷ []) ∙ ap (λ k. loose f ls ++ k) (by (f (neg_ℤ l)))
  where
    by : (b : Bool) → cond (not b) (l ∷ []) [] ≡ cond b [] (l ∷ [])
    by true = refl
    by false = refl

-- a status with one more literal that is not false
by_loose_push : (f : ℤ → Bool) (ls : List ℤ) (l : ℤ) → kind_of (by_loose f (ls ++ (l ∷ []))) ≡ with_value (kind_of (by_loose f ls)) (cond (f l) True Unassigned)
by_loose_push f [] l = by (f l)
  where
    by : (b : Bool) → kind_of (cond b other (unit l)) ≡ with_value (kind_of falsified) (cond b True Unassigned)
    by true = refl
    by false = refl
by_loose_push f (k ∷ []) l = by (f k) (f l)
  where
    by : (a b : Bool) → kind_of other ≡ with_value (kind_of (cond a other (unit k))) (cond b True Unassigned)
    by true true = refl
    by true false = refl
    by false true = refl
    by false false = refl
by_loose_push f (k ∷ j ∷ ls) l = by (f l)
  where
    by : (b : Bool) → kind_of other ≡ with_value Other (cond b True Unassigned)
    by true = refl
    by false = refl

-- the status of a clause with one more literal, where no literal is true together with its negation
pub status_push : (f : ℤ → Bool) (ls : List ℤ) (l : ℤ) → (f l ≡ true → f (neg_ℤ l) ≡ false) → kind_of (status f (ls ++ (l ∷ []))) ≡ with_value (kind_of (status f ls)) (value_in f l)
status_push f ls l one = ap (λ k. kind_of (by_loose f k)) (loose_push f ls l) ∙ by (f (neg_ℤ l)) refl
  where
    by : (b : Bool) → f (neg_ℤ l) ≡ b → kind_of (by_loose f (loose f ls ++ cond b [] (l ∷ []))) ≡ with_value (kind_of (status f ls)) (cond (f l) True (cond b False Unassigned))
    by false e = by_loose_push f (loose f ls) l
    by true e = ap (λ k. kind_of (by_loose f k)) (append-nil (loose f ls)) ∙ sym (ap (λ b. with_value (kind_of (status f ls)) (cond b True False)) (not_both (f l) refl))
      where
        not_both : (b : Bool) → f l ≡ b → f l ≡ false
        not_both true i = absurd (both_ways (f (neg_ℤ l)) (one i) e)
        not_both false i = i

-- the status of a clause's literals so far, with the next one
pub status_next : (f : ℤ → Bool) → ((l : ℤ) → f l ≡ true → f (neg_ℤ l) ≡ false) → (ls : List ℤ) (i : ℕ) {s s' : ClauseStatus} {v : Value} → i < length ls
    → s ≡ kind_of (status f (take i ls)) → v ≡ value_in f (get_or ls i (pos 0)) → s' ≡ with_value s v → s' ≡ kind_of (status f (take (i + 1) ls))
status_next f one ls i low es ev e =
    let l = get_or ls i (pos 0) in
    e ∙ rw (es, ev) (sym (status_push f (take i ls) l (one l))) ∙ ap (λ k. kind_of (status f k)) (sym (take_more ls i (pos 0) low))

-- a status that is neither falsified nor unit stays so, whatever literals follow
other_with : (v : Value) → with_value Other v ≡ Other
other_with True = refl
other_with False = refl
other_with Unassigned = refl

other_stays : (f : ℤ → Bool) → ((l : ℤ) → f l ≡ true → f (neg_ℤ l) ≡ false) → (ls ms : List ℤ) → kind_of (status f ls) ≡ Other → kind_of (status f (ls ++ ms)) ≡ Other
other_stays f one ls [] e = ap (λ k. kind_of (status f k)) (append-nil ls) ∙ e
other_stays f one ls (l ∷ ms) e =
    let more = status_push f ls l (one l) ∙ ap (λ s. with_value s (value_in f l)) e ∙ other_with (value_in f l) in
    ap (λ k. kind_of (status f k)) (sym (append_assoc ls (l ∷ []) ms)) ∙ other_stays f one (ls ++ (l ∷ [])) ms more

-- so it is known once a literal has made it so
pub status_left : (f : ℤ → Bool) → ((l : ℤ) → f l ≡ true → f (neg_ℤ l) ≡ false) → (ls : List ℤ) (i : ℕ) {s s' : ClauseStatus} {v : Value} → i < length ls
    → s ≡ kind_of (status f (take i ls)) → v ≡ value_in f (get_or ls i (pos 0)) → s' ≡ with_value s v → s' ≡ Other → s' ≡ kind_of (status f ls)
status_left f one ls i low es ev e o =
    o ∙ sym (other_stays f one (take (i + 1) ls) (drop (i + 1) ls) (sym (status_next f one ls i low es ev e) ∙ o)) ∙ ap (λ k. kind_of (status f k)) (take-append-drop (i + 1) ls)
