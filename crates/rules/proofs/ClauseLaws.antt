-- A book of clauses is a lawful source: a clause that it tells has no literal together with its negation.
use Rattle.std.proofs.Common.{◌≡◌, ℕ, ◌≤◌, Bool, true, false, not, eqb, List, [], ◌∷◌, ℤ, neg_ℤ, All, sym, ap, ◌∙◌, subst, inl, inr}
use lib.IntN.{neg_ℤ-neg_ℤ}
use Rattle.std.specs.List.{list_all}
use Rattle.std.proofs.lemmas.Bool.{both_ways, cases_Bool, and_parts, or_parts, or_left, or_right, ne_eqb, not-true}
use Rattle.std.proofs.lemmas.List.Sums.{AllPass-from_list_all}
use Rattle.rules.specs.Literals.{var, same, in_range, has, Once}
use Rattle.rules.specs.Clauses.{status, by_loose, is_falsified, is_unit}
use Rattle.rules.specs.Sources.{makes, satisfies, assignment, true_in, Full, Meaning, ToldClause, Lawful}
use Rattle.rules.specs.Books.{clause_book, no_repeat, clause_fits}
use Rattle.rules.proofs.Literals.{same_true, var_neg, var_cases, neg_apart, range_bounds, has_first, has_later, all_has, has_all, any_has, has_any}
use Rattle.rules.proofs.Statuses.{falsified_all, unit_at, asserting}
use Rattle.rules.proofs.Valuations.{one_true, full_neg, full_makes}
use Rattle.rules.proofs.Lists.{asserts, none_loose, all_names}
use Rattle.rules.proofs.BookLaws.{Kind, Obeys, RuleLaws, book_lawful}

-- a falsified or unit clause that has both a literal and its negation has the literal false
opposite_false : (f : ℤ → Bool) (C : List ℤ) → asserts f C ≡ true → (x : ℤ) → 1 ≤ var x → has C x ≡ true → has C (neg_ℤ x) ≡ true → f (neg_ℤ x) ≡ true
opposite_false f C a x z i j = elim (asserting (status f C) a) [
  | inl e ↦ falsified_all f C e x i
  | inr r ↦
      let l = r.0 in
      let u = unit_at f C l r.1 in
      elim (cases_Bool (same x l)) [
        | inl d ↦
            let other : same (neg_ℤ x) l ≡ false = elim (cases_Bool (same (neg_ℤ x) l)) [ inl w ↦ absurd (neg_apart x z (same_true x l d ∙ sym (same_true (neg_ℤ x) l w))) | inr w ↦ w ] in
            absurd (both_ways (f l) u.not_true (subst (λ y. f y ≡ true) (neg_ℤ-neg_ℤ x ∙ same_true x l d) (u.others (neg_ℤ x) j other)))
        | inr d ↦ u.others x i d
      ]
]

-- so a clause that is falsified or unit under a row never has both
no_opposites : (row C : List ℤ) → asserts (true_in row) C ≡ true → (x : ℤ) → 1 ≤ var x → has C x ≡ true → has C (neg_ℤ x) ≡ true → ⊥
no_opposites row C a x z i j =
    let f = true_in row in
    let p = opposite_false f C a x z i j in
    let q = opposite_false f C a (neg_ℤ x) (rw (var_neg x) z) j (rw (neg_ℤ-neg_ℤ x) i) in
    both_ways (f (neg_ℤ (neg_ℤ x))) (one_true row (neg_ℤ x) p) q

-- without repeats and opposites no variable is named twice
clause_once : (C : List ℤ) → no_repeat C ≡ true → ((x : ℤ) → has C x ≡ true → has C (neg_ℤ x) ≡ true → ⊥) → Once C
clause_once [] d h = tt
clause_once (l ∷ ls) d h =
    let r = and_parts (not (has ls l)) (no_repeat ls) d in
    let apart : (y : ℤ) → has ls y ≡ true → var l ≡ var y → ⊥ = λ y k e. elim (var_cases l y e) [
      | inl i ↦ both_ways (has ls l) (not-true (has ls l) r.0) (subst (λ z. has ls z ≡ true) i k)
      | inr i ↦ h l (has_first l ls) (has_later l ls (neg_ℤ l) (subst (λ z. has ls z ≡ true) i k))
    ] in
    (all_names ls (var l) (has_all (λ y. eqb (var l) (var y) ≡ false) ls (λ y k. ne_eqb (var l) (var y) (apart y k))), clause_once ls r.1 (λ x i j. h x (has_later l ls x i) (has_later l ls (neg_ℤ x) j)))

-- clauses as a kind of rule
abbrev clauses : Kind (List ℤ)
clauses = record {
  keeps = satisfies;
  first = λ row C. is_falsified (status (true_in row) C);
  first_clause = λ row C. C;
  second = λ row C. is_unit (status (true_in row) C);
  second_clause = λ row C. C;
}

module _ (n : ℕ) (C : List ℤ) (ranged : (x : ℤ) → has C x ≡ true → in_range n x ≡ true) where
  clause_told : no_repeat C ≡ true → (m : Meaning) → Obeys clauses C m → (row : List ℤ) → asserts (true_in row) C ≡ true → ToldClause n m row C
  clause_told apart m obeys row a = record {
    ranged = has_all (λ l. in_range n l ≡ true) C ranged;
    once = clause_once C apart (λ x i. no_opposites row C a x (range_bounds n x (ranged x i)).0 i);
    asserts = a;
    sound = λ bs _ h. obeys bs h;
  }

  clause_quiet : (row : List ℤ) → Full n row → is_falsified (status (true_in row) C) ≡ false → satisfies (assignment n (true_in row)) C ≡ true
  clause_quiet row full h =
      let f = true_in row in
      let bs = assignment n f in
      elim (cases_Bool (satisfies bs C)) [
        | inl p ↦ p
        | inr p ↦
            let all_false : All (λ l. f (neg_ℤ l) ≡ true) C = has_all (λ l. f (neg_ℤ l) ≡ true) C (λ x i. elim (cases_Bool (f x)) [
              | inl t ↦ absurd (both_ways (satisfies bs C) p (has_any (makes bs) C x i (full_makes n row full x (ranged x i) ∙ t)))
              | inr t ↦ full_neg n row full x (ranged x i) ∙ ap not t
            ]) in
            absurd (both_ways (is_falsified (status f C)) h (ap (λ K. is_falsified (by_loose f K)) (none_loose f C all_false)))
      ]

  clause_admitted : (row : List ℤ) → Full n row → satisfies (assignment n (true_in row)) C ≡ true → asserts (true_in row) C ≡ false
  clause_admitted row full h =
      let f = true_in row in
      elim (cases_Bool (asserts f C)) [
        | inl p ↦ absurd (elim (asserting (status f C) p) [
          | inl e ↦
              let r = any_has (makes (assignment n f)) C h in
              both_ways (f (neg_ℤ r.0)) (one_true row r.0 (sym (full_makes n row full r.0 (ranged r.0 r.1)) ∙ r.2)) (falsified_all f C e r.0 r.1)
          | inr e ↦
              let u = unit_at f C e.0 e.1 in
              both_ways (f (neg_ℤ e.0)) u.not_false (full_neg n row full e.0 (ranged e.0 u.inside) ∙ ap not u.not_true)
        ])
        | inr p ↦ p
      ]

clause_laws : (n : ℕ) (C : List ℤ) → clause_fits n C ≡ true → RuleLaws n clauses C
clause_laws n C fits =
    let r = and_parts (list_all (in_range n) C) (no_repeat C) fits in
    let ranged = all_has (λ l. in_range n l ≡ true) C (AllPass-from_list_all (in_range n) C r.0) in
    let falsified : List ℤ → Bool = λ row. is_falsified (status (true_in row) C) in
    let unit : List ℤ → Bool = λ row. is_unit (status (true_in row) C) in
    record {
      first_told = λ m obeys row h. clause_told n C ranged r.1 m obeys row (or_left (falsified row) (unit row) h);
      second_told = λ m obeys row h. clause_told n C ranged r.1 m obeys row (or_right (falsified row) (unit row) h);
      quiet = clause_quiet n C ranged;
      admitted = λ row full h. or_parts (falsified row) (unit row) (clause_admitted n C ranged row full h);
    }

pub clause_book_lawful : (n : ℕ) (Cs : List (List ℤ)) → list_all (clause_fits n) Cs ≡ true → Lawful (clause_book n Cs)
clause_book_lawful n Cs fit = book_lawful n clauses (clause_fits n) (clause_laws n) Cs fit
