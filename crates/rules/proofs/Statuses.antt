-- Laws of a clause's status.
use Rattle.std.proofs.Common.{◌≡◌, Bool, true, false, cond, not, ◌||◌, ◌⊎◌, List, [], ◌∷◌, ℤ, neg_ℤ, filter, sym, refl, ap, ◌∙◌, subst, inl, inr}
use mathlib.Core.Bool.{false≢true}
use Rattle.std.proofs.lemmas.Bool.{or_cases, or_left, both_ways, cases_Bool, not-true, not_from_false}
use Rattle.rules.specs.Literals.{same, has}
use Rattle.rules.specs.Clauses.{Status, Status.falsified, Status.unit, Status.other, loose, by_loose, status, is_falsified, is_unit}
use Rattle.rules.proofs.Literals.{same_true, has_first, has_later}

-- what a filter keeps of a list of literals
pub kept_in : (p : ℤ → Bool) (ls : List ℤ) (x : ℤ) → has (filter p ls) x ≡ true → (has ls x ≡ true) × (p x ≡ true)
kept_in p [] x h = absurd (false≢true h)
kept_in p (l ∷ ls) x h = elim (cases_Bool (p l)) [
  | inl y ↦
      let k : (same x l || has (filter p ls) x) ≡ true = rw y at h in
      elim (or_cases (same x l) (has (filter p ls) x) k) [
        | inl e ↦ (or_left (same x l) (has ls x) e, subst (λ z. p z ≡ true) (sym (same_true x l e)) y)
        | inr e ↦ let r = kept_in p ls x e in (has_later l ls x r.0, r.1)
      ]
  | inr y ↦ let k : has (filter p ls) x ≡ true = rw y at h in let r = kept_in p ls x k in (has_later l ls x r.0, r.1)
]

pub in_kept : (p : ℤ → Bool) (ls : List ℤ) (x : ℤ) → has ls x ≡ true → p x ≡ true → has (filter p ls) x ≡ true
in_kept p [] x h e = absurd (false≢true h)
in_kept p (l ∷ ls) x h e = elim (cases_Bool (p l)) [
  | inl y ↦ elim (or_cases (same x l) (has ls x) h)
      [ inl i ↦ rw y (or_left (same x l) (has (filter p ls) x) i) | inr i ↦ rw y (has_later l (filter p ls) x (in_kept p ls x i e)) ]
  | inr y ↦ elim (or_cases (same x l) (has ls x) h)
      [ inl i ↦ absurd (both_ways (p l) y (subst (λ z. p z ≡ true) (same_true x l i) e)) | inr i ↦ rw y (in_kept p ls x i e) ]
]

-- a filter goes by what its test says of the list's own literals
pub kept_cong : (p q : ℤ → Bool) (ls : List ℤ) → ((x : ℤ) → has ls x ≡ true → p x ≡ q x) → filter p ls ≡ filter q ls
kept_cong p q [] h = refl
kept_cong p q (l ∷ ls) h = rw (h l (has_first l ls), kept_cong p q ls (λ x e. h x (has_later l ls x e))) refl

single : (b : Bool) (k l : ℤ) → cond b other (unit k) ≡ unit l → (b ≡ false) × (k ≡ l)
single true k l e = absurd (false≢true (ap is_unit e))
single false k l e = (refl, cc)

by_falsified : (f : ℤ → Bool) (ls : List ℤ) → by_loose f ls ≡ falsified → ls ≡ []
by_falsified f [] e = refl
by_falsified f (l ∷ []) e = absurd (never (f l) e)
  where
    never : (b : Bool) → cond b other (unit l) ≡ falsified → ⊥
    never true z = false≢true (ap is_falsified z)
    never false z = false≢true (ap is_falsified z)
by_falsified f (l ∷ k ∷ ls) e = absurd (false≢true (ap is_falsified e))

by_unit : (f : ℤ → Bool) (ls : List ℤ) (l : ℤ) → by_loose f ls ≡ unit l → (ls ≡ l ∷ []) × (f l ≡ false)
by_unit f [] l e = absurd (false≢true (ap is_unit e))
by_unit f (k ∷ []) l e = let r = single (f k) k l e in (ap (λ z. z ∷ []) r.1, subst (λ z. f z ≡ false) r.1 r.0)
by_unit f (k ∷ j ∷ ls) l e = absurd (false≢true (ap is_unit e))

-- all literals of a falsified clause are false
pub falsified_all : (f : ℤ → Bool) (C : List ℤ) → status f C ≡ falsified → (x : ℤ) → has C x ≡ true → f (neg_ℤ x) ≡ true
falsified_all f C e x h = elim (cases_Bool (f (neg_ℤ x))) [
  | inl p ↦ p
  | inr p ↦ absurd (false≢true (subst (λ K. has K x ≡ true) (by_falsified f (loose f C) e) (in_kept (λ l. not (f (neg_ℤ l))) C x h (not_from_false (f (neg_ℤ x)) p))))
]

-- the literal of a unit clause, and its others
pub record UnitAt (f : ℤ → Bool) (C : List ℤ) (l : ℤ) : Type 0 where
  pub inside : has C l ≡ true
  pub not_false : f (neg_ℤ l) ≡ false
  pub not_true : f l ≡ false
  pub others : (x : ℤ) → has C x ≡ true → same x l ≡ false → f (neg_ℤ x) ≡ true

pub unit_at : (f : ℤ → Bool) (C : List ℤ) (l : ℤ) → status f C ≡ unit l → UnitAt f C l
unit_at f C l e =
    let s = by_unit f (loose f C) l e in
    let i : has (loose f C) l ≡ true = subst (λ K. has K l ≡ true) (sym s.0) (has_first l []) in
    let r = kept_in (λ x. not (f (neg_ℤ x))) C l i in
    record {
      inside = r.0;
      not_false = not-true (f (neg_ℤ l)) r.1;
      not_true = s.1;
      others = λ x h d. elim (cases_Bool (f (neg_ℤ x))) [
        | inl p ↦ p
        | inr p ↦
            let k : (same x l || false) ≡ true = subst (λ K. has K x ≡ true) s.0 (in_kept (λ y. not (f (neg_ℤ y))) C x h (not_from_false (f (neg_ℤ x)) p)) in
            elim (or_cases (same x l) false k) [ inl z ↦ absurd (both_ways (same x l) d z) | inr z ↦ absurd (false≢true z) ]
      ];
    }

by_cong : (f g : ℤ → Bool) (ls : List ℤ) → ((x : ℤ) → has ls x ≡ true → f x ≡ g x) → by_loose f ls ≡ by_loose g ls
by_cong f g [] h = refl
by_cong f g (l ∷ []) h = rw (h l (has_first l []))
by_cong f g (l ∷ k ∷ ls) h = refl

-- a clause's status goes by what `f` says of its own literals and their negations
pub status_cong : (f g : ℤ → Bool) (C : List ℤ) → ((x : ℤ) → has C x ≡ true → (f (neg_ℤ x) ≡ g (neg_ℤ x)) × (f x ≡ g x)) → status f C ≡ status g C
status_cong f g C h =
    by_cong f g (loose f C) (λ x k. (h x (kept_in (λ l. not (f (neg_ℤ l))) C x k).0).1)
    ∙ ap (by_loose g) (kept_cong (λ l. not (f (neg_ℤ l))) (λ l. not (g (neg_ℤ l))) C (λ x k. ap not (h x k).0))

-- a status that is falsified or unit, by its cases
pub asserting : (s : Status) → (is_falsified s || is_unit s) ≡ true → (s ≡ falsified) ⊎ ((l : ℤ) × (s ≡ unit l))
asserting falsified h = inl refl
asserting (unit l) h = inr (l, refl)
asserting other h = absurd (false≢true h)
