-- What a row of words says of literals, and what an assignment makes of them.
use Rattle.std.proofs.Common.{◌≡◌, ℕ, zero, suc, ◌-◌, ◌≤◌, Bool, true, false, not, leb, List, get_or, ℤ, pos, negsuc, neg_ℤ, sym, ap, ◌∙◌, inl, inr, arith}
use mathlib.Core.Bool.{not-not}
use Rattle.std.proofs.lemmas.List.FromFn.{get_or-map-range_with_len}
use Rattle.std.proofs.lemmas.Bool.{cases_Bool, both_ways, and_parts, or_cases, leb-true}
use Rattle.rules.specs.Literals.{var, same, in_range}
use Rattle.rules.specs.Sources.{makes, assignment, true_in, Full}
use Rattle.rules.proofs.Literals.{same_true, var_neg, neg_apart, range_bounds}

-- the word that tells of a true literal is the literal
true_word : (row : List ℤ) (l : ℤ) → true_in row l ≡ true → (1 ≤ var l) × (get_or row (var l - 1) (pos 0) ≡ l)
true_word row l h =
    let w = get_or row (var l - 1) (pos 0) in
    let r = and_parts (leb 1 (var l)) (same w l) h in
    (leb-true 1 (var l) r.0, same_true w l r.1)

-- a literal and its negation are not both true
pub one_true : (row : List ℤ) (l : ℤ) → true_in row l ≡ true → true_in row (neg_ℤ l) ≡ false
one_true row l h = elim (cases_Bool (true_in row (neg_ℤ l))) [
  | inl k ↦
      let p = true_word row l h in
      let q = true_word row (neg_ℤ l) k in
      absurd (neg_apart l p.0 (sym p.1 ∙ ap (λ v. get_or row (v - 1) (pos 0)) (sym (var_neg l)) ∙ q.1))
  | inr k ↦ k
]

-- where all variables have a value, just one of the two is true
pub full_neg : (n : ℕ) (row : List ℤ) → Full n row → (l : ℤ) → in_range n l ≡ true → true_in row (neg_ℤ l) ≡ not (true_in row l)
full_neg n row full l r = elim (cases_Bool (true_in row l)) [
  | inl p ↦ one_true row l p ∙ sym (ap not p)
  | inr p ↦ elim (or_cases (true_in row l) (true_in row (neg_ℤ l)) (full l r)) [ inl q ↦ absurd (both_ways (true_in row l) p q) | inr q ↦ q ∙ sym (ap not p) ]
]

-- and the row's assignment makes the row's true literals true
pub full_makes : (n : ℕ) (row : List ℤ) → Full n row → (l : ℤ) → in_range n l ≡ true → makes (assignment n (true_in row)) l ≡ true_in row l
full_makes n row full (pos v) r =
    let b = range_bounds n (pos v) r in
    get_or-map-range_with_len (λ u. true_in row (pos u)) 1 n (v - 1) v false (omega arith) (omega arith)
full_makes n row full (negsuc i) r =
    let b = range_bounds n (negsuc i) r in
    ap not (get_or-map-range_with_len (λ u. true_in row (pos u)) 1 n i (suc i) false (omega arith) (omega arith)) ∙ sym (full_neg n row full (pos (suc i)) r)

-- an assignment makes just one of a literal and its negation true
pub makes_neg : (bs : List Bool) (l : ℤ) → 1 ≤ var l → makes bs (neg_ℤ l) ≡ not (makes bs l)
makes_neg bs (pos zero) h = let q : ⊥ = omega arith in absurd q
makes_neg bs (pos (suc v)) h = let e : v ≡ suc v - 1 = omega arith in ap (λ i. not (get_or bs i false)) e
makes_neg bs (negsuc v) h = let e : suc v - 1 ≡ v = omega arith in ap (λ i. get_or bs i false) e ∙ sym (not-not (get_or bs v false))
