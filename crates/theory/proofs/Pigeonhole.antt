-- A well-formed trail has at most n entries.
use Rattle.std.proofs.Common.{◌≡◌, ℕ, zero, suc, ◌+◌, ◌<◌, ◌≤◌, true, false, eqb, List, [], ◌∷◌, map, length, ℤ, pos, neg_ℤ, All, sym, refl, subst, inl, inr, arith}
use Rattle.std.proofs.lemmas.List.Elements.{All-nil, All-cons}
use Rattle.std.specs.List.{range_with_len}
use Rattle.std.proofs.lemmas.List.FromFn.{length-map-range_with_len}
use Rattle.std.proofs.lemmas.List.{length-map}
use Rattle.rules.proofs.Lists.{length_within}
use Rattle.std.proofs.lemmas.Bool.{cases_eq, or_parts, or_from, both_ways, ne_eqb}
use Rattle.rules.specs.Literals.{var, same, has, names, Once}
use Rattle.rules.proofs.Literals.{var_cases, eq_same, range_bounds, has_first, has_later}
use Rattle.theory.specs.Trail.{Trail, literal, on, WellFormed}
use Rattle.theory.proofs.Trails.{ranged, fresh, fresh_negation}

-- the variables of the trail, as literals
abbrev variables : Trail → List ℤ
variables t = map (λ e. pos (var (literal e))) t

variable_apart : (x y : ℤ) → same x y ≡ false → same (neg_ℤ x) y ≡ false → eqb (var x) (var y) ≡ false
variable_apart x y p q = ne_eqb (var x) (var y) (λ e. elim (var_cases x y e)
    [ inl s ↦ both_ways (same x y) p (eq_same x y (sym s)) | inr s ↦ both_ways (same (neg_ℤ x) y) q (eq_same (neg_ℤ x) y (sym s)) ])

-- none stands twice,
variables_fresh : (t : Trail) (l : ℤ) → on t l ≡ false → on t (neg_ℤ l) ≡ false → names (variables t) (var l) ≡ false
variables_fresh [] l p q = refl
variables_fresh (e ∷ t) l p q =
    let a = or_parts (same l (literal e)) (on t l) p in
    let b = or_parts (same (neg_ℤ l) (literal e)) (on t (neg_ℤ l)) q in
    or_from (eqb (var l) (var (literal e))) (names (variables t) (var l)) (variable_apart l (literal e) a.0 b.0) (variables_fresh t l a.1 b.1)

variables_once : (n : ℕ) (t : Trail) → WellFormed n t → Once (variables t)
variables_once n [] w = tt
variables_once n (e ∷ t) w = (variables_fresh t (literal e) (fresh w.0) (fresh_negation w.0), variables_once n t w.1)

-- and each is one of 1 to n
has_counting : (a n v : ℕ) → a ≤ v → v < a + n → has (map pos (range_with_len a n)) (pos v) ≡ true
has_counting a zero v h k = let q : ⊥ = omega arith in absurd q
has_counting a (suc n) v h k = elim (cases_eq v a) [
  | inl e ↦ subst (λ x. has (map pos (range_with_len a (suc n))) (pos x) ≡ true) (sym e) (has_first (pos a) (map pos (range_with_len (a + 1) n)))
  | inr e ↦ has_later (pos a) (map pos (range_with_len (a + 1) n)) (pos v) (has_counting (a + 1) n v (omega arith) (omega arith))
]

variables_ranged : (n : ℕ) (t : Trail) → WellFormed n t → All (λ x. has (map pos (range_with_len 1 n)) x ≡ true) (variables t)
variables_ranged n [] w = All-nil (λ x. has (map pos (range_with_len 1 n)) x ≡ true)
variables_ranged n (e ∷ t) w =
    let b = range_bounds n (literal e) (ranged w.0) in let low = b.0 in let high = b.1 in
    All-cons (λ x. has (map pos (range_with_len 1 n)) x ≡ true) (pos (var (literal e))) (variables t) (has_counting 1 n (var (literal e)) low (omega arith)) (variables_ranged n t w.1)

pub length_most : (n : ℕ) (t : Trail) → WellFormed n t → length t ≤ n
length_most n t w =
    let a = length_within (variables t) (map pos (range_with_len 1 n)) (variables_once n t w) (variables_ranged n t w) in
    let b = length-map t (λ e. pos (var (literal e))) in
    let c = length-map-range_with_len pos 1 n in
    omega arith
