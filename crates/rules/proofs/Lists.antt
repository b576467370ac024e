-- Laws of lists: tests of all elements, filters, clauses whose literals are false, and literals of different variables.
use Rattle.std.proofs.Common.{◌≡◌, ℕ, zero, suc, ◌<◌, ◌≤◌, Bool, true, false, not, ◌||◌, eqb, ltb, List, [], ◌∷◌, ◌++◌, map, length, take, ℤ, neg_ℤ, All, filter, sym, refl, ap, inl, inr, arith}
use mathlib.Core.Bool.{false≢true}
use Rattle.std.proofs.lemmas.List.Elements.{All-nil, All-cons, All-head, All-tail, All-weaker, All-take, All-push, All-filter}
use Rattle.std.proofs.lemmas.List.Filters.{length-filter_both}
use Rattle.std.proofs.lemmas.Bool.{cond_both, cases_Bool, both_ways, and_parts, or_parts, or_from, eq-eqb, ne_eqb, ltb-true, not_from_true, not_from_false}
use Rattle.rules.specs.Literals.{var, same, has, names, Once}
use Rattle.rules.specs.Clauses.{loose, status, is_falsified, is_unit}
use Rattle.rules.specs.Books.{rising}
use Rattle.rules.proofs.Literals.{same_true, same_refl, var_neg, all_has, has_all}
use Rattle.rules.proofs.Statuses.{in_kept}

pub kept_none : {A : Type 0} (p : A → Bool) (xs : List A) → All (λ x. p x ≡ false) xs → filter p xs ≡ []
kept_none p [] h = refl
kept_none p (x ∷ xs) h = rw (All-head (λ y. p y ≡ false) x xs h) (kept_none p xs (All-tail (λ y. p y ≡ false) x xs h))

-- whether a clause is falsified or unit
abbrev pub asserts : (ℤ → Bool) → List ℤ → Bool
asserts f C = is_falsified (status f C) || is_unit (status f C)

-- where all literals of a clause are false, none is loose
pub none_loose : (f : ℤ → Bool) (C : List ℤ) → All (λ l. f (neg_ℤ l) ≡ true) C → loose f C ≡ []
none_loose f C h = kept_none (λ l. not (f (neg_ℤ l))) C (All-weaker (λ l. f (neg_ℤ l) ≡ true) (λ l. not (f (neg_ℤ l)) ≡ false) (λ l e. not_from_true (f (neg_ℤ l)) e) C h)

-- a list does not name a variable when each of its literals has another
names_all : (ls : List ℤ) (v : ℕ) → names ls v ≡ false → All (λ x. eqb v (var x) ≡ false) ls
names_all [] v h = All-nil (λ x. eqb v (var x) ≡ false)
names_all (l ∷ ls) v h = let r = or_parts (eqb v (var l)) (names ls v) h in All-cons (λ x. eqb v (var x) ≡ false) l ls r.0 (names_all ls v r.1)

pub all_names : (ls : List ℤ) (v : ℕ) → All (λ x. eqb v (var x) ≡ false) ls → names ls v ≡ false
all_names [] v h = refl
all_names (l ∷ ls) v h =
    let other : ℤ → Type 0 = λ x. eqb v (var x) ≡ false in or_from (eqb v (var l)) (names ls v) (All-head other l ls h) (all_names ls v (All-tail other l ls h))

pub once_kept : (p : ℤ → Bool) (ls : List ℤ) → Once ls → Once (filter p ls)
once_kept p [] h = tt
once_kept p (l ∷ ls) h =
    let rest = once_kept p ls h.1 in
    let other : ℤ → Type 0 = λ x. eqb (var l) (var x) ≡ false in
    cond_both (p l) (l ∷ filter p ls) (filter p ls) Once (λ _. (all_names (filter p ls) (var l) (All-filter p other ls (names_all ls (var l) h.0)), rest)) (λ _. rest)

pub once_take : (k : ℕ) (ls : List ℤ) → Once ls → Once (take k ls)
once_take zero ls h = tt
once_take (suc k) [] h = tt
once_take (suc k) (l ∷ ls) h = (all_names (take k ls) (var l) (All-take (λ x. eqb (var l) (var x) ≡ false) k ls (names_all ls (var l) h.0)), once_take k ls h.1)

pub once_push : (ls : List ℤ) (y : ℤ) → Once ls → All (λ x. eqb (var x) (var y) ≡ false) ls → Once (ls ++ y ∷ [])
once_push [] y h d = (refl, tt)
once_push (l ∷ ls) y h d =
    let other : ℤ → Type 0 = λ x. eqb (var x) (var y) ≡ false in
    (all_names (ls ++ y ∷ []) (var l) (All-push (λ x. eqb (var l) (var x) ≡ false) ls y (names_all ls (var l) h.0) (All-head other l ls d)), once_push ls y h.1 (All-tail other l ls d))

names_neg : (ls : List ℤ) (v : ℕ) → names (map neg_ℤ ls) v ≡ names ls v
names_neg [] v = refl
names_neg (l ∷ ls) v = rw (var_neg l, names_neg ls v) refl

pub once_neg : (ls : List ℤ) → Once ls → Once (map neg_ℤ ls)
once_neg [] h = tt
once_neg (l ∷ ls) h = (rw (var_neg l, names_neg ls (var l)) h.0, once_neg ls h.1)

rising_names : (k : ℕ) (ls : List ℤ) → rising k ls ≡ true → (v : ℕ) → v ≤ k → names ls v ≡ false
rising_names k [] h v b = refl
rising_names k (l ∷ ls) h v b =
    let r = and_parts (ltb k (var l)) (rising (var l) ls) h in
    let a = ltb-true k (var l) r.0 in
    or_from (eqb v (var l)) (names ls v) (ne_eqb v (var l) (λ e. omega arith)) (rising_names (var l) ls r.1 v (omega arith))

pub rising_once : (k : ℕ) (ls : List ℤ) → rising k ls ≡ true → Once ls
rising_once k [] h = tt
rising_once k (l ∷ ls) h =
    let r = and_parts (ltb k (var l)) (rising (var l) ls) h in
    (rising_names (var l) ls r.1 (var l) (omega arith), rising_once (var l) ls r.1)

some_length : (ls : List ℤ) (x : ℤ) → has ls x ≡ true → 0 < length ls
some_length [] x h = absurd (false≢true h)
some_length (l ∷ ls) x h = omega arith

-- literals of different variables that all stand in a list are no more than it has
pub length_within : (xs ls : List ℤ) → Once xs → All (λ x. has ls x ≡ true) xs → length xs ≤ length ls
length_within [] ls o h = omega arith
length_within (x ∷ xs) ls o h =
    let inside : ℤ → Type 0 = λ z. has ls z ≡ true in
    let p : ℤ → Bool = λ y. same y x in
    let q : ℤ → Bool = λ y. not (same y x) in
    let apart : (y : ℤ) → has xs y ≡ true → same y x ≡ false = λ y k. elim (cases_Bool (same y x)) [
      | inl e ↦ absurd (both_ways (eqb (var x) (var y)) (all_has (λ z. eqb (var x) (var z) ≡ false) xs (names_all xs (var x) o.0) y k) (eq-eqb (var x) (var y) (ap var (sym (same_true y x e)))))
      | inr e ↦ e
    ] in
    let rest = length_within xs (filter q ls) o.1 (has_all (λ y. has (filter q ls) y ≡ true) xs (λ y k. in_kept q ls y (all_has inside xs (All-tail inside x xs h) y k) (not_from_false (same y x) (apart y k)))) in
    let here = some_length (filter p ls) x (in_kept p ls x (All-head inside x xs h) (same_refl x)) in
    let both = length-filter_both p q (λ _. refl) ls in
    omega arith
