-- Laws of literals and of lists of them.
use Rattle.std.proofs.Common.{◌≡◌, ℕ, zero, suc, ◌<◌, ◌≤◌, Bool, true, ◌&&◌, ◌||◌, eqb, leb, ◌⊎◌, List, [], ◌∷◌, ◌++◌, length, ℤ, pos, negsuc, neg_ℤ, Decides, All, sym, refl, ap, ◌∙◌, subst, inl, inr, arith}
use Rattle.std.proofs.lemmas.List.Elements.{All-nil, All-cons, All-head, All-tail}
use mathlib.Core.Bool.{false≢true}
use Rattle.std.specs.List.{HoldsAt}
use Rattle.std.proofs.lemmas.Bool.{eqb-true, eq-eqb, or_cases, or_left, or_right, and_parts, and_from, leb-true, le-leb}
use Rattle.std.proofs.lemmas.Bool.Decides.{Decides-by_or}
use Rattle.std.proofs.Math.Bool.{or_assoc, or-false}
use Rattle.rules.specs.Literals.{var, same, in_range, has, names, any_pass}

pub same_true : (x y : ℤ) → same x y ≡ true → x ≡ y
same_true (pos a) (pos b) e = ap pos (eqb-true a b e)
same_true (pos a) (negsuc b) e = absurd (false≢true e)
same_true (negsuc a) (pos b) e = absurd (false≢true e)
same_true (negsuc a) (negsuc b) e = ap negsuc (eqb-true a b e)

pub same_refl : (x : ℤ) → same x x ≡ true
same_refl (pos a) = eq-eqb a a refl
same_refl (negsuc a) = eq-eqb a a refl

pub eq_same : (x y : ℤ) → x ≡ y → same x y ≡ true
eq_same x y e = subst (λ z. same x z ≡ true) e (same_refl x)

pub var_neg : (x : ℤ) → var (neg_ℤ x) ≡ var x
var_neg (pos zero) = refl
var_neg (pos (suc v)) = refl
var_neg (negsuc v) = refl

-- two literals of one variable are the same, or negations of each other
pub var_cases : (x y : ℤ) → var x ≡ var y → (y ≡ x) ⊎ (y ≡ neg_ℤ x)
var_cases (pos a) (pos b) e = inl (ap pos (sym e))
var_cases (pos a) (negsuc b) e = inr (subst (λ k. negsuc b ≡ neg_ℤ (pos k)) (sym e) refl)
var_cases (negsuc a) (pos b) e = inr (ap pos (sym e))
var_cases (negsuc a) (negsuc b) e = let q : b ≡ a = omega arith in inl (ap negsuc q)

pub neg_apart : (x : ℤ) → 1 ≤ var x → x ≡ neg_ℤ x → ⊥
neg_apart (pos zero) h e = omega arith
neg_apart (pos (suc v)) h e = false≢true (eq_same (pos (suc v)) (negsuc v) e)
neg_apart (negsuc v) h e = false≢true (eq_same (negsuc v) (pos (suc v)) e)

pub range_bounds : (n : ℕ) (l : ℤ) → in_range n l ≡ true → (1 ≤ var l) × (var l ≤ n)
range_bounds n l h = let p = and_parts (leb 1 (var l)) (leb (var l) n) h in (leb-true 1 (var l) p.0, leb-true (var l) n p.1)

pub bounds_range : (n : ℕ) (l : ℤ) → 1 ≤ var l → var l ≤ n → in_range n l ≡ true
bounds_range n l a b = and_from (leb 1 (var l)) (leb (var l) n) (le-leb 1 (var l) a) (le-leb (var l) n b)

pub range_neg : (n : ℕ) (l : ℤ) → in_range n (neg_ℤ l) ≡ in_range n l
range_neg n l = ap (λ v. leb 1 v && leb v n) (var_neg l)

-- the literal that a list begins with
pub has_first : (l : ℤ) (ls : List ℤ) → has (l ∷ ls) l ≡ true
has_first l ls = or_left (same l l) (has ls l) (same_refl l)

pub has_later : (l : ℤ) (ls : List ℤ) (x : ℤ) → has ls x ≡ true → has (l ∷ ls) x ≡ true
has_later l ls x h = or_right (same x l) (has ls x) h

-- `has` tells whether some place of the list has the literal
pub decides_has : (x : ℤ) (ls : List ℤ) → Decides (has ls x) ((k : ℕ) × (k < length ls) × HoldsAt (λ y. y ≡ x) ls k)
decides_has x ls = Decides-by_or (λ l. same x l) (λ y. y ≡ x) (λ k. has k x) (λ l. ((λ e. sym (same_true x l e)), (λ e. eq_same x l (sym e)))) refl (λ _ _. refl) ls

pub has_push : (ls : List ℤ) (l x : ℤ) → has (ls ++ (l ∷ [])) x ≡ (has ls x || same x l)
has_push [] l x = or-false (same x l)
has_push (k ∷ ls) l x = ap (λ b. same x k || b) (has_push ls l x) ∙ sym (or_assoc (same x k) (has ls x) (same x l))

pub any_push : (p : ℤ → Bool) (ls : List ℤ) (l : ℤ) → any_pass p (ls ++ (l ∷ [])) ≡ (any_pass p ls || p l)
any_push p [] l = or-false (p l)
any_push p (k ∷ ls) l = ap (λ b. p k || b) (any_push p ls l) ∙ sym (or_assoc (p k) (any_pass p ls) (p l))

pub all_has : (P : ℤ → Type 0) (ls : List ℤ) → All P ls → (x : ℤ) → has ls x ≡ true → P x
all_has P [] h x e = absurd (false≢true e)
all_has P (l ∷ ls) h x e = elim (or_cases (same x l) (has ls x) e)
    [ inl p ↦ subst P (sym (same_true x l p)) (All-head P l ls h) | inr p ↦ all_has P ls (All-tail P l ls h) x p ]

pub has_all : (P : ℤ → Type 0) (ls : List ℤ) → ((x : ℤ) → has ls x ≡ true → P x) → All P ls
has_all P [] h = All-nil P
has_all P (l ∷ ls) h = All-cons P l ls (h l (has_first l ls)) (has_all P ls (λ x e. h x (has_later l ls x e)))

pub names_has : (ls : List ℤ) (v : ℕ) → names ls v ≡ true → (x : ℤ) × (has ls x ≡ true) × (v ≡ var x)
names_has [] v h = absurd (false≢true h)
names_has (l ∷ ls) v h = elim (or_cases (eqb v (var l)) (names ls v) h) [
  | inl p ↦ (l, has_first l ls, eqb-true v (var l) p)
  | inr p ↦ let r = names_has ls v p in (r.0, has_later l ls r.0 r.1, r.2)
]

pub any_has : (p : ℤ → Bool) (ls : List ℤ) → any_pass p ls ≡ true → (x : ℤ) × (has ls x ≡ true) × (p x ≡ true)
any_has p [] h = absurd (false≢true h)
any_has p (l ∷ ls) h = elim (or_cases (p l) (any_pass p ls) h)
    [ inl e ↦ (l, has_first l ls, e) | inr e ↦ let r = any_has p ls e in (r.0, has_later l ls r.0 r.1, r.2) ]

pub has_any : (p : ℤ → Bool) (ls : List ℤ) (x : ℤ) → has ls x ≡ true → p x ≡ true → any_pass p ls ≡ true
has_any p [] x h e = absurd (false≢true h)
has_any p (l ∷ ls) x h e = elim (or_cases (same x l) (has ls x) h)
    [ inl q ↦ or_left (p l) (any_pass p ls) (subst (λ z. p z ≡ true) (same_true x l q) e) | inr q ↦ or_right (p l) (any_pass p ls) (has_any p ls x q e) ]
