-- What stands on a trail, and what a fresh entry on top leaves as it was.
use Rattle.std.proofs.Common.{◌≡◌, ℕ, ◌<◌, ◌≤◌, Bool, true, false, not, ◌&&◌, ◌⊎◌, List, [], ◌∷◌, length, ℤ, neg_ℤ, All, sym, refl, ap, ◌∙◌, subst, inl, inr, arith}
use Rattle.std.proofs.lemmas.List.Elements.{All-head, All-tail}
use mathlib.Core.Bool.{false≢true}
use lib.IntN.{neg_ℤ-neg_ℤ}
use Rattle.std.proofs.lemmas.Bool.{cond_both, or_cases, or_from, or_left, or_right, both_ways, cases_Bool, and_parts, and_from, not-true, not_from_false, and_cases, not-false}
use Rattle.rules.specs.Literals.{var, same, in_range, has, any_pass}
use Rattle.rules.proofs.Literals.{same_true, same_refl, neg_apart, range_bounds}
use Rattle.theory.specs.Trail.{Entry, Entry.assumed, Entry.decided, Entry.implied, Trail, literal, on, free, decided_literals, place_of, Placeable, WellFormed}
use Rattle.theory.specs.Chunks.{joins, in_chunk}

-- the negation of one of the clause's literals passes
abbrev pub meets : (ℤ → Bool) → List ℤ → Bool
meets test C = any_pass (λ k. test (neg_ℤ k)) C

-- every literal of the clause is false
abbrev pub AllFalse : Trail → List ℤ → Type 0
AllFalse t C = All (λ k. on t (neg_ℤ k) ≡ true) C

pub meets_cong : (f g : ℤ → Bool) (C : List ℤ) → All (λ k. f (neg_ℤ k) ≡ g (neg_ℤ k)) C → meets f C ≡ meets g C
meets_cong f g [] h = refl
meets_cong f g (k ∷ C) h =
    let alike : ℤ → Type 0 = λ x. f (neg_ℤ x) ≡ g (neg_ℤ x) in rw (All-head alike k C h, meets_cong f g C (All-tail alike k C h))

pub meets_none : (f : ℤ → Bool) → ((x : ℤ) → f x ≡ false) → (C : List ℤ) → meets f C ≡ false
meets_none f h [] = refl
meets_none f h (k ∷ C) = or_from (f (neg_ℤ k)) (meets f C) (h (neg_ℤ k)) (meets_none f h C)

-- free literals
pub free_parts : (n : ℕ) (t : Trail) (l : ℤ) → free n t l ≡ true → (in_range n l ≡ true) × (on t l ≡ false) × (on t (neg_ℤ l) ≡ false)
free_parts n t l h =
    let p = and_parts (in_range n l) (not (on t l) && not (on t (neg_ℤ l))) h in
    let r = and_parts (not (on t l)) (not (on t (neg_ℤ l))) p.1 in
    (p.0, not-true (on t l) r.0, not-true (on t (neg_ℤ l)) r.1)

pub parts_free : (n : ℕ) (t : Trail) (l : ℤ) → in_range n l ≡ true → on t l ≡ false → on t (neg_ℤ l) ≡ false → free n t l ≡ true
parts_free n t l r a b = and_from (in_range n l) (not (on t l) && not (on t (neg_ℤ l))) r
    (and_from (not (on t l)) (not (on t (neg_ℤ l))) (not_from_false (on t l) a) (not_from_false (on t (neg_ℤ l)) b))

pub assigned : (n : ℕ) (t : Trail) (l : ℤ) → free n t l ≡ false → in_range n l ≡ true → (on t l ≡ true) ⊎ (on t (neg_ℤ l) ≡ true)
assigned n t l f r = elim (and_cases (in_range n l) (not (on t l) && not (on t (neg_ℤ l))) f) [
  | inl p ↦ absurd (both_ways (in_range n l) p r)
  | inr p ↦ elim (and_cases (not (on t l)) (not (on t (neg_ℤ l))) p) [ inl q ↦ inl (not-false (on t l) q) | inr q ↦ inr (not-false (on t (neg_ℤ l)) q) ]
]

pub ranged : {n : ℕ} {t : Trail} {e : Entry} → Placeable n t e → in_range n (literal e) ≡ true
ranged {n} {t} {e} h = (free_parts n t (literal e) h.unassigned).0

pub fresh : {n : ℕ} {t : Trail} {e : Entry} → Placeable n t e → on t (literal e) ≡ false
fresh {n} {t} {e} h = (free_parts n t (literal e) h.unassigned).1

pub fresh_negation : {n : ℕ} {t : Trail} {e : Entry} → Placeable n t e → on t (neg_ℤ (literal e)) ≡ false
fresh_negation {n} {t} {e} h = (free_parts n t (literal e) h.unassigned).2

-- what stands on a trail is not a literal that does not
pub apart : (t : Trail) (x y : ℤ) → on t y ≡ false → on t x ≡ true → same x y ≡ false
apart t x y f o = elim (cases_Bool (same x y))
    [ inl e ↦ absurd (both_ways (on t y) f (subst (λ z. on t z ≡ true) (same_true x y e) o)) | inr e ↦ e ]

pub on_top : (e : Entry) (t : Trail) → on (e ∷ t) (literal e) ≡ true
on_top e t = or_left (same (literal e) (literal e)) (on t (literal e)) (same_refl (literal e))

pub on_below : (e : Entry) (t : Trail) (x : ℤ) → on t x ≡ true → on (e ∷ t) x ≡ true
on_below e t x o = or_right (same x (literal e)) (on t x) o

pub on_range : (n : ℕ) (t : Trail) → WellFormed n t → (x : ℤ) → on t x ≡ true → in_range n x ≡ true
on_range n [] w x o = absurd (false≢true o)
on_range n (e ∷ t) w x o = elim (or_cases (same x (literal e)) (on t x) o)
    [ inl p ↦ subst (λ y. in_range n y ≡ true) (sym (same_true x (literal e) p)) (ranged w.0) | inr p ↦ on_range n t w.1 x p ]

-- of a literal that stands on a trail the negation does not
pub not_both : (n : ℕ) (t : Trail) → WellFormed n t → (x : ℤ) → on t x ≡ true → on t (neg_ℤ x) ≡ false
not_both n [] w x h = refl
not_both n (e ∷ t) w x h = elim (or_cases (same x (literal e)) (on t x) h) [
  | inl p ↦ rw (same_true x (literal e) p)
      (or_from (same (neg_ℤ (literal e)) (literal e)) (on t (neg_ℤ (literal e))) (differ (literal e) (range_bounds n (literal e) (ranged w.0)).0) (fresh_negation w.0))
  | inr p ↦ or_from (same (neg_ℤ x) (literal e)) (on t (neg_ℤ x)) (other p) (not_both n t w.1 x p)
]
  where
    differ : (y : ℤ) → 1 ≤ var y → same (neg_ℤ y) y ≡ false
    differ y z = elim (cases_Bool (same (neg_ℤ y) y)) [ inl e ↦ absurd (neg_apart y z (sym (same_true (neg_ℤ y) y e))) | inr e ↦ e ]

    other : on t x ≡ true → same (neg_ℤ x) (literal e) ≡ false
    other p = elim (cases_Bool (same (neg_ℤ x) (literal e))) [
      | inl q ↦
          let r : x ≡ neg_ℤ (literal e) = sym (neg_ℤ-neg_ℤ x) ∙ ap neg_ℤ (same_true (neg_ℤ x) (literal e) q) in
          absurd (both_ways (on t (neg_ℤ (literal e))) (fresh_negation w.0) (subst (λ z. on t z ≡ true) r p))
      | inr q ↦ q
    ]

-- decisions and assumptions stand on the trail
pub decided_on : (t : Trail) (d : ℤ) → has (decided_literals t) d ≡ true → on t d ≡ true
decided_on [] d h = absurd (false≢true h)
decided_on (assumed l ∷ t) d h = on_below (assumed l) t d (decided_on t d h)
decided_on (decided l ∷ t) d h = elim (or_cases (same d l) (has (decided_literals t) d) h)
    [ inl p ↦ or_left (same d l) (on t d) p | inr p ↦ on_below (decided l) t d (decided_on t d p) ]
decided_on (implied l others ∷ t) d h = on_below (implied l others) t d (decided_on t d h)

-- the parts of a trail, each from its oldest entry up to some place
pub data Part (T : Trail) : Trail → Type 0 where
  whole : Part T T
  next : {e : Entry} {t : Trail} → Part T (e ∷ t) → Part T t

pub part_formed : (n : ℕ) (T : Trail) {t : Trail} → Part T t → WellFormed n T → WellFormed n t
part_formed n T whole w = w
part_formed n T (next h) w = (part_formed n T h w).1

pub part_on : (T : Trail) {t : Trail} → Part T t → (x : ℤ) → on t x ≡ true → on T x ≡ true
part_on T whole x o = o
part_on T (next {e} {t} h) x o = part_on T h x (on_below e t x o)

-- what is defined of a literal by the entry where it stands is the same on every part on which it stands
pub part_same : {A : Type 0} (f : Trail → ℤ → A) → ((e : Entry) (t : Trail) (x : ℤ) → same x (literal e) ≡ false → f (e ∷ t) x ≡ f t x)
    → (n : ℕ) (T : Trail) {t : Trail} → Part T t → WellFormed n T → (x : ℤ) → on t x ≡ true → f T x ≡ f t x
part_same f step n T whole w x o = refl
part_same f step n T (next {e} {t} h) w x o =
    part_same f step n T h w x (on_below e t x o) ∙ step e t x (apart t x (literal e) (fresh (part_formed n T h w).0) o)

pub chunk_below : (d : ℤ) (e : Entry) (t : Trail) (x : ℤ) → same x (literal e) ≡ false → in_chunk d (e ∷ t) x ≡ in_chunk d t x
chunk_below d e t x h = rw h

pub chunk_top : (d : ℤ) (e : Entry) (t : Trail) → in_chunk d (e ∷ t) (literal e) ≡ joins d (in_chunk d t) e
chunk_top d e t = rw (same_refl (literal e))

pub place_below : (e : Entry) (t : Trail) (x : ℤ) → same x (literal e) ≡ false → place_of (e ∷ t) x ≡ place_of t x
place_below e t x h = rw h

pub place_top : (e : Entry) (t : Trail) (x : ℤ) → same x (literal e) ≡ true → place_of (e ∷ t) x ≡ length t
place_top e t x h = rw h

pub place_length : (t : Trail) (x : ℤ) → on t x ≡ true → place_of t x < length t
place_length [] x o = absurd (false≢true o)
place_length (e ∷ t) x o = cond_both (same x (literal e)) (length t) (place_of t x) (λ k. k < length (e ∷ t)) (λ _. omega arith)
    (λ p. let o' : on t x ≡ true = rw p at o in let a = place_length t x o' in omega arith)

-- two literals at one place are the same
pub place_one : (t : Trail) (x y : ℤ) → on t x ≡ true → on t y ≡ true → place_of t x ≡ place_of t y → x ≡ y
place_one [] x y o p h = absurd (false≢true o)
place_one (e ∷ t) x y o p h = elim (cases_Bool (same x (literal e))) [
  | inl a ↦ elim (cases_Bool (same y (literal e))) [
    | inl b ↦ same_true x (literal e) a ∙ sym (same_true y (literal e) b)
    | inr b ↦
        let p' : on t y ≡ true = rw b at p in
        let c = place_length t y p' in let i = place_top e t x a in let j = place_below e t y b in
        let f : ⊥ = omega arith in absurd f
  ]
  | inr a ↦
      let o' : on t x ≡ true = rw a at o in
      let i = place_below e t x a in
      elim (cases_Bool (same y (literal e))) [
        | inl b ↦ let c = place_length t x o' in let j = place_top e t y b in let f : ⊥ = omega arith in absurd f
        | inr b ↦ let p' : on t y ≡ true = rw b at p in place_one t x y o' p' (sym i ∙ h ∙ place_below e t y b)
      ]
]
