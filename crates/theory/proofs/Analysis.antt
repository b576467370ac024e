-- The analysis: what it keeps of the clause that it begins with, and that it ends.
use Rattle.std.proofs.Common.{◌≡◌, ℕ, ◌+◌, ◌<◌, ◌≤◌, Bool, true, false, cond, not, ◌&&◌, leb, ◌⊎◌, List, [], ◌∷◌, ℤ, neg_ℤ, sym, ap, ◌∙◌, subst, inl, inr, arith}
use mathlib.Core.Bool.{false≢true}
use lib.IntN.{neg_ℤ-neg_ℤ}
use Rattle.std.proofs.lemmas.Bool.{cond_both, or_cases, or_right, both_ways, cases_Bool, and_parts, and_from, leb-true, leb-false, not-true}
use Rattle.rules.specs.Literals.{same, has}
use Rattle.rules.proofs.Literals.{same_true, eq_same, all_has, any_has}
use Rattle.theory.specs.Trail.{Entry, Entry.assumed, Entry.decided, Entry.implied, Trail, literal, on, WellFormed}
use Rattle.theory.specs.Chunks.{joins, in_chunk, touches}
use Rattle.theory.specs.Conflict.{AtMostOne, resolvable, resolved, Analysed, Analysed.stops, Analysed.passes, Analysed.replaces}
use Rattle.theory.proofs.Trails.{meets, fresh, on_top, on_below, Part, Part.whole, Part.next, part_formed, part_on, part_same, chunk_top}
use Rattle.theory.proofs.Levels.{level, level_top, level_below, highest_has}
use Rattle.theory.proofs.Chunks.{chunk_part}
use Rattle.theory.proofs.Ranks.{chunk_empty}

pub analysed_one : (member : ℤ → Bool) {t : Trail} {S R : ℤ → Bool} → Analysed member t S R → AtMostOne member R
analysed_one member (stops o) = o
analysed_one member (passes m r a) = analysed_one member a
analysed_one member (replaces m r a) = analysed_one member a

-- what each replacement keeps, the analysis keeps
pub analysed_keeps : (P : (ℤ → Bool) → Type 0) (member : ℤ → Bool) (T : Trail)
    → ((l : ℤ) (others : List ℤ) (s : Trail) (S : ℤ → Bool) → Part T (implied l others ∷ s) → member l ≡ true → S (neg_ℤ l) ≡ true → P S → P (resolved l others S))
    → {t : Trail} {S R : ℤ → Bool} → Analysed member t S R → Part T t → P S → P R
analysed_keeps P member T step (stops o) h p = p
analysed_keeps P member T step (passes m r a) h p = analysed_keeps P member T step a (next h) p
analysed_keeps P member T step (replaces {l} {others} {t} {S} m r a) h p =
    let x = and_parts (member l) (S (neg_ℤ l)) r in
    analysed_keeps P member T step a (next h) (step l others t S h x.0 x.1 p)

resolved_cases : (l : ℤ) (others : List ℤ) (S : ℤ → Bool) (x : ℤ) → resolved l others S x ≡ true → ((S x ≡ true) × (same x (neg_ℤ l) ≡ false)) ⊎ (has others x ≡ true)
resolved_cases l others S x h = elim (or_cases (S x && not (same x (neg_ℤ l))) (has others x) h)
    [ inl c ↦ let r = and_parts (S x) (not (same x (neg_ℤ l))) c in inl (r.0, not-true (same x (neg_ℤ l)) r.1) | inr c ↦ inr c ]

-- the members of a chunk on a part of the trail whose negation is in S
abbrev one : Bool → ℕ
one true = 1
one false = 0

abbrev pub hits : (ℤ → Bool) → Trail → (ℤ → Bool) → ℕ
hits member [] S = 0
hits member (e ∷ t) S = one (resolvable member S (literal e)) + hits member t S

hits_some : (member : ℤ → Bool) (t : Trail) (S : ℤ → Bool) (y : ℤ) → on t y ≡ true → resolvable member S y ≡ true → 1 ≤ hits member t S
hits_some member [] S y o r = absurd (false≢true o)
hits_some member (e ∷ t) S y o r = elim (or_cases (same y (literal e)) (on t y) o) [
  | inl p ↦ let c = ap one (subst (λ v. resolvable member S v ≡ true) (same_true y (literal e) p) r) in omega arith
  | inr p ↦ let c = hits_some member t S y p r in omega arith
]

some_hit : (member : ℤ → Bool) (t : Trail) (S : ℤ → Bool) → 1 ≤ hits member t S → (y : ℤ) × (on t y ≡ true) × (resolvable member S y ≡ true)
some_hit member [] S h = let q : ⊥ = omega arith in absurd q
some_hit member (e ∷ t) S h = elim (cases_Bool (resolvable member S (literal e))) [
  | inl b ↦ (literal e, on_top e t, b)
  | inr b ↦ let c = ap one b in let r = some_hit member t S (omega arith) in (r.0, on_below e t r.0 r.1, r.2)
]

-- the literals of S that touch the chunk are the negations of members that stand on the part
abbrev pub Within : (ℤ → Bool) → Trail → (ℤ → Bool) → Type 0
Within member t S = (x : ℤ) → S x ≡ true → member (neg_ℤ x) ≡ true → on t (neg_ℤ x) ≡ true

hit : (member : ℤ → Bool) (S : ℤ → Bool) (x : ℤ) → S x ≡ true → member (neg_ℤ x) ≡ true → resolvable member S (neg_ℤ x) ≡ true
hit member S x s m = and_from (member (neg_ℤ x)) (S (neg_ℤ (neg_ℤ x))) m (rw neg_ℤ-neg_ℤ s)

within_next : (member : ℤ → Bool) (e : Entry) (t : Trail) (S : ℤ → Bool) → resolvable member S (literal e) ≡ false → Within member (e ∷ t) S → Within member t S
within_next member e t S b h x s m = elim (or_cases (same (neg_ℤ x) (literal e)) (on t (neg_ℤ x)) (h x s m)) [
  | inl p ↦ absurd (both_ways (resolvable member S (literal e)) b (subst (λ v. resolvable member S v ≡ true) (same_true (neg_ℤ x) (literal e) p) (hit member S x s m)))
  | inr p ↦ p
]

-- at most one hit is at most one literal that touches
few_hits : (member : ℤ → Bool) (t : Trail) (S : ℤ → Bool) → Within member t S → hits member t S ≤ 1 → AtMostOne member S
few_hits member [] S h c x y sx mx sy my = absurd (false≢true (h x sx mx))
few_hits member (e ∷ t) S h c x y sx mx sy my = elim (cases_Bool (resolvable member S (literal e))) [
  | inl b ↦ only b x sx mx ∙ sym (only b y sy my)
  | inr b ↦ few_hits member t S (within_next member e t S b h) (let o = ap one b in omega arith) x y sx mx sy my
]
  where
    only : resolvable member S (literal e) ≡ true → (z : ℤ) → S z ≡ true → member (neg_ℤ z) ≡ true → z ≡ neg_ℤ (literal e)
    only b z sz mz = elim (or_cases (same (neg_ℤ z) (literal e)) (on t (neg_ℤ z)) (h z sz mz)) [
      | inl p ↦ sym (neg_ℤ-neg_ℤ z) ∙ ap neg_ℤ (same_true (neg_ℤ z) (literal e) p)
      | inr p ↦ let d = hits_some member t S (neg_ℤ z) p (hit member S z sz mz) in let o = ap one b in let q : ⊥ = omega arith in absurd q
    ]

-- and two hits are two
many_hits : (n : ℕ) (member : ℤ → Bool) (t : Trail) → WellFormed n t → (S : ℤ → Bool) → 1 < hits member t S → AtMostOne member S → ⊥
many_hits n member [] w S c o = omega arith
many_hits n member (e ∷ t) w S c o = elim (cases_Bool (resolvable member S (literal e))) [
  | inl b ↦
      let i = ap one b in
      let r = some_hit member t S (omega arith) in
      let p = and_parts (member (literal e)) (S (neg_ℤ (literal e))) b in
      let q = and_parts (member r.0) (S (neg_ℤ r.0)) r.2 in
      let s : neg_ℤ (literal e) ≡ neg_ℤ r.0 = o (neg_ℤ (literal e)) (neg_ℤ r.0) p.1 (rw neg_ℤ-neg_ℤ p.0) q.1 (rw neg_ℤ-neg_ℤ q.0) in
      let z : r.0 ≡ literal e = sym (neg_ℤ-neg_ℤ r.0) ∙ sym (ap neg_ℤ s) ∙ neg_ℤ-neg_ℤ (literal e) in
      both_ways (on t (literal e)) (fresh w.0) (subst (λ v. on t v ≡ true) z r.1)
  | inr b ↦ many_hits n member t w.1 S (let i = ap one b in omega arith) o
]

-- the analysis as a function
abbrev pub resolved_at : Entry → (ℤ → Bool) → ℤ → Bool
resolved_at (assumed l) S = S
resolved_at (decided l) S = S
resolved_at (implied l others) S = resolved l others S

abbrev pub analyse : (ℤ → Bool) → Trail → (ℤ → Bool) → ℤ → Bool
analyse member [] S = S
analyse member (e ∷ t) S = cond (leb (hits member (e ∷ t) S) 1) S (analyse member t (cond (resolvable member S (literal e)) (resolved_at e S) S))

module _ (n : ℕ) (T : Trail) (w : WellFormed n T) (d : ℤ) where
  reason_false : (l : ℤ) (others : List ℤ) (s : Trail) → Part T (implied l others ∷ s) → (x : ℤ) → has others x ≡ true → on s (neg_ℤ x) ≡ true
  reason_false l others s h = all_has (λ y. on s (neg_ℤ y) ≡ true) others (part_formed n T h w).0.grounded

  -- every literal stays false
  pub analysed_false : {S R : ℤ → Bool} → Analysed (in_chunk d T) T S R → ((x : ℤ) → S x ≡ true → on T (neg_ℤ x) ≡ true) → (x : ℤ) → R x ≡ true → on T (neg_ℤ x) ≡ true
  analysed_false a p = analysed_keeps (λ S. (x : ℤ) → S x ≡ true → on T (neg_ℤ x) ≡ true) (in_chunk d T) T
      (λ l others s S h m z q x r. elim (resolved_cases l others S x r)
      [ inl c ↦ q x c.0 | inr c ↦ part_on T (next h) (neg_ℤ x) (reason_false l others s h x c) ]) a whole p

  level_part : {t : Trail} → Part T t → (x : ℤ) → on t x ≡ true → level T x ≡ level t x
  level_part h x o = part_same level level_below n T h w x o

  -- no level rises
  pub analysed_below : (b : ℕ) {S R : ℤ → Bool} → Analysed (in_chunk d T) T S R → ((x : ℤ) → S x ≡ true → level T (neg_ℤ x) ≤ b) → (x : ℤ) → R x ≡ true → level T (neg_ℤ x) ≤ b
  analysed_below b a p = analysed_keeps (λ S. (x : ℤ) → S x ≡ true → level T (neg_ℤ x) ≤ b) (in_chunk d T) T
      (λ l others s S h m z q x r. elim (resolved_cases l others S x r) [
        | inl c ↦ q x c.0
        | inr c ↦
            let i = level_part (next h) (neg_ℤ x) (reason_false l others s h x c) in
            let j = level_part h l (on_top (implied l others) s) in
            let k = level_top (implied l others) s in
            let f = highest_has (level s) others x c in
            let u = q (neg_ℤ l) z in
            let v = ap (level T) (neg_ℤ-neg_ℤ l) in
            omega arith
      ]) a whole p

  -- a member's reason has another literal that touches the chunk
  reason_touches : (l : ℤ) (others : List ℤ) (s : Trail) → Part T (implied l others ∷ s) → in_chunk d T l ≡ true → (k : ℤ) × (has others k ≡ true) × (in_chunk d T (neg_ℤ k) ≡ true)
  reason_touches l others s h m =
      let a : meets (in_chunk d s) others ≡ true = sym (chunk_top d (implied l others) s) ∙ sym (chunk_part d n T h w l (on_top (implied l others) s)) ∙ m in
      let r = any_has (λ k. in_chunk d s (neg_ℤ k)) others a in
      (r.0, r.1, chunk_part d n T (next h) w (neg_ℤ r.0) (reason_false l others s h r.0 r.1) ∙ r.2)

  abbrev Touching : (ℤ → Bool) → Type 0
  Touching S = (x : ℤ) × (S x ≡ true) × (in_chunk d T (neg_ℤ x) ≡ true)

  -- some literal goes on touching the chunk
  analysed_touching : {S R : ℤ → Bool} → Analysed (in_chunk d T) T S R → ((x : ℤ) × (S x ≡ true) × (in_chunk d T (neg_ℤ x) ≡ true))
      → (x : ℤ) × (R x ≡ true) × (in_chunk d T (neg_ℤ x) ≡ true)
  analysed_touching a p = analysed_keeps Touching (in_chunk d T) T
      (λ l others s S h m z q. let r = reason_touches l others s h m in (r.0, or_right (S r.0 && not (same r.0 (neg_ℤ l))) (has others r.0) r.1, r.2)) a whole p

  -- below the root of the chunk there is no other member
  root_alone : (e : Entry) (s : Trail) → Part T (e ∷ s) → same d (literal e) ≡ true → (S : ℤ → Bool) → 1 < hits (in_chunk d T) (e ∷ s) S → ⊥
  root_alone e s h p S c =
      let r = some_hit (in_chunk d T) s S (at_most (resolvable (in_chunk d T) S (literal e)) (hits (in_chunk d T) s S) c) in
      let f : on s d ≡ false = subst (λ y. on s y ≡ false) (sym (same_true d (literal e) p)) (fresh (part_formed n T h w).0) in
      let m = (and_parts (in_chunk d T r.0) (S (neg_ℤ r.0)) r.2).0 in
      both_ways (in_chunk d s r.0) (chunk_empty d s f r.0) (sym (chunk_part d n T (next h) w r.0 r.1) ∙ m)
    where
      at_most : (b : Bool) (k : ℕ) → 1 < one b + k → 1 ≤ k
      at_most true k z = omega arith
      at_most false k z = omega arith

  within_resolved : (l : ℤ) (others : List ℤ) (s : Trail) (S : ℤ → Bool) → Part T (implied l others ∷ s)
      → Within (in_chunk d T) (implied l others ∷ s) S → Within (in_chunk d T) s (resolved l others S)
  within_resolved l others s S h i x q m = elim (resolved_cases l others S x q) [
    | inl c ↦ elim (or_cases (same (neg_ℤ x) l) (on s (neg_ℤ x)) (i x c.0 m)) [
      | inl p ↦ absurd (both_ways (same x (neg_ℤ l)) c.1 (eq_same x (neg_ℤ l) (sym (neg_ℤ-neg_ℤ x) ∙ ap neg_ℤ (same_true (neg_ℤ x) l p))))
      | inr p ↦ p
    ]
    | inr c ↦ reason_false l others s h x c
  ]

  -- where more than one literal touches, a member with its negation in S is no root: it is implied
  replace_from : (e : Entry) (s : Trail) (S : ℤ → Bool) → Part T (e ∷ s) → Within (in_chunk d T) (e ∷ s) S → 1 < hits (in_chunk d T) (e ∷ s) S
      → resolvable (in_chunk d T) S (literal e) ≡ true → ((R : ℤ → Bool) → Within (in_chunk d T) s R → Analysed (in_chunk d T) s R (analyse (in_chunk d T) s R))
      → Analysed (in_chunk d T) (e ∷ s) S (analyse (in_chunk d T) s (resolved_at e S))
  replace_from e s S h i c r ih = by e h i c r (sym (chunk_top d e s) ∙ sym (chunk_part d n T h w (literal e) (on_top e s)) ∙ (and_parts (in_chunk d T (literal e)) (S (neg_ℤ (literal e))) r).0)
    where
      by : (f : Entry) → Part T (f ∷ s) → Within (in_chunk d T) (f ∷ s) S → 1 < hits (in_chunk d T) (f ∷ s) S → resolvable (in_chunk d T) S (literal f) ≡ true
          → joins d (in_chunk d s) f ≡ true → Analysed (in_chunk d T) (f ∷ s) S (analyse (in_chunk d T) s (resolved_at f S))
      by (assumed l) h' i' c' r' j = absurd (root_alone (assumed l) s h' j S c')
      by (decided l) h' i' c' r' j = absurd (root_alone (decided l) s h' j S c')
      by (implied l others) h' i' c' r' j =
          replaces (many_hits n (in_chunk d T) (implied l others ∷ s) (part_formed n T h' w) S c') r' (ih (resolved l others S) (within_resolved l others s S h' i'))

  -- the function gives an analysis
  analyse_from : (s : Trail) → Part T s → (S : ℤ → Bool) → Within (in_chunk d T) s S → Analysed (in_chunk d T) s S (analyse (in_chunk d T) s S)
  analyse_from [] h S i = stops (λ x y sx mx sy my. absurd (false≢true (i x sx mx)))
  analyse_from (e ∷ s) h S i =
      let M = in_chunk d T in
      let b = resolvable M S (literal e) in
      cond_both (leb (hits M (e ∷ s) S) 1) S (analyse M s (cond b (resolved_at e S) S)) (Analysed M (e ∷ s) S)
      (λ c. stops (few_hits M (e ∷ s) S i (leb-true (hits M (e ∷ s) S) 1 c)))
      (λ c. cond_both b (resolved_at e S) S (λ R. Analysed M (e ∷ s) S (analyse M s R))
      (λ r. replace_from e s S h i (leb-false (hits M (e ∷ s) S) 1 c) r (analyse_from s (next h)))
      (λ r. passes (many_hits n M (e ∷ s) (part_formed n T h w) S (leb-false (hits M (e ∷ s) S) 1 c)) r (analyse_from s (next h) S (within_next M e s S r i))))

  -- of a clause that is false on the trail
  pub analyse_analysed : (C : List ℤ) → ((x : ℤ) → has C x ≡ true → on T (neg_ℤ x) ≡ true) → Analysed (in_chunk d T) T (has C) (analyse (in_chunk d T) T (has C))
  analyse_analysed C f = analyse_from T whole (has C) (λ x s m. f x s)

  -- one literal is left that touches the chunk
  pub one_touching : (C : List ℤ) → touches T d C ≡ true → {R : ℤ → Bool} → Analysed (in_chunk d T) T (has C) R → (u : ℤ) × (R u ≡ true) × (in_chunk d T (neg_ℤ u) ≡ true)
  one_touching C h a = let r = any_has (λ l. in_chunk d T (neg_ℤ l)) C h in analysed_touching a (r.0, r.1, r.2)
