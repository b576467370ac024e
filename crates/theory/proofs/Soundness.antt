-- What every admitted assignment satisfies: the analysis keeps it, and at level 0 it makes literals true.
use Rattle.std.proofs.Common.{◌≡◌, ℕ, ◌≤◌, Bool, true, false, not, ◌&&◌, List, [], ◌∷◌, ℤ, neg_ℤ, sym, ap, ◌∙◌, subst, inl, inr, arith}
use mathlib.Core.Bool.{false≢true}
use lib.IntN.{neg_ℤ-neg_ℤ}
use Rattle.rules.proofs.Valuations.{makes_neg}
use Rattle.std.proofs.lemmas.Bool.{not_from_true, or_cases, or_left, or_right, both_ways, cases_Bool, cases_lt, and_from, not_from_false}
use Rattle.rules.specs.Literals.{var, same, has}
use Rattle.rules.specs.Sources.{makes}
use Rattle.rules.proofs.Literals.{same_true, same_refl, all_has, has_any, has_first, has_later, range_bounds}
use Rattle.theory.specs.Trail.{Entry, Entry.assumed, Entry.decided, Entry.implied, Trail, literal, on, assumed_literals, decided_literals, Placeable, WellFormed}
use Rattle.theory.specs.Chunks.{in_chunk, touches}
use Rattle.theory.specs.Conflict.{resolved, Analysed}
use Rattle.theory.proofs.Trails.{ranged, fresh, apart, on_range, chunk_below, chunk_top, Part, Part.whole, Part.next, part_formed}
use Rattle.theory.proofs.Levels.{decisions, level, entry_level, level_top, highest, highest_has}
use Rattle.theory.proofs.Ranks.{top_touched}
use Rattle.theory.proofs.Analysis.{analysed_keeps}

-- an assignment makes a literal of the set true
abbrev pub Satisfies : List Bool → (ℤ → Bool) → Type 0
Satisfies bs S = (x : ℤ) × (S x ≡ true) × (makes bs x ≡ true)

pub makes_one : (bs : List Bool) (l : ℤ) → 1 ≤ var l → makes bs l ≡ true → makes bs (neg_ℤ l) ≡ true → ⊥
makes_one bs l h p q = both_ways (makes bs (neg_ℤ l)) (makes_neg bs l h ∙ not_from_true (makes bs l) p) q

module _ (Admitted : List Bool → Type 0) where
  -- every admitted assignment satisfies the set; so it does each reason of a trail
  abbrev pub Entailed : (ℤ → Bool) → Type 0
  Entailed S = (bs : List Bool) → Admitted bs → Satisfies bs S

  abbrev pub EntailedReason : Entry → Type 0
  EntailedReason (assumed l) = Unit {0}
  EntailedReason (decided l) = Unit {0}
  EntailedReason (implied l others) = Entailed (has (l ∷ others))

  abbrev pub EntailedReasons : Trail → Type 0
  EntailedReasons [] = Unit {0}
  EntailedReasons (e ∷ t) = EntailedReason e × EntailedReasons t

  part_reasons : (T : Trail) {t : Trail} → Part T t → EntailedReasons T → EntailedReasons t
  part_reasons T whole r = r
  part_reasons T (next h) r = (part_reasons T h r).1

  -- resolving two entailed clauses gives an entailed one
  resolved_entailed : (l : ℤ) (others : List ℤ) → 1 ≤ var l → Entailed (has (l ∷ others)) → (S : ℤ → Bool) → Entailed S → Entailed (resolved l others S)
  resolved_entailed l others v r S h bs ad =
      let y = r bs ad in
      let x = h bs ad in
      elim (or_cases (same y.0 l) (has others y.0) y.1) [
        | inl p ↦
            let z : makes bs l ≡ true = subst (λ k. makes bs k ≡ true) (same_true y.0 l p) y.2 in
            let d : same x.0 (neg_ℤ l) ≡ false = elim (cases_Bool (same x.0 (neg_ℤ l)))
            [ inl q ↦ absurd (makes_one bs l v z (subst (λ k. makes bs k ≡ true) (same_true x.0 (neg_ℤ l) q) x.2)) | inr q ↦ q ] in (
              x.0,
              or_left (S x.0 && not (same x.0 (neg_ℤ l))) (has others x.0)
                  (and_from (S x.0) (not (same x.0 (neg_ℤ l))) x.1 (not_from_false (same x.0 (neg_ℤ l)) d)),
              x.2,
            )
        | inr p ↦ (y.0, or_right (S y.0 && not (same y.0 (neg_ℤ l))) (has others y.0) p, y.2)
      ]

  pub analysed_entailed : (n : ℕ) (member : ℤ → Bool) (T : Trail) → WellFormed n T → EntailedReasons T → {S R : ℤ → Bool} → Analysed member T S R → Entailed S → Entailed R
  analysed_entailed n member T w r a h = analysed_keeps Entailed member T
      (λ l others s S k m z p. resolved_entailed l others (range_bounds n l (ranged (part_formed n T k w).0)).0 (part_reasons T k r).0 S p) a whole h

  -- an assignment makes true the assumed literals whose chunks hold x
  abbrev Rooted : List Bool → Trail → ℤ → Type 0
  Rooted bs t x = (r : ℤ) → has (assumed_literals t) r ≡ true → in_chunk r t x ≡ true → makes bs r ≡ true

  on_positive : (n : ℕ) (t : Trail) → WellFormed n t → (x : ℤ) → on t x ≡ true → 1 ≤ var x
  on_positive n t w x o = (range_bounds n x (on_range n t w x o)).0

  top_true : (n : ℕ) (bs : List Bool) → Admitted bs → (e : Entry) (t : Trail) → Placeable n t e → WellFormed n t → EntailedReason e
      → ((x : ℤ) → on t x ≡ true → level t x ≡ 0 → Rooted bs t x → makes bs x ≡ true)
      → entry_level e (decisions t) (level t) ≡ 0 → Rooted bs (e ∷ t) (literal e) → makes bs (literal e) ≡ true
  top_true n bs ad (assumed l) t f w r ih z h = h l (has_first l (assumed_literals t)) (chunk_top l (assumed l) t ∙ same_refl l)
  top_true n bs ad (decided l) t f w r ih z h = let q : ⊥ = omega arith in absurd q
  top_true n bs ad (implied l others) t f w r ih z h =
      let y = r bs ad in
      elim (or_cases (same y.0 l) (has others y.0) y.1) [
        | inl p ↦ subst (λ k. makes bs k ≡ true) (same_true y.0 l p) y.2
        | inr p ↦
            let o : on t (neg_ℤ y.0) ≡ true = all_has (λ v. on t (neg_ℤ v) ≡ true) others f.grounded y.0 p in
            let b = highest_has (level t) others y.0 p in
            let v : makes bs (neg_ℤ y.0) ≡ true = ih (neg_ℤ y.0) o (omega arith)
            (λ r' s i. h r' s (chunk_top r' (implied l others) t ∙ has_any (λ k. in_chunk r' t (neg_ℤ k)) others y.0 p i)) in
            absurd (makes_one bs (neg_ℤ y.0) (on_positive n t w (neg_ℤ y.0) o) v (rw neg_ℤ-neg_ℤ y.2))
      ]

  assumed_grows : (e : Entry) (t : Trail) (r : ℤ) → has (assumed_literals t) r ≡ true → has (assumed_literals (e ∷ t)) r ≡ true
  assumed_grows (assumed l) t r h = has_later l (assumed_literals t) r h
  assumed_grows (decided l) t r h = h
  assumed_grows (implied l others) t r h = h

  -- a literal in no decided chunk is made true where those assumed literals are whose chunks hold it
  pub level_0_true : (n : ℕ) (bs : List Bool) → Admitted bs → (t : Trail) → WellFormed n t → EntailedReasons t → (x : ℤ) → on t x ≡ true → level t x ≡ 0
      → ((r : ℤ) → has (assumed_literals t) r ≡ true → in_chunk r t x ≡ true → makes bs r ≡ true) → makes bs x ≡ true
  level_0_true n bs ad [] w r x o z h = absurd (false≢true o)
  level_0_true n bs ad (e ∷ t) w r x o z h = elim (or_cases (same x (literal e)) (on t x) o) [
    | inl p ↦
        let q = same_true x (literal e) p in
        rw q (top_true n bs ad e t w.0 w.1 r.0 (level_0_true n bs ad t w.1 r.1)
        (sym (level_top e t) ∙ sym (ap (level (e ∷ t)) q) ∙ z) (subst (Rooted bs (e ∷ t)) q h))
    | inr p ↦
        let d = apart t x (literal e) (fresh w.0) p in
        let z' : level t x ≡ 0 = rw d at z in
        level_0_true n bs ad t w.1 r.1 x p z' (λ r' s i. h r' (assumed_grows e t r' s) (chunk_below r' e t x d ∙ i))
  ]

  -- a false entailed clause that touches no decided chunk leaves no admitted assignment
  pub no_assignment : (n : ℕ) (t : Trail) → WellFormed n t → EntailedReasons t → (C : List ℤ) → ((x : ℤ) → has C x ≡ true → on t (neg_ℤ x) ≡ true) → Entailed (has C)
      → ((d : ℤ) → has (decided_literals t) d ≡ true → touches t d C ≡ false)
      → (bs : List Bool) → Admitted bs → ((r : ℤ) → has (assumed_literals t) r ≡ true → touches t r C ≡ true → makes bs r ≡ true) → ⊥
  no_assignment n t w r C f c nd bs ad h =
      let y = c bs ad in
      let o = f y.0 y.1 in
      let b = highest_has (level t) C y.0 y.1 in
      let z = level_0 in
      let v : makes bs (neg_ℤ y.0) ≡ true = level_0_true n bs ad t w r (neg_ℤ y.0) o (omega arith)
      (λ r' s i. h r' s (has_any (λ k. in_chunk r' t (neg_ℤ k)) C y.0 y.1 i)) in
      makes_one bs (neg_ℤ y.0) (on_positive n t w (neg_ℤ y.0) o) v (rw neg_ℤ-neg_ℤ y.2)
    where
      level_0 : highest (level t) C ≡ 0
      level_0 = elim (cases_lt 0 (highest (level t) C))
          [ inl p ↦ let q = top_touched n t w C p in absurd (both_ways (touches t q.0 C) (nd q.0 q.1) q.3) | inr p ↦ omega arith ]
