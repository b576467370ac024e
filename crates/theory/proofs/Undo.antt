-- Undoing a chunk, by the rank of its decision: what goes, what is kept, and that the rest is well formed.
use Rattle.std.proofs.Common.{◌≡◌, ℕ, true, false, List, [], ◌∷◌, ℤ, neg_ℤ, refl, subst, inl, inr}
use Rattle.std.proofs.lemmas.List.Elements.{All-nil, All-cons, All-head, All-tail}
use mathlib.Core.Bool.{false≢true}
use lib.IntN.{neg_ℤ-neg_ℤ}
use Rattle.std.proofs.lemmas.Bool.{cond_both, or_cases, or_parts, or_from, or_left, both_ways, cases_Bool}
use Rattle.rules.specs.Literals.{same}
use Rattle.theory.specs.Trail.{Entry, Entry.assumed, Entry.decided, Entry.implied, Trail, literal, on, Grounded, WellFormed}
use Rattle.theory.proofs.Trails.{meets, AllFalse, ranged, fresh, fresh_negation, parts_free, apart, on_below, not_both}
use Rattle.theory.proofs.Levels.{decisions, joins_rank, in_rank, without_rank, rank_on}

-- nothing comes
undo_adds_none : (j : ℕ) (t : Trail) (x : ℤ) → on t x ≡ false → on (without_rank j t) x ≡ false
undo_adds_none j [] x h = refl
undo_adds_none j (e ∷ t) x h =
    let p = or_parts (same x (literal e)) (on t x) h in
    let ih = undo_adds_none j t x p.1 in
    cond_both (joins_rank j e (decisions t) (in_rank j t)) (without_rank j t) (e ∷ without_rank j t) (λ s. on s x ≡ false) (λ _. ih)
    (λ _. or_from (same x (literal e)) (on (without_rank j t) x) p.0 ih)

undone_from : (j : ℕ) (t : Trail) (x : ℤ) → on (without_rank j t) x ≡ true → on t x ≡ true
undone_from j t x h = elim (cases_Bool (on t x)) [ inl p ↦ p | inr p ↦ absurd (both_ways (on (without_rank j t) x) (undo_adds_none j t x p) h) ]

-- the members go
undo_removes : (n j : ℕ) (t : Trail) → WellFormed n t → (x : ℤ) → on (without_rank j t) x ≡ true → in_rank j t x ≡ false
undo_removes n j [] w x = λ h. absurd (false≢true h)
undo_removes n j (e ∷ t) w x =
    cond_both (joins_rank j e (decisions t) (in_rank j t)) (without_rank j t) (e ∷ without_rank j t) (λ s. on s x ≡ true → in_rank j (e ∷ t) x ≡ false)
    (λ _ h. below h (undo_removes n j t w.1 x h))
    (λ b h. elim (or_cases (same x (literal e)) (on (without_rank j t) x) h) [ inl p ↦ rw p b | inr p ↦ below p (undo_removes n j t w.1 x p) ])
  where
    below : on (without_rank j t) x ≡ true → in_rank j t x ≡ false → in_rank j (e ∷ t) x ≡ false
    below h m = rw (apart t x (literal e) (fresh w.0) (undone_from j t x h)) m

-- the others stay
pub undo_keeps : (j : ℕ) (t : Trail) (x : ℤ) → on t x ≡ true → in_rank j t x ≡ false → on (without_rank j t) x ≡ true
undo_keeps j [] x h m = h
undo_keeps j (e ∷ t) x h m = elim (cases_Bool (same x (literal e))) [
  | inl p ↦
      let b : joins_rank j e (decisions t) (in_rank j t) ≡ false = rw p at m in
      rw b (or_left (same x (literal e)) (on (without_rank j t) x) p)
  | inr p ↦
      let m' : in_rank j t x ≡ false = rw p at m in
      let h' : on t x ≡ true = rw p at h in
      let ih = undo_keeps j t x h' m' in
      cond_both (joins_rank j e (decisions t) (in_rank j t)) (without_rank j t) (e ∷ without_rank j t) (λ s. on s x ≡ true) (λ _. ih) (λ _. on_below e (without_rank j t) x ih)
]

-- a clause that does not meet the chunk stays false
false_keeps : (j : ℕ) (t : Trail) (C : List ℤ) → AllFalse t C → meets (in_rank j t) C ≡ false → AllFalse (without_rank j t) C
false_keeps j t [] h b = All-nil (λ k. on (without_rank j t) (neg_ℤ k) ≡ true)
false_keeps j t (k ∷ C) h b =
    let p = or_parts (in_rank j t (neg_ℤ k)) (meets (in_rank j t) C) b in
    let falls : ℤ → Type 0 = λ x. on t (neg_ℤ x) ≡ true in
    All-cons (λ x. on (without_rank j t) (neg_ℤ x) ≡ true) k C (undo_keeps j t (neg_ℤ k) (All-head falls k C h) p.0) (false_keeps j t C (All-tail falls k C h) p.1)

grounded_keeps : (j : ℕ) (t : Trail) (e : Entry) → Grounded t e → joins_rank j e (decisions t) (in_rank j t) ≡ false → Grounded (without_rank j t) e
grounded_keeps j t (assumed l) h b = tt
grounded_keeps j t (decided l) h b = tt
grounded_keeps j t (implied l others) h b = false_keeps j t others h b

pub undo_formed : (n j : ℕ) (t : Trail) → WellFormed n t → WellFormed n (without_rank j t)
undo_formed n j [] w = tt
undo_formed n j (e ∷ t) w =
    cond_both (joins_rank j e (decisions t) (in_rank j t)) (without_rank j t) (e ∷ without_rank j t) (WellFormed n) (λ _. undo_formed n j t w.1)
    (λ b. (
      record {
        unassigned = parts_free n (without_rank j t) (literal e) (ranged w.0) (undo_adds_none j t (literal e) (fresh w.0)) (undo_adds_none j t (neg_ℤ (literal e)) (fresh_negation w.0));
        grounded = grounded_keeps j t e w.0.grounded b;
      },
      undo_formed n j t w.1,
    ))

-- the variable of a member is unassigned afterwards
pub undo_frees : (n j : ℕ) (t : Trail) → WellFormed n t → (u : ℤ) → in_rank j t (neg_ℤ u) ≡ true → (on (without_rank j t) u ≡ false) × (on (without_rank j t) (neg_ℤ u) ≡ false)
undo_frees n j t w u m = (
  undo_adds_none j t u (subst (λ z. on t z ≡ false) (neg_ℤ-neg_ℤ u) (not_both n t w (neg_ℤ u) (rank_on j t (neg_ℤ u) m))),
  elim (cases_Bool (on (without_rank j t) (neg_ℤ u)))
      [ inl p ↦ absurd (both_ways (in_rank j t (neg_ℤ u)) (undo_removes n j t w (neg_ℤ u) p) m) | inr p ↦ p ],
)
