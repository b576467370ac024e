-- A step that places a literal keeps what a search keeps, and raises the potential.
use Rattle.std.proofs.Common.{◌≡◌, ℕ, ◌<◌, true, false, not, ◌⊎◌, List, ◌∷◌, ℤ, neg_ℤ, Some, All, sym, ◌∙◌, subst, inl, inr, arith}
use Rattle.std.proofs.lemmas.List.Elements.{All-weaker}
use Rattle.std.proofs.lemmas.Bool.{or_cases, both_ways, not-true, not-false}
use Rattle.rules.specs.Literals.{same, in_range, has}
use Rattle.rules.specs.Clauses.{Status.unit, status}
use Rattle.rules.specs.Sources.{Meaning, LawfulAt}
use Rattle.rules.proofs.Literals.{same_true, all_has, has_all}
use Rattle.rules.proofs.Statuses.{kept_in, unit_at}
use Rattle.theory.specs.Trail.{Entry, Entry.assumed, Entry.decided, Entry.implied, literal, on, free, assumed_literals, Placeable}
use Rattle.theory.specs.Look.{Position, First, NonePass, Look}
use Rattle.theory.specs.Conflict.{others_of}
use Rattle.theory.specs.Search.{missing, placed}
use Rattle.theory.proofs.Trails.{fresh, parts_free, apart, on_below}
use Rattle.theory.proofs.Levels.{decisions, level, entry_level, level_below, level_most}
use Rattle.theory.proofs.Measure.{worth_positive}
use Rattle.theory.proofs.Invariant.{Settled, Orderly, potential, first_passes, first_has, look_ranged}

-- what a step comes to
pub record Advances (n L : ℕ) (p p' : Position) : Type 0 where
  pub orderly : Orderly n L p'
  pub rises : potential n p < potential n p'

module _ (n L : ℕ) (p : Position) (o : Orderly n L p) where
  settled_below : (e : Entry) → Placeable n p.trail e → All (Settled p.trail) p.assumptions → All (Settled (e ∷ p.trail)) p.assumptions
  settled_below e f = All-weaker (Settled p.trail) (Settled (e ∷ p.trail))
      (λ a h. (on_below e p.trail a h.0, level_below e p.trail a (apart p.trail a (literal e) (fresh f) h.0) ∙ h.1)) p.assumptions

  placed_advances : (e : Entry) → Placeable n p.trail e → (decisions (e ∷ p.trail) ≡ 0) ⊎ All (Settled (e ∷ p.trail)) p.assumptions
      → ((r : ℤ) → has (assumed_literals (e ∷ p.trail)) r ≡ true → has p.assumptions r ≡ true) → Advances n L p (placed p e)
  placed_advances e f early rooted = record {
    orderly = record { formed = (f, o.formed); few = o.few; ranged = o.ranged; slots_ranged = o.slots_ranged; early = early; rooted = rooted };
    rises = let a = worth_positive n (entry_level e (decisions p.trail) (level p.trail)) in omega arith;
  }

  assumption_missing : (a : ℤ) → First (missing p.trail) p.assumptions a → (on p.trail a ≡ false) × (has p.assumptions a ≡ true)
  assumption_missing a f = (not-true (on p.trail a) (first_passes (missing p.trail) f), first_has (missing p.trail) f)

  -- while an assumption is missing, no decision stands
  pub no_decision : (a : ℤ) → First (missing p.trail) p.assumptions a → decisions p.trail ≡ 0
  no_decision a f = elim o.early [
    | inl z ↦ z
    | inr s ↦ let m = assumption_missing a f in absurd (both_ways (on p.trail a) m.0 (all_has (Settled p.trail) p.assumptions s a m.1).0)
  ]

  pub assume_advances : (a : ℤ) → First (missing p.trail) p.assumptions a → on p.trail (neg_ℤ a) ≡ false → Advances n L p (placed p (assumed a))
  assume_advances a f z =
      let m = assumption_missing a f in
      let r = all_has (λ x. in_range n x ≡ true) p.assumptions o.ranged a m.1 in
      placed_advances (assumed a) (record { unassigned = parts_free n p.trail a r m.0 z; grounded = tt }) (inl (no_decision a f))
      (λ x h. elim (or_cases (same x a) (has (assumed_literals p.trail) x) h)
      [ inl s ↦ subst (λ y. has p.assumptions y ≡ true) (sym (same_true x a s)) m.1 | inr s ↦ o.rooted x s ])

  pub decide_advances : (l : ℤ) → NonePass (missing p.trail) p.assumptions → free n p.trail l ≡ true → Advances n L p (placed p (decided l))
  decide_advances l al f =
      let pl : Placeable n p.trail (decided l) = record { unassigned = f; grounded = tt } in
      let now : All (Settled p.trail) p.assumptions = elim o.early [
        | inl z ↦ has_all (Settled p.trail) p.assumptions (λ x h.
            (not-false (on p.trail x) (all_has (λ y. missing p.trail y ≡ false) p.assumptions al x h), (let b = level_most p.trail x in omega arith)))
        | inr s ↦ s
      ] in
      placed_advances (decided l) pl (inr (settled_below (decided l) pl now)) o.rooted

  imply_placeable : (m : Meaning) → LawfulAt n m → (C : List ℤ) (l : ℤ) → Look n m p (Some C) → status (on p.trail) C ≡ unit l
      → Placeable n p.trail (implied l (others_of l C))
  imply_placeable m law C l lk st =
      let u = unit_at (on p.trail) C l st in
      let r = all_has (λ x. in_range n x ≡ true) C (look_ranged n m p law o.slots_ranged lk) l u.inside in
      record {
        unassigned = parts_free n p.trail l r u.not_true u.not_false;
        grounded = has_all (λ x. on p.trail (neg_ℤ x) ≡ true) (others_of l C)
            (λ x h. let k = kept_in (λ y. not (same y l)) C x h in u.others x k.0 (not-true (same x l) k.1));
      }

  pub imply_advances : (m : Meaning) → LawfulAt n m → (C : List ℤ) (l : ℤ) → Look n m p (Some C) → status (on p.trail) C ≡ unit l → Advances n L p (placed p (implied l (others_of l C)))
  imply_advances m law C l lk st =
      let e = implied l (others_of l C) in
      let pl = imply_placeable m law C l lk st in
      placed_advances e pl (elim o.early [ inl z ↦ inl z | inr s ↦ inr (settled_below e pl s) ]) o.rooted
