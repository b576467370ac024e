-- A conflict step keeps what a search keeps, and raises the potential.
use Rattle.std.proofs.Common.{◌≡◌, ℕ, suc, ◌+◌, ◌-◌, ◌*◌, ◌^◌, ◌<◌, ◌≤◌, Bool, true, false, not, ◌||◌, ◌⊎◌, List, [], ◌∷◌, ◌++◌, length, ℤ, neg_ℤ, All, filter, sym, ◌∙◌, subst, inl, inr, mul-le-mul_right, suc-mul, arith, length-append}
use native.Mathlib.Nat.{pow-succ'}
use Rattle.std.proofs.lemmas.List.Elements.{All-push, All-weaker}
use Rattle.std.proofs.lemmas.Bool.{cond_both, or_cases, or_left, both_ways, cases_Bool, cases_lt, not-true, ltb-true}
use Rattle.rules.specs.Literals.{same, in_range, has}
use Rattle.rules.specs.Clauses.{Status.falsified, status}
use Rattle.rules.proofs.Literals.{eq_same, has_later, has_all, range_bounds, range_neg}
use Rattle.rules.proofs.Statuses.{kept_in, in_kept, falsified_all}
use Rattle.theory.specs.Trail.{Entry, Entry.assumed, Entry.decided, Entry.implied, Trail, literal, on, assumed_literals, Placeable, WellFormed}
use Rattle.theory.specs.Chunks.{in_chunk, members, chunk, without_chunk, standing}
use Rattle.theory.specs.Look.{Position}
use Rattle.theory.specs.Conflict.{Touched, slot_empty, choice_free, Allowed, Analysed, literals_from, learned, others_of, repaired}
use Rattle.theory.proofs.Trails.{fresh, parts_free, apart, on_below, on_range}
use Rattle.theory.proofs.Levels.{decisions, level, highest, highest_has, highest_below, lowered, in_rank, rank_level, level_rank, level_below, level_most, level_without, decisions_length, without_rank}
use Rattle.theory.proofs.Measure.{worth, worth_falls, worth_positive, measure, measure_without, measure_most}
use Rattle.theory.proofs.Pigeonhole.{length_most}
use Rattle.theory.proofs.Undo.{undo_keeps, undo_formed, undo_frees}
use Rattle.theory.proofs.Ranks.{ranked, undone_rank, top_touched, place_level}
use Rattle.theory.proofs.Analysis.{analysed_one, analysed_false, analysed_below}
use Rattle.theory.proofs.Invariant.{InRange, Settled, Orderly, potential, literals_all}
use Rattle.theory.proofs.Placing.{Advances}

kept_assumed : (test : Entry → Bool) (t : Trail) (r : ℤ) → has (assumed_literals (filter test t)) r ≡ true → has (assumed_literals t) r ≡ true
kept_assumed test [] r h = h
kept_assumed test (assumed l ∷ t) r h = elim (cases_Bool (test (assumed l))) [
  | inl p ↦
      let k : (same r l || has (assumed_literals (filter test t)) r) ≡ true = rw p at h in
      elim (or_cases (same r l) (has (assumed_literals (filter test t)) r) k)
      [ inl z ↦ or_left (same r l) (has (assumed_literals t) r) z | inr z ↦ has_later l (assumed_literals t) r (kept_assumed test t r z) ]
  | inr p ↦ let k : has (assumed_literals (filter test t)) r ≡ true = rw p at h in has_later l (assumed_literals t) r (kept_assumed test t r k)
]
kept_assumed test (decided l ∷ t) r h = kept_assumed test t r
    (cond_both (test (decided l)) (decided l ∷ filter test t) (filter test t) (λ s. has (assumed_literals s) r ≡ true → has (assumed_literals (filter test t)) r ≡ true) (λ _ k. k) (λ _ k. k) h)
kept_assumed test (implied l others ∷ t) r h = kept_assumed test t r
    (cond_both (test (implied l others)) (implied l others ∷ filter test t) (filter test t) (λ s. has (assumed_literals s) r ≡ true → has (assumed_literals (filter test t)) r ≡ true) (λ _ k. k) (λ _ k. k) h)

pub members_kept : (test : ℤ → Bool) (t : Trail) → length (members test t) + length (filter (λ e. not (test (literal e))) t) ≡ length t
members_kept test [] = omega arith
members_kept test (e ∷ t) =
    let ih = members_kept test t in
    let a = length-append (members test t) (record { literal = literal e; standing = standing e; place = length t } ∷ []) in
    elim (cases_Bool (test (literal e))) [ inl p ↦ rw p (omega arith) | inr p ↦ rw p (omega arith) ]

-- what is undone and what is kept is the trail
pub chunk_kept : (t : Trail) (d : ℤ) → length (chunk t d) + length (without_chunk t d) ≡ length t
chunk_kept t d = members_kept (in_chunk d t) t

-- what the analysis of a false clause leaves, on a well-formed trail
module _ (n : ℕ) (t : Trail) (w : WellFormed n t) (C : List ℤ) (fa : status (on t) C ≡ falsified) (d : ℤ) (tch : Touched t C d) (S : ℤ → Bool) (an : Analysed (in_chunk d t) t (has C) S) where
  left_false : (x : ℤ) → S x ≡ true → on t (neg_ℤ x) ≡ true
  left_false = analysed_false n t w d an (falsified_all (on t) C fa)

  left_ranged : (x : ℤ) → S x ≡ true → in_range n x ≡ true
  left_ranged x s = sym (range_neg n x) ∙ on_range n t w (neg_ℤ x) (left_false x s)

  pub learned_all : (x : ℤ) → S x ≡ true → has (learned n S) x ≡ true
  learned_all x s =
      let b = range_bounds n x (left_ranged x s) in let low = b.0 in let high = b.1 in
      in_kept S (literals_from 0 n) x (literals_all 0 n x (omega arith) (omega arith)) s

  pub learned_in : (x : ℤ) → has (learned n S) x ≡ true → S x ≡ true
  learned_in x h = (kept_in S (literals_from 0 n) x h).1

  learned_ranged : InRange n (learned n S)
  learned_ranged = has_all (λ x. in_range n x ≡ true) (learned n S) (λ x h. left_ranged x (learned_in x h))

  positive : 0 < level t d
  positive = (ranked n t w d tch.decision).0

  by_rank : (x : ℤ) → in_chunk d t x ≡ in_rank (level t d) t x
  by_rank = (ranked n t w d tch.decision).1

  module _ (u : ℤ) (su : S u ≡ true) (tu : in_chunk d t (neg_ℤ u) ≡ true) where
    -- the other literals of what is learned lie outside of the chunk
    others_outside : (x : ℤ) → has (others_of u (learned n S)) x ≡ true → (S x ≡ true) × (in_rank (level t d) t (neg_ℤ x) ≡ false)
    others_outside x h =
        let k = kept_in (λ y. not (same y u)) (learned n S) x h in
        let s = learned_in x k.0 in (
          s,
          elim (cases_Bool (in_rank (level t d) t (neg_ℤ x)))
              [ inl z ↦ absurd (both_ways (same x u) (not-true (same x u) k.1) (eq_same x u (analysed_one (in_chunk d t) an x u s (by_rank (neg_ℤ x) ∙ z) su tu))) | inr z ↦ z ],
        )

    repaired_top : Placeable n (without_rank (level t d) t) (implied u (others_of u (learned n S)))
    repaired_top =
        let f = undo_frees n (level t d) t w u (sym (by_rank (neg_ℤ u)) ∙ tu) in
        record {
          unassigned = parts_free n (without_rank (level t d) t) u (left_ranged u su) f.0 f.1;
          grounded = has_all (λ x. on (without_rank (level t d) t) (neg_ℤ x) ≡ true) (others_of u (learned n S))
              (λ x h. let k = others_outside x h in undo_keeps (level t d) t (neg_ℤ x) (left_false x k.0) k.1);
        }

    pub repaired_formed : WellFormed n (implied u (others_of u (learned n S)) ∷ without_chunk t d)
    repaired_formed = subst (λ s. WellFormed n (implied u (others_of u (learned n S)) ∷ s)) (undone_rank n t w d tch.decision) (repaired_top, undo_formed n (level t d) t w)

    -- where the clause has no level above that of d, the literal placed falls below it
    placed_level : highest (level t) C ≤ level t d → highest (level (without_rank (level t d) t)) (others_of u (learned n S)) ≤ level t d - 1
    placed_level h = highest_below (level (without_rank (level t d) t)) (level t d - 1) (others_of u (learned n S)) (λ x i.
        let k = others_outside x i in
        let z = positive in
        let b = analysed_below n t w d (level t d) an (λ y q. let m = highest_has (level t) C y q in omega arith) x k.0 in
        let e = level_without (level t d) z t (neg_ℤ x) k.1 in
        let f : level t (neg_ℤ x) ≡ level t d → ⊥ = λ q. both_ways (in_rank (level t d) t (neg_ℤ x)) k.1 (level_rank (level t d) z t (neg_ℤ x) q) in
        omega arith)

    -- and the measure rises
    measure_rises : highest (level t) C ≤ level t d → measure n t < measure n (implied u (others_of u (learned n S)) ∷ without_chunk t d)
    measure_rises h = subst (λ s. measure n t < measure n (implied u (others_of u (learned n S)) ∷ s)) (undone_rank n t w d tch.decision)
        (let z = positive in
        let a = measure_without n (level t d) z t in
        let b = length_most n t w in
        let m = rank_level (level t d) t (neg_ℤ u) (sym (by_rank (neg_ℤ u)) ∙ tu) in
        let l = level_most t (neg_ℤ u) in
        let c = decisions_length t in
        let f : length t * worth n (level t d) ≤ n * worth n (level t d) = mul-le-mul_right (worth n (level t d)) b in
        let q = worth_falls n (highest (level (without_rank (level t d) t)) (others_of u (learned n S))) (level t d - 1) (placed_level h) in
        let r : worth n (level t d - 1) ≡ suc n * worth n (level t d) = let s : n - (level t d - 1) ≡ suc (n - level t d) = omega arith in rw s (pow-succ' (suc n) (n - level t d)) in
        let v = suc-mul n (worth n (level t d)) in
        let g = worth_positive n (level t d) in
        omega arith)

    -- what rested on no decision still stands and rests on none
    settled_after : (gs : List ℤ) → All (Settled t) gs → All (Settled (implied u (others_of u (learned n S)) ∷ without_chunk t d)) gs
    settled_after gs = All-weaker (Settled t) (Settled (implied u (others_of u (learned n S)) ∷ without_chunk t d)) (λ a h.
        let z = positive in
        let m : in_rank (level t d) t a ≡ false = elim (cases_Bool (in_rank (level t d) t a))
        [ inl y ↦ let k = rank_level (level t d) t a y in let k' = h.1 in let f : ⊥ = omega arith in absurd f | inr y ↦ y ] in
        let i : on (without_chunk t d) a ≡ true = subst (λ s. on s a ≡ true) (undone_rank n t w d tch.decision) (undo_keeps (level t d) t a h.0 m) in
        let v : level (without_chunk t d) a ≡ lowered (level t d) (level t a) = subst (λ s. level s a ≡ lowered (level t d) (level t a)) (undone_rank n t w d tch.decision) (level_without (level t d) z t a m) in
        let h' = h.1 in
        let e = implied u (others_of u (learned n S)) in
        let up = level_below e (without_chunk t d) a (apart (without_chunk t d) a u (fresh repaired_formed.0) i) in
        (on_below e (without_chunk t d) a i, omega arith)) gs

module _ (n L : ℕ) (p : Position) (o : Orderly n L p) (C : List ℤ) (fa : status (on p.trail) C ≡ falsified) (d : ℤ) (al : Allowed L p C d)
    (S : ℤ → Bool) (an : Analysed (in_chunk d p.trail) p.trail (has C) S) (u : ℤ) (su : S u ≡ true) (tu : in_chunk d p.trail (neg_ℤ u) ≡ true) where
  -- the decision of the latest touched chunk has the clause's highest level
  latest_level : choice_free L p ≡ false → highest (level p.trail) C ≤ level p.trail d
  latest_level b = elim (cases_lt 0 (highest (level p.trail) C)) [
    | inl z ↦
        let r = top_touched n p.trail o.formed C z in
        let a = place_level n p.trail o.formed r.0 d r.1 al.touched.decision (al.latest b r.0 (record { decision = r.1; touching = r.3 })) in
        let e = r.2 in omega arith
    | inr z ↦ omega arith
  ]

  conflict_rises : potential n p < potential n (repaired n L p d u S)
  conflict_rises = cond_both (slot_empty L p.slots) (p.slots ++ (learned n S ∷ [])) p.slots
      (λ slots. potential n p < length slots * suc n ^ suc n + measure n (repaired n L p d u S).trail)
      (λ _. let z = length-append p.slots (learned n S ∷ []) in
      let e : length (p.slots ++ (learned n S ∷ [])) ≡ suc (length p.slots) = omega arith in
      let a = measure_most n p.trail o.formed in
      let c = suc-mul (length p.slots) (suc n ^ suc n) in
      rw e (omega arith))
      (λ b. let a = measure_rises n p.trail o.formed C fa d al.touched S an u su tu (latest_level b) in omega arith)

  conflict_early : (decisions (repaired n L p d u S).trail ≡ 0) ⊎ All (Settled (repaired n L p d u S).trail) p.assumptions
  conflict_early = elim o.early [
    | inl z ↦ let a = positive n p.trail o.formed C fa d al.touched S an in let b = level_most p.trail d in let f : ⊥ = omega arith in absurd f
    | inr s ↦ inr (settled_after n p.trail o.formed C fa d al.touched S an u su tu p.assumptions s)
  ]

  pub conflict_advances : Advances n L p (repaired n L p d u S)
  conflict_advances = record {
    orderly = record {
      formed = repaired_formed n p.trail o.formed C fa d al.touched S an u su tu;
      few = cond_both (slot_empty L p.slots) (p.slots ++ (learned n S ∷ [])) p.slots (λ slots. length slots ≤ L)
          (λ b. let a = ltb-true (length p.slots) L b in let z = length-append p.slots (learned n S ∷ []) in omega arith) (λ _. o.few);
      ranged = o.ranged;
      slots_ranged = cond_both (slot_empty L p.slots) (p.slots ++ (learned n S ∷ [])) p.slots (All (InRange n))
          (λ _. All-push (InRange n) p.slots (learned n S) o.slots_ranged (learned_ranged n p.trail o.formed C fa d al.touched S an)) (λ _. o.slots_ranged);
      early = conflict_early;
      rooted = λ r h. o.rooted r (kept_assumed (λ e. not (in_chunk d p.trail (literal e))) p.trail r h);
    };
    rises = conflict_rises;
  }
