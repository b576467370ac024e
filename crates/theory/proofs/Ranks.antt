-- The chunk of a decision is that of its rank, and so is the trail without it.
use Rattle.std.proofs.Common.{◌≡◌, ℕ, suc, ◌<◌, ◌≤◌, Bool, true, false, cond, not, List, [], ◌∷◌, ℤ, neg_ℤ, filter, sym, refl, ap, ◌∙◌, subst, inl, inr, arith}
use mathlib.Core.Path.{fun_ext}
use mathlib.Core.Bool.{false≢true}
use Rattle.std.proofs.lemmas.Bool.{cond_both, or_cases, or_parts, or_left, or_right, cases_Bool, cases_lt, eq-eqb, ne_eqb}
use Rattle.rules.specs.Literals.{same, has}
use Rattle.rules.proofs.Literals.{same_true, same_refl, has_all}
use Rattle.theory.specs.Trail.{Entry, Entry.assumed, Entry.decided, Entry.implied, Trail, literal, on, decided_literals, place_of, Placeable, WellFormed}
use Rattle.theory.specs.Chunks.{joins, in_chunk, touches, without_chunk}
use Rattle.theory.proofs.Trails.{meets, meets_cong, meets_none, fresh, apart, on_top, decided_on, Part, Part.whole, Part.next, part_same, place_below, place_top, place_length}
use Rattle.theory.proofs.Levels.{decisions, level, level_below, level_top, level_most, level_rank, highest, highest_meets, highest_below, joins_rank, in_rank, rank_level, rank_below, rank_top, without_rank}

rank_empty : (j : ℕ) (t : Trail) → decisions t < j → (x : ℤ) → in_rank j t x ≡ false
rank_empty j t h x = elim (cases_Bool (in_rank j t x))
    [ inl p ↦ let a = rank_level j t x p in let b = level_most t x in let q : ⊥ = omega arith in absurd q | inr p ↦ p ]

joins_none : (d : ℤ) (f : ℤ → Bool) → ((x : ℤ) → f x ≡ false) → (e : Entry) → same d (literal e) ≡ false → joins d f e ≡ false
joins_none d f h (assumed l) p = p
joins_none d f h (decided l) p = p
joins_none d f h (implied l others) p = meets_none f h others

pub chunk_empty : (d : ℤ) (t : Trail) → on t d ≡ false → (x : ℤ) → in_chunk d t x ≡ false
chunk_empty d [] h x = refl
chunk_empty d (e ∷ t) h x =
    let p = or_parts (same d (literal e)) (on t d) h in
    cond_both (same x (literal e)) (joins d (in_chunk d t) e) (in_chunk d t x) (λ v. v ≡ false)
    (λ _. joins_none d (in_chunk d t) (chunk_empty d t p.1) e p.0) (λ _. chunk_empty d t p.1 x)

-- an entry above the decision joins by literal where it joins by rank
joins_alike : (d : ℤ) (j k : ℕ) (f g : ℤ → Bool) → ((x : ℤ) → f x ≡ g x) → j ≤ k → (e : Entry) → same d (literal e) ≡ false → joins d f e ≡ joins_rank j e k g
joins_alike d j k f g h b (assumed l) p = p
joins_alike d j k f g h b (decided l) p = p ∙ sym (ne_eqb (suc k) j (λ q. omega arith))
joins_alike d j k f g h b (implied l others) p = meets_cong f g others (has_all (λ y. f (neg_ℤ y) ≡ g (neg_ℤ y)) others (λ y _. h (neg_ℤ y)))

-- the decision has a rank, its level, and the chunks agree
abbrev Ranked : Trail → ℤ → Type 0
Ranked t d = (0 < level t d) × ((x : ℤ) → in_chunk d t x ≡ in_rank (level t d) t x)

ranked_above : (n : ℕ) (e : Entry) (t : Trail) (d : ℤ) → Placeable n t e → has (decided_literals t) d ≡ true → Ranked t d → Ranked (e ∷ t) d
ranked_above n e t d f h ih =
    let o = decided_on t d h in
    let s = apart t d (literal e) (fresh f) o in
    let q = level_below e t d s in
    let b = level_most t d in
    let p = ih.0 in (
      omega arith,
      λ x. subst (λ k. in_chunk d (e ∷ t) x ≡ in_rank k (e ∷ t) x) (sym q)
          (λ i. cond (same x (literal e)) (joins_alike d (level t d) (decisions t) (in_chunk d t) (in_rank (level t d) t) ih.1 b e s i) (ih.1 x i)),
    )

ranked_here : (t : Trail) (d : ℤ) → on t d ≡ false → Ranked (decided d ∷ t) d
ranked_here t d f =
    let q = level_top (decided d) t in (
      omega arith,
      λ x. subst (λ k. in_chunk d (decided d ∷ t) x ≡ in_rank k (decided d ∷ t) x) (sym q)
          (λ i. cond (same x d) ((same_refl d ∙ sym (eq-eqb (suc (decisions t)) (suc (decisions t)) refl)) i)
          ((chunk_empty d t f x ∙ sym (rank_empty (suc (decisions t)) t (omega arith) x)) i)),
    )

pub ranked : (n : ℕ) (t : Trail) → WellFormed n t → (d : ℤ) → has (decided_literals t) d ≡ true → (0 < level t d) × ((x : ℤ) → in_chunk d t x ≡ in_rank (level t d) t x)
ranked n [] w d h = absurd (false≢true h)
ranked n (assumed l ∷ t) w d h = ranked_above n (assumed l) t d w.0 h (ranked n t w.1 d h)
ranked n (decided l ∷ t) w d h = elim (or_cases (same d l) (has (decided_literals t) d) h) [
  | inl p ↦ subst (Ranked (decided l ∷ t)) (sym (same_true d l p)) (ranked_here t l (fresh w.0))
  | inr p ↦ ranked_above n (decided l) t d w.0 p (ranked n t w.1 d p)
]
ranked n (implied l others ∷ t) w d h = ranked_above n (implied l others) t d w.0 h (ranked n t w.1 d h)

chunk_rank : (n : ℕ) (t : Trail) → WellFormed n t → (d : ℤ) → has (decided_literals t) d ≡ true → in_chunk d t ≡ in_rank (level t d) t
chunk_rank n t w d h = fun_ext (ranked n t w d h).1

-- undoing by literal and by rank is the same
kept_rank : (j n : ℕ) (T : Trail) → WellFormed n T → (t : Trail) → Part T t → filter (λ e. not (in_rank j T (literal e))) t ≡ without_rank j t
kept_rank j n T w [] h = refl
kept_rank j n T w (e ∷ t) h =
    let a : in_rank j T (literal e) ≡ joins_rank j e (decisions t) (in_rank j t) =
    part_same (in_rank j) (rank_below j) n T h w (literal e) (on_top e t) ∙ rank_top j e t in
    let b = kept_rank j n T w t (next h) in
    rw (a, b) (turned (joins_rank j e (decisions t) (in_rank j t)))
  where
    turned : (b : Bool) → cond (not b) (e ∷ without_rank j t) (without_rank j t) ≡ cond b (without_rank j t) (e ∷ without_rank j t)
    turned true = refl
    turned false = refl

pub undone_rank : (n : ℕ) (t : Trail) → WellFormed n t → (d : ℤ) → has (decided_literals t) d ≡ true → without_rank (level t d) t ≡ without_chunk t d
undone_rank n t w d h = sym (ap (λ member. filter (λ e. not (member (literal e))) t) (chunk_rank n t w d h) ∙ kept_rank (level t d) n t w t whole)

-- a decision below a fresh entry is another literal
decided_apart : {n : ℕ} {t : Trail} {e : Entry} → Placeable n t e → (d : ℤ) → has (decided_literals t) d ≡ true → same d (literal e) ≡ false
decided_apart {n} {t} {e} f d h = apart t d (literal e) (fresh f) (decided_on t d h)

-- each rank has its decision
at_rank : (n : ℕ) (t : Trail) → WellFormed n t → (j : ℕ) → 0 < j → j ≤ decisions t → (d : ℤ) × (has (decided_literals t) d ≡ true) × (level t d ≡ j)
at_rank n [] w j z h = let q : ⊥ = omega arith in absurd q
at_rank n (assumed l ∷ t) w j z h =
    let r = at_rank n t w.1 j z h in
    (r.0, r.1, level_below (assumed l) t r.0 (decided_apart w.0 r.0 r.1) ∙ r.2)
at_rank n (decided l ∷ t) w j z h = elim (cases_lt (decisions t) j) [
  | inl p ↦ let q = level_top (decided l) t in (l, or_left (same l l) (has (decided_literals t) l) (same_refl l), omega arith)
  | inr p ↦
      let r = at_rank n t w.1 j z p in
      (r.0, or_right (same r.0 l) (has (decided_literals t) r.0) r.1, level_below (decided l) t r.0 (decided_apart w.0 r.0 r.1) ∙ r.2)
]
at_rank n (implied l others ∷ t) w j z h =
    let r = at_rank n t w.1 j z h in
    (r.0, r.1, level_below (implied l others) t r.0 (decided_apart w.0 r.0 r.1) ∙ r.2)

-- a clause with a level above 0 touches the chunk of the decision of that level
pub top_touched : (n : ℕ) (t : Trail) → WellFormed n t → (C : List ℤ) → 0 < highest (level t) C
    → (d : ℤ) × (has (decided_literals t) d ≡ true) × (level t d ≡ highest (level t) C) × (touches t d C ≡ true)
top_touched n t w C z =
    let j = highest (level t) C in
    let r = at_rank n t w j z (highest_below (level t) (decisions t) C (λ x _. level_most t (neg_ℤ x))) in
    let a : meets (in_rank j t) C ≡ true = highest_meets j z (in_rank j t) (level t) (level_rank j z t) C refl in
    let e : in_chunk r.0 t ≡ in_rank j t = chunk_rank n t w r.0 r.1 ∙ ap (λ k. in_rank k t) r.2 in
    (r.0, r.1, r.2, subst (λ f. meets f C ≡ true) (sym e) a)

-- of two decisions the one that stands later has the higher level; with an entry more above both
place_level_up : {n : ℕ} {t : Trail} {e : Entry} → Placeable n t e → (c d : ℤ) → has (decided_literals t) c ≡ true → has (decided_literals t) d ≡ true
    → (place_of t c ≤ place_of t d → level t c ≤ level t d) → place_of (e ∷ t) c ≤ place_of (e ∷ t) d → level (e ∷ t) c ≤ level (e ∷ t) d
place_level_up {n} {t} {e} f c d p q ih h =
    let x = decided_apart f c p in let y = decided_apart f d q in
    let a = place_below e t c x in let b = place_below e t d y in let a' = level_below e t c x in let b' = level_below e t d y in
    let r = ih (omega arith) in omega arith

pub place_level : (n : ℕ) (t : Trail) → WellFormed n t → (c d : ℤ) → has (decided_literals t) c ≡ true → has (decided_literals t) d ≡ true
    → place_of t c ≤ place_of t d → level t c ≤ level t d
place_level n [] w c d p q h = absurd (false≢true p)
place_level n (assumed l ∷ t) w c d p q h = place_level_up w.0 c d p q (place_level n t w.1 c d p q) h
place_level n (implied l others ∷ t) w c d p q h = place_level_up w.0 c d p q (place_level n t w.1 c d p q) h
place_level n (decided l ∷ t) w c d p q h = elim (or_cases (same d l) (has (decided_literals t) d) q) [
  | inl z ↦
      let a = level_most (decided l ∷ t) c in
      let b : level (decided l ∷ t) d ≡ suc (decisions t) = rw z in
      omega arith
  | inr z ↦ elim (or_cases (same c l) (has (decided_literals t) c) p) [
    | inl v ↦
        let a = place_top (decided l) t c v in
        let b = place_below (decided l) t d (decided_apart w.0 d z) in
        let f = place_length t d (decided_on t d z) in
        let g : ⊥ = omega arith in absurd g
    | inr v ↦ place_level_up w.0 c d v z (place_level n t w.1 c d v z) h
  ]
]
