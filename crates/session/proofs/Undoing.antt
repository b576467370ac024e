-- Taking the marked literals off the trail, from the oldest place on.
use Rattle.std.proofs.Common.{◌≡◌, ℕ, suc, ◌+◌, ◌*◌, ◌<◌, ◌≤◌, Bool, true, false, not, ◌&&◌, ◌≢◌, ◌⊎◌, List, [], ◌∷◌, length, ℤ, pos, negsuc, filter, sym, refl, ap, ◌∙◌, subst, inl, inr, add-one, arith}
use Rattle.std.proofs.Math.Bool.{and-false}
use Rattle.std.proofs.lemmas.Bool.{cases_eq, cases_Bool, both_ways}
use Rattle.rules.specs.Literals.{same}
use Rattle.rules.proofs.Literals.{same_true}
use Rattle.theory.specs.Trail.{Trail, literal, on, WellFormed, word}
use Rattle.session.specs.Words.{word_at, index_of, trail_at, value_at, row_at, Wrote, Outside}
use Rattle.session.specs.Decode.{entry_of, trail_of, marked_index, marked, unmarked, assumptions_of, slots_of, position_of, Coherent, Sound}
use Rattle.session.proofs.Words.{outside_none, outside_more, outside_wider}
use Rattle.session.proofs.Storing.{sound_kept, position_kept}
use Rattle.session.proofs.Decode.{literal_of, entry_same, trail_same, place_at, at_on}

-- what is kept of a trail
pub kept_on : (M : ℤ → Bool) (t : Trail) (l : ℤ) → on (filter (λ e. not (M (literal e))) t) l ≡ (not (M l) && on t l)
kept_on M [] l = sym (and-false (not (M l)))
kept_on M (e ∷ t) l = elim (cases_Bool (M (literal e))) [
  | inl m ↦ rw (m, kept_on M t l) (elim (cases_Bool (same l (literal e))) [
    | inl s ↦ rw (subst (λ z. M z ≡ true) (sym (same_true l (literal e) s)) m)
    | inr s ↦ rw s
  ])
  | inr m ↦ rw (m, kept_on M t l) (elim (cases_Bool (same l (literal e))) [
    | inl s ↦ rw (s, subst (λ z. M z ≡ false) (sym (same_true l (literal e) s)) m)
    | inr s ↦ rw s
  ])
]

-- a variable is kept with its value, or its value goes
module _ (n : ℕ) (ws : List ℤ) (x : ℕ) (t : Trail) where
  value_kept : marked_index n ws x ≡ false → word (unmarked n ws t) (suc x) ≡ word t (suc x)
  value_kept m = rw (kept_on (marked n ws) t (pos (suc x)), kept_on (marked n ws) t (negsuc x), m)

  value_gone : marked_index n ws x ≡ true → word (unmarked n ws t) (suc x) ≡ pos 0
  value_gone m = rw (kept_on (marked n ws) t (pos (suc x)), kept_on (marked n ws) t (negsuc x), m)

value_none : (n k : ℕ) (ws : List ℤ) (x : ℕ) → ((i : ℕ) → i < k → index_of (word_at ws (trail_at n i)) ≢ x) → word (trail_of n k ws) (suc x) ≡ pos 0
value_none n k ws x h = rw (off (pos (suc x)) refl, off (negsuc x) refl)
  where
    off : (l : ℤ) → index_of l ≡ x → on (trail_of n k ws) l ≡ false
    off l e = elim (cases_Bool (on (trail_of n k ws) l)) [ inl o ↦ let a = at_on n k ws l o in absurd (h a.0 a.1 (ap index_of a.2 ∙ e)) | inr o ↦ o ]

-- p places are read and q are kept
pub record Undone (n p q : ℕ) (was now : List ℤ) : Type 0 where
  pub fewer : q ≤ p
  pub trail : trail_of n q now ≡ unmarked n was (trail_of n p was)
  pub ahead : (i : ℕ) → p ≤ i → i < n → word_at now (trail_at n i) ≡ word_at was (trail_at n i)
  pub out : Outside (2 * n) (2 * n) was now
  pub values : (x : ℕ) → x < n → marked_index n was x ≡ false → word_at now (value_at n x) ≡ word_at was (value_at n x)
  pub gone : (x : ℕ) → x < n → marked_index n was x ≡ true
      → (word_at now (value_at n x) ≡ pos 0) ⊎ ((word_at now (value_at n x) ≡ word_at was (value_at n x)) × ((i : ℕ) → i < p → index_of (word_at was (trail_at n i)) ≢ x))

-- before any place is read, nothing has changed
pub undone_none : (n : ℕ) (ws : List ℤ) → Undone n 0 0 ws ws
undone_none n ws = record {
  fewer = omega arith;
  trail = refl;
  ahead = λ _ _ _. refl;
  out = outside_none (2 * n) (2 * n) ws;
  values = λ _ _ _. refl;
  gone = λ x h m. inr (refl, λ i k. let q : ⊥ = omega arith in absurd q);
}

-- rows do not change
rows_same : (n : ℕ) (was now : List ℤ) → Outside (2 * n) (2 * n) was now → (l : ℤ) → entry_of n now l ≡ entry_of n was l
rows_same n was now o l = entry_same n was now l (λ k h. o.above (row_at n (index_of l) k) (omega arith))

module _ (n L len p q : ℕ) (was ws : List ℤ) (st : Coherent n L len was) (u : Undone n p q was ws) (h : p < len) (x : ℕ) (i : x ≡ index_of (word_at was (trail_at n p))) where
  x_in : x < n
  x_in = rw i (place_at n len was st.formed p h).within

  no_more : (y : ℕ) → y ≢ x → ((j : ℕ) → j < p → index_of (word_at was (trail_at n j)) ≢ y) → (j : ℕ) → j < p + 1 → index_of (word_at was (trail_at n j)) ≢ y
  no_more y d f j g e = elim (cases_eq j p) [ inl z ↦ d (sym (i ∙ (ap (λ k. index_of (word_at was (trail_at n k))) (sym z) ∙ e))) | inr z ↦ f j (omega arith) e ]

  -- the kept trail stands where only its words do
  kept_same : (now : List ℤ) → ((j : ℕ) → j < q → word_at now (trail_at n j) ≡ word_at ws (trail_at n j)) → Outside (2 * n) (2 * n) was now → trail_of n q now ≡ trail_of n q ws
  kept_same now f o = trail_same n q ws now f (λ j k. rows_same n was now o (word_at ws (trail_at n j)) ∙ sym (rows_same n was ws u.out (word_at ws (trail_at n j))))

  pub undone_keep : (now : List ℤ) → marked_index n was x ≡ false → Wrote (trail_at n q) (word_at was (trail_at n p)) ws now → Undone n (p + 1) (q + 1) was now
  undone_keep now m w =
      let xi = x_in in
      let f = u.fewer in
      let g = st.fits in
      let l = word_at was (trail_at n p) in
      let o = outside_more (2 * n) (2 * n) (trail_at n q) l was ws now (omega arith) (omega arith) u.out w in
      record {
        fewer = omega arith;
        trail = rw (add-one q, add-one p, w.at, literal_of n was l, subst (λ y. marked_index n was y ≡ false) i m)
            (ap (λ e. e ∷ trail_of n q now) (rows_same n was now o l)
            ∙ ap (λ t. entry_of n was l ∷ t) (kept_same now (λ j k. w.rest (trail_at n j) (omega arith)) o ∙ u.trail));
        ahead = λ j k b. w.rest (trail_at n j) (omega arith) ∙ u.ahead j (omega arith) b;
        out = o;
        values = λ y a b. w.rest (value_at n y) (omega arith) ∙ u.values y a b;
        gone = λ y a b. elim (u.gone y a b) [
          | inl e ↦ inl (w.rest (value_at n y) (omega arith) ∙ e)
          | inr e ↦ inr (w.rest (value_at n y) (omega arith) ∙ e.0, no_more y (λ z. both_ways (marked_index n was y) (subst (λ v. marked_index n was v ≡ false) (sym z) m) b) e.1)
        ];
      }

  pub undone_drop : (now : List ℤ) → marked_index n was x ≡ true → Wrote (value_at n x) (pos 0) ws now → Undone n (p + 1) q was now
  undone_drop now m w =
      let xi = x_in in
      let f = u.fewer in
      let g = st.fits in
      let o = outside_more (2 * n) (2 * n) (value_at n x) (pos 0) was ws now (omega arith) (omega arith) u.out w in
      record {
        fewer = omega arith;
        trail = rw (add-one p, literal_of n was (word_at was (trail_at n p)), ← i, m) (kept_same now (λ j k. w.rest (trail_at n j) (omega arith)) o ∙ u.trail);
        ahead = λ j k b. w.rest (trail_at n j) (omega arith) ∙ u.ahead j (omega arith) b;
        out = o;
        values = λ y a b. w.rest (value_at n y) (λ e. let z : y ≡ x = omega arith in both_ways (marked_index n was y) b (subst (λ v. marked_index n was v ≡ true) (sym z) m)) ∙ u.values y a b;
        gone = λ y a b. elim (cases_eq y x) [
          | inl z ↦ inl (subst (λ v. word_at now (value_at n v) ≡ pos 0) (sym z) w.at)
          | inr z ↦ elim (u.gone y a b)
              [ inl e ↦ inl (w.rest (value_at n y) (omega arith) ∙ e) | inr e ↦ inr (w.rest (value_at n y) (omega arith) ∙ e.0, no_more y z e.1) ]
        ];
      }

pub undone_coherent : (n L len q : ℕ) (was now : List ℤ) → Coherent n L len was → Undone n len q was now → length now ≡ length was
    → WellFormed n (unmarked n was (trail_of n len was)) → Coherent n L q now
undone_coherent n L len q was now st u e w = record {
  big = let b = st.big in omega arith;
  fits = let f = st.fits in let g = u.fewer in omega arith;
  formed = subst (WellFormed n) (sym u.trail) w;
  values = λ x h. subst (λ t. word_at now (value_at n x) ≡ word t (suc x)) (sym u.trail) (elim (cases_Bool (marked_index n was x)) [
    | inr m ↦ u.values x h m ∙ (st.values x h ∙ sym (value_kept n was x (trail_of n len was) m))
    | inl m ↦ elim (u.gone x h m) [
      | inl z ↦ z ∙ sym (value_gone n was x (trail_of n len was) m)
      | inr z ↦ z.0 ∙ (st.values x h ∙ (value_none n len was x z.1 ∙ sym (value_gone n was x (trail_of n len was) m)))
    ]
  ]);
  counts = λ x h. rw (u.out.above (row_at n x 1) (omega arith)) (st.counts x h);
}

-- assumptions and slots stay
module _ (n L a len f q : ℕ) (was now : List ℤ) (so : Sound n L a len f was) (u : Undone n len q was now) where
  outside : Outside (2 * n) (4 * n + n * (n + 1)) was now
  outside = outside_wider (2 * n) (2 * n) (2 * n) (4 * n + n * (n + 1)) was now (omega arith) (omega arith) u.out

  pub undone_sound : length now ≡ length was → WellFormed n (unmarked n was (trail_of n len was)) → Sound n L a q f now
  undone_sound e w = sound_kept n L a len q f was now so outside (undone_coherent n L len q was now so.coherent u e w)

  pub undone_position : position_of n a q f now ≡ record { assumptions = assumptions_of a was; trail = unmarked n was (trail_of n len was); slots = slots_of n f was }
  undone_position = position_kept n L a len q f was now so outside
      ∙ ap (λ t. record { assumptions = assumptions_of a was; trail = t; slots = slots_of n f was }) u.trail
