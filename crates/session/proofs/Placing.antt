-- One entry more on the trail, however its words were written.
use Rattle.std.proofs.Common.{◌≡◌, ℕ, zero, suc, ◌+◌, ◌<◌, ◌≤◌, true, false, cond, ◌||◌, eqb, ◌≢◌, List, ◌∷◌, length, ℤ, pos, negsuc, neg_ℤ, sym, refl, ap, ◌∙◌, subst, inl, inr, add-one, arith, add_assoc, ◌*◌, set, length-set}
use Rattle.std.proofs.Common.{◌⊎◌, []}
use Rattle.std.proofs.lemmas.Bool.{cond_both, eqb-true, eqb-false, eq-eqb, ne_eqb, cases_eq}
use Rattle.rules.specs.Literals.{var, same}
use Rattle.theory.specs.Trail.{Entry, Trail, literal, on, free, Placeable, WellFormed, word}
use Rattle.theory.proofs.Trails.{free_parts}
use Rattle.session.specs.Words.{word_at, index_of, trail_at, value_at, row_at, Wrote, size}
use Rattle.session.specs.Decode.{as_entry, reason_count, entry_of, trail_of, Coherent, reason_of}
use Rattle.session.proofs.Words.{rows_apart, index_range, words_same, row_below, wrote}
use Rattle.session.proofs.Decode.{literal_of, entry_same, trail_same, place_at, on_at, index_apart}

-- the value of the variable of index x once a free literal is placed
value_placed : (t : Trail) (l : ℤ) (x : ℕ) → 1 ≤ var l → on t (neg_ℤ l) ≡ false
    → cond (same (pos (suc x)) l || on t (pos (suc x))) (pos (suc x)) (cond (same (negsuc x) l || on t (negsuc x)) (negsuc x) (pos 0))
    ≡ cond (eqb x (index_of l)) l (word t (suc x))
value_placed t (pos zero) x h f = let q : ⊥ = omega arith in absurd q
value_placed t (pos (suc a)) x h f = elim (cases_eq x a) [
  | inl e ↦ rw (e, eq-eqb (suc a) (suc a) refl, eq-eqb a a refl)
  | inr e ↦ rw (ne_eqb (suc x) (suc a) (λ z. e (omega arith)), ne_eqb x a e)
]
value_placed t (negsuc a) x h f = elim (cases_eq x a) [ inl e ↦ rw (e, f, eq-eqb a a refl) | inr e ↦ rw (ne_eqb x a e) ]

-- only the trail's word at place p and the value and the row of the variable of index x may have changed
pub record Touched (n p x : ℕ) (was now : List ℤ) : Type 0 where
  pub below : (i : ℕ) → i ≢ trail_at n p → i ≢ value_at n x → i < row_at n x 0 → word_at now i ≡ word_at was i
  pub above : (i : ℕ) → row_at n x (n + 1) ≤ i → word_at now i ≡ word_at was i

-- the words of a literal l that is laid on the trail at place len: that and its value are l, its row begins with s, and its reason is as it was
pub record Laid (n len : ℕ) (l s : ℤ) (was now : List ℤ) : Type 0 where
  pub touched : Touched n len (index_of l) was now
  pub at_trail : word_at now (trail_at n len) ≡ l
  pub at_value : word_at now (value_at n (index_of l)) ≡ l
  pub at_standing : word_at now (row_at n (index_of l) 0) ≡ s
  pub reason : (k : ℕ) → 1 ≤ k → k ≤ n → word_at now (row_at n (index_of l) k) ≡ word_at was (row_at n (index_of l) k)

-- what is written for a free literal leaves the trail as it was
module _ (n L len : ℕ) (l : ℤ) (ws now : List ℤ) (st : Coherent n L len ws) (fr : free n (trail_of n len ws) l ≡ true) (to : Touched n len (index_of l) ws now) where
  inside : (1 ≤ var l) × (index_of l < n)
  inside = index_range n l (free_parts n (trail_of n len ws) l fr).0

  pub row_rest : (x k : ℕ) → k ≤ n → x ≢ index_of l → word_at now (row_at n x k) ≡ word_at ws (row_at n x k)
  row_rest x k h d =
      let i = inside.1 in
      let f = st.fits in
      elim (rows_apart n (index_of l) x k d h) [ inl b ↦ to.below (row_at n x k) (omega arith) (omega arith) b | inr b ↦ to.above (row_at n x k) b ]

  pub under : trail_of n len now ≡ trail_of n len ws
  under =
      let i = inside.1 in
      let fits = st.fits in
      let f = free_parts n (trail_of n len ws) l fr in
      trail_same n len ws now (λ p h. to.below (trail_at n p) (omega arith) (omega arith) (omega arith))
      (λ p h.
      let q = place_at n len ws st.formed p h in
      let b = st.counts (index_of (word_at ws (trail_at n p))) q.within in
      entry_same n ws now (word_at ws (trail_at n p))
      (λ k g. row_rest (index_of (word_at ws (trail_at n p))) k (omega arith) (index_apart (trail_of n len ws) l (word_at ws (trail_at n p)) inside.0 q.low f.1 f.2 (on_at n len ws p h))))

module _ (n L len : ℕ) (l : ℤ) (e : Entry) (ws now : List ℤ) (st : Coherent n L len ws) (fr : free n (trail_of n len ws) l ≡ true) (room : len < n)
    (to : Touched n len (index_of l) ws now) (at_trail : word_at now (trail_at n len) ≡ l) (at_value : word_at now (value_at n (index_of l)) ≡ l)
    (is : entry_of n now l ≡ e) where
  pub pushed : trail_of n (len + 1) now ≡ e ∷ trail_of n len ws
  pushed = rw (add-one len, at_trail, is, under n L len l ws now st fr to)

  pub pushed_coherent : length now ≡ length ws → reason_count n now (index_of l) + 1 ≤ n → Placeable n (trail_of n len ws) e → Coherent n L (len + 1) now
  pushed_coherent g c f =
      let i = (inside n L len l ws now st fr to).1 in
      let k : literal e ≡ l = ap literal (sym is) ∙ literal_of n now l in
      record {
        big = let q = st.big in omega arith;
        fits = omega arith;
        formed = subst (WellFormed n) (sym pushed) (f, st.formed);
        values = λ x h. subst (λ t. word_at now (value_at n x) ≡ word t (suc x)) (sym pushed)
            (rw k (rw (value_placed (trail_of n len ws) l x (inside n L len l ws now st fr to).0 (free_parts n (trail_of n len ws) l fr).2)
            (cond_both (eqb x (index_of l)) l (word (trail_of n len ws) (suc x)) (λ v. word_at now (value_at n x) ≡ v)
            (λ q. subst (λ y. word_at now (value_at n y) ≡ l) (sym (eqb-true x (index_of l) q)) at_value)
            (λ q. let z = eqb-false x (index_of l) q in to.below (value_at n x) (omega arith) (omega arith) (omega arith) ∙ st.values x h))));
        counts = λ x h. elim (cases_eq x (index_of l)) [
          | inl z ↦ subst (λ y. reason_count n now y + 1 ≤ n) (sym z) c
          | inr z ↦ rw (row_rest n L len l ws now st fr to x 1 (omega arith) z) (st.counts x h)
        ];
      }

-- a free literal may be placed as assumed and as decided
pub known_placeable : (n : ℕ) (t : Trail) (l s : ℤ) → free n t l ≡ true → (s ≡ pos 1) ⊎ (s ≡ pos 2) → Placeable n t (as_entry s l [])
known_placeable n t l s fr h =
    elim h [ inl e ↦ rw e (record { unassigned = fr; grounded = tt }) | inr e ↦ rw e (record { unassigned = fr; grounded = tt }) ]

-- a literal that is laid has the reason that its row held
pub laid_entry : (n L len : ℕ) (l s : ℤ) (was now : List ℤ) → Coherent n L len was → index_of l < n → Laid n len l s was now → entry_of n now l ≡ as_entry s l (reason_of n was (index_of l))
laid_entry n L len l s was now st h la =
    let x = index_of l in
    let c = st.counts x h in
    let e = la.reason 1 (omega arith) (omega arith) in
    let w = words_same was now (row_at n x 2) (row_at n x 2) (reason_count n was x)
    (λ i b. subst (λ a. word_at now a ≡ word_at was a) (sym (add_assoc (6 * n + x * (n + 1)) 2 i)) (la.reason (2 + i) (omega arith) (omega arith))) in
    rw (la.at_standing, e, w)

-- what writing trail, value and standing leaves
pub laid : (n len : ℕ) (l s : ℤ) (ws w1 w2 now : List ℤ) → Wrote (trail_at n len) l ws w1 → Wrote (value_at n (index_of l)) l w1 w2
    → Wrote (row_at n (index_of l) 0) s w2 now → len < n → index_of l < n → Laid n len l s ws now
laid n len l s ws w1 w2 now a b d h i = record {
  touched = record {
    below = λ j p q r. d.rest j (omega arith) ∙ (b.rest j q ∙ a.rest j p);
    above = λ j p. d.rest j (omega arith) ∙ (b.rest j (omega arith) ∙ a.rest j (omega arith));
  };
  at_trail = d.rest (trail_at n len) (omega arith) ∙ (b.rest (trail_at n len) (omega arith) ∙ a.at);
  at_value = d.rest (value_at n (index_of l)) (omega arith) ∙ b.at;
  at_standing = d.at;
  reason = λ k g m. d.rest (row_at n (index_of l) k) (omega arith) ∙ (b.rest (row_at n (index_of l) k) (omega arith) ∙ a.rest (row_at n (index_of l) k) (omega arith));
}

-- the same of its three words, written one after another
pub laid_set : (n L len : ℕ) (l s v t : ℤ) (ws : List ℤ) (a b d : ℕ) → size n L ≤ length ws → len < n → index_of l < n → v ≡ l → t ≡ s
    → a ≡ trail_at n len → b ≡ value_at n (index_of l) → d ≡ row_at n (index_of l) 0 → Laid n len l s ws (set (set (set ws a v) b v) d t)
laid_set n L len l s v t ws a b d big room within e f ea eb ed =
    let r = row_below n L (index_of l) 0 (omega arith) (omega arith) in
    let w1 = set ws a v in
    let w2 = set w1 b v in
    let h1 : length w1 ≡ length ws = length-set ws a v in
    let h2 : length w2 ≡ length w1 = length-set w1 b v in
    laid n len l s ws w1 w2 (set w2 d t)
    (subst (λ i. Wrote i l ws w1) ea (subst (λ x. Wrote a x ws w1) e (wrote ws a v (omega arith))))
    (subst (λ i. Wrote i l w1 w2) eb (subst (λ x. Wrote b x w1 w2) e (wrote w1 b v (omega arith))))
    (subst (λ i. Wrote i s w2 (set w2 d t)) ed (subst (λ x. Wrote d x w2 (set w2 d t)) f (wrote w2 d t (omega arith)))) room within
