-- Slots: what is stored in them, what a write to the next one adds, and what other writes leave of a position.
use Rattle.std.proofs.Common.{◌≡◌, ℕ, suc, ◌+◌, ◌*◌, ◌<◌, ◌≤◌, true, false, ltb, List, [], ◌∷◌, ◌++◌, length, ℤ, pos, nat_abs, All, sym, ap, ◌∙◌, subst, inl, inr, add_assoc, zero-add, arith}
use Rattle.std.proofs.lemmas.List.FromFn.{length-map-range_with_len, map-range_with_len_more}
use Rattle.std.proofs.lemmas.Bool.{cases_eq, lt-ltb, le-ltb}
use Rattle.rules.specs.Literals.{in_range}
use Rattle.theory.specs.Trail.{free, Placeable, WellFormed, word}
use Rattle.theory.specs.Search.{placed}
use Rattle.theory.specs.Conflict.{written}
use Rattle.session.specs.Words.{word_at, words_from, index_of, trail_at, value_at, row_at, Wrote, Outside, clause_at}
use Rattle.session.specs.Decode.{as_entry, entry_of, reason_of, trail_of, assumptions_of, slot_count, slot_of, slots_of, position_of, Coherent, Stored, Sound, standing_word, clause_of}
use Rattle.session.proofs.Words.{index_range, counted_same, words_same, all_words, rows_apart, slot_behind, reason_before}
use Rattle.session.proofs.Decode.{entry_literal, entry_same, trail_same, place_at, room_for}
use Rattle.session.proofs.Placing.{Touched, Laid, laid_entry, laid_set, pushed, pushed_coherent}
use Rattle.session.specs.declared.memory.Memory.{Memory}
use Rattle.session.specs.Memories.{trail_in, position_in, clause_in}
use Rattle.weights.specs.declared.weigher.Standing.{Standing}
use Rattle.std.proofs.Common.{length-set, set}
use Rattle.theory.proofs.Trails.{free_parts}

-- a slot is read from its row
pub slot_same : (n s : ℕ) (was now : List ℤ) → ((k : ℕ) → k ≤ slot_count n was s → word_at now (row_at n (n + s) k) ≡ word_at was (row_at n (n + s) k)) → slot_of n now s ≡ slot_of n was s
slot_same n s was now h =
    let e = h 0 (omega arith) in
    let w = words_same was now (row_at n (n + s) 1) (row_at n (n + s) 1) (slot_count n was s)
    (λ i b. subst (λ a. word_at now a ≡ word_at was a) (sym (add_assoc (6 * n + (n + s) * (n + 1)) 1 i)) (h (1 + i) (omega arith))) in
    rw (e, w)

pub slots_same : (n filled : ℕ) (was now : List ℤ) → ((s k : ℕ) → s < filled → k ≤ slot_count n was s → word_at now (row_at n (n + s) k) ≡ word_at was (row_at n (n + s) k))
    → slots_of n filled now ≡ slots_of n filled was
slots_same n filled was now h = counted_same (slot_of n now) (slot_of n was) 0 0 filled
    (λ i l. slot_same n (0 + i) was now (λ k b. h (0 + i) k (omega arith) b))

pub stored_same : (n filled : ℕ) (was now : List ℤ) → ((s k : ℕ) → s < filled → k ≤ slot_count n was s → word_at now (row_at n (n + s) k) ≡ word_at was (row_at n (n + s) k))
    → Stored n filled was → Stored n filled now
stored_same n filled was now h st = record {
  short = λ s l. rw (h s 0 l (omega arith)) (st.short s l);
  ranged = λ s i l b.
      let e = h s 0 l (omega arith) in
      let b' : i < slot_count n was s = subst (λ v. i < nat_abs v) e b in
      let a = add_assoc (6 * n + (n + s) * (n + 1)) 1 i in
      subst (λ v. in_range n v ≡ true) (sym (ap (word_at now) a ∙ h s (1 + i) l (omega arith) ∙ ap (word_at was) (sym a))) (st.ranged s i l b');
}

-- what a change behind the assumptions and before the slots leaves of a position
module _ (n L count len len' filled : ℕ) (was now : List ℤ) (so : Sound n L count len filled was) (o : Outside (2 * n) (4 * n + n * (n + 1)) was now) where
  slots_kept : (s k : ℕ) → s < filled → k ≤ slot_count n was s → word_at now (row_at n (n + s) k) ≡ word_at was (row_at n (n + s) k)
  slots_kept s k l b = let q = slot_behind n s k in o.above (row_at n (n + s) k) (omega arith)

  pub sound_kept : Coherent n L len' now → Sound n L count len' filled now
  sound_kept co =
      let f = so.few in
      record {
        coherent = co;
        few = f;
        ranged = λ i h. rw (o.below i (omega arith)) (so.ranged i h);
        within = so.within;
        stored = stored_same n filled was now slots_kept so.stored;
      }

  pub position_kept : position_of n count len' filled now ≡ record { assumptions = assumptions_of count was; trail = trail_of n len' now; slots = slots_of n filled was }
  position_kept =
      let f = so.few in
      rw (counted_same (word_at now) (word_at was) 0 0 count (λ i h. o.below (0 + i) (omega arith)), slots_same n filled was now slots_kept)

-- a placed literal touches neither assumptions nor slots
pub touched_outside : (n p x : ℕ) (was now : List ℤ) → p < n → x < n → Touched n p x was now → Outside (2 * n) (4 * n + n * (n + 1)) was now
touched_outside n p x was now a b t =
    let q = reason_before n x n b (omega arith) in
    record { below = λ i h. t.below i (omega arith) (omega arith) (omega arith); above = λ i h. t.above i (omega arith) }

-- a literal that is laid is placed, with the reason that its row held
module _ (n L a len f : ℕ) (l s : ℤ) (was now : List ℤ) (so : Sound n L a len f was) (p : Placeable n (trail_of n len was) (as_entry s l (reason_of n was (index_of l))))
    (la : Laid n len l s was now) (same : length now ≡ length was) where
  abbrev others : List ℤ
  others = reason_of n was (index_of l)

  unassigned : free n (trail_of n len was) l ≡ true
  unassigned = subst (λ k. free n (trail_of n len was) k ≡ true) (entry_literal s l others) p.unassigned

  within : index_of l < n
  within = (index_range n l (free_parts n (trail_of n len was) l unassigned).0).1

  room : len < n
  room = room_for n len was (as_entry s l others) so.coherent.formed p

  entry : entry_of n now l ≡ as_entry s l others
  entry = laid_entry n L len l s was now so.coherent within la

  outside : Outside (2 * n) (4 * n + n * (n + 1)) was now
  outside = touched_outside n len (index_of l) was now room within la.touched

  pub laid_sound : Sound n L a (len + 1) f now
  laid_sound =
      let w = within in
      sound_kept n L a len (len + 1) f was now so outside
      (pushed_coherent n L len l (as_entry s l others) was now so.coherent unassigned room la.touched la.at_trail la.at_value entry same
      (rw (la.reason 1 (omega arith) (omega arith)) (so.coherent.counts (index_of l) within)) p)

  pub laid_position : position_of n a (len + 1) f now ≡ placed (position_of n a len f was) (as_entry s l others)
  laid_position = position_kept n L a len (len + 1) f was now so outside
      ∙ ap (λ t. record { assumptions = assumptions_of a was; trail = t; slots = slots_of n f was })
      (pushed n L len l (as_entry s l others) was now so.coherent unassigned room la.touched la.at_trail la.at_value entry)

-- the same of a memory whose three words are written one after another
module _ (m : Memory) (l : ℤ) (k : Standing) (v t : ℤ) (x a b d : ℕ) (p : Placeable m.layout.variables (trail_in m) (as_entry (standing_word k) l (reason_of m.layout.variables m.words.now (index_of l))))
    (e : v ≡ l) (w : t ≡ standing_word k) (is : x ≡ index_of l) (ea : a ≡ trail_at m.layout.variables m.extent.trail) (eb : b ≡ value_at m.layout.variables x) (ed : d ≡ row_at m.layout.variables x 0) where
  abbrev now : List ℤ
  now = set (set (set m.words.now a v) b v) d t

  inside : index_of l < m.layout.variables
  inside =
      let n = m.layout.variables in
      let others = reason_of n m.words.now (index_of l) in
      let free_literal = subst (λ j. free n (trail_in m) j ≡ true) (entry_literal (standing_word k) l others) p.unassigned in
      (index_range n l (free_parts n (trail_in m) l free_literal).0).1

  words_laid : Laid m.layout.variables m.extent.trail l (standing_word k) m.words.now now
  words_laid =
      let n = m.layout.variables in
      laid_set n m.layout.slots m.extent.trail l (standing_word k) v t m.words.now a b d m.sound.coherent.big (room_for n m.extent.trail m.words.now _ m.sound.coherent.formed p)
      inside e w ea (eb ∙ ap (value_at n) is) (ed ∙ ap (λ y. row_at n y 0) is)

  as_long : length now ≡ length m.words.now
  as_long = length-set (set (set m.words.now a v) b v) d t ∙ length-set (set m.words.now a v) b v ∙ length-set m.words.now a v

  pub written_sound : Sound m.layout.variables m.layout.slots m.extent.assumptions (m.extent.trail + 1) m.extent.slots now
  written_sound = laid_sound _ _ _ _ _ l (standing_word k) m.words.now now m.sound p words_laid as_long

  pub written_clause : (count : ℕ) → count ≤ m.layout.variables → clause_of m.layout.variables count now ≡ clause_in m count
  written_clause count few =
      let n = m.layout.variables in
      let i = inside in
      let fits = m.sound.coherent.fits in
      words_same m.words.now now (clause_at n 0) (clause_at n 0) count (λ j h. words_laid.touched.below (clause_at n 0 + j) (omega arith) (omega arith) (omega arith))

  pub written_position : position_of m.layout.variables m.extent.assumptions (m.extent.trail + 1) m.extent.slots now
      ≡ placed (position_in m) (as_entry (standing_word k) l (reason_of m.layout.variables m.words.now (index_of l)))
  written_position = laid_position _ _ _ _ _ l (standing_word k) m.words.now now m.sound p words_laid as_long

-- what a change among the slots leaves of the rest
module _ (n L len : ℕ) (was now : List ℤ) (st : Coherent n L len was) (o : (i : ℕ) → i < row_at n n 0 → word_at now i ≡ word_at was i) where
  pub before_trail : trail_of n len now ≡ trail_of n len was
  before_trail =
      let f = st.fits in
      trail_same n len was now (λ p h. o (trail_at n p) (omega arith))
      (λ p h.
      let l = word_at was (trail_at n p) in
      let q = (place_at n len was st.formed p h).within in
      let b = st.counts (index_of l) q in
      entry_same n was now l (λ k g. o (row_at n (index_of l) k) (reason_before n (index_of l) k q (omega arith))))

  pub before_coherent : length now ≡ length was → Coherent n L len now
  before_coherent e = record {
    big = let q = st.big in omega arith;
    fits = st.fits;
    formed = subst (WellFormed n) (sym before_trail) st.formed;
    values = λ x h. subst (λ t. word_at now (value_at n x) ≡ word t (suc x)) (sym before_trail) (o (value_at n x) (omega arith) ∙ st.values x h);
    counts = λ x h. rw (o (row_at n x 1) (reason_before n x 1 h (omega arith))) (st.counts x h);
  }

-- a clause is written to the next slot
module _ (n filled k : ℕ) (C : List ℤ) (was mid now : List ℤ) (few : k ≤ n) (copied : words_from mid (row_at n (n + filled) 1) k ≡ C) (o : Outside (row_at n (n + filled) 1) k was mid)
    (w : Wrote (row_at n (n + filled) 0) (pos k) mid now) (st : Stored n filled was) where
  pub stored_before : (i : ℕ) → i < row_at n (n + filled) 0 → word_at now i ≡ word_at was i
  stored_before i h = w.rest i (omega arith) ∙ o.below i (omega arith)

  pub stored_behind : (i : ℕ) → row_at n (n + filled) (n + 1) ≤ i → word_at now i ≡ word_at was i
  stored_behind i h = w.rest i (omega arith) ∙ o.above i (omega arith)

  older : (s j : ℕ) → s < filled → j ≤ slot_count n was s → word_at now (row_at n (n + s) j) ≡ word_at was (row_at n (n + s) j)
  older s j h b =
      let g = st.short s h in
      elim (rows_apart n (n + filled) (n + s) j (omega arith) (omega arith)) [ inl l ↦ stored_before (row_at n (n + s) j) l | inr l ↦ stored_behind (row_at n (n + s) j) l ]

  newest_count : slot_count n now filled ≡ k
  newest_count = ap nat_abs w.at

  newest : slot_of n now filled ≡ C
  newest = ap (words_from now (row_at n (n + filled) 1)) newest_count
      ∙ words_same mid now (row_at n (n + filled) 1) (row_at n (n + filled) 1) k (λ i h. w.rest (row_at n (n + filled) 1 + i) (omega arith)) ∙ copied

  pub stored_slots : slots_of n (filled + 1) now ≡ slots_of n filled was ++ (C ∷ [])
  stored_slots = map-range_with_len_more (slot_of n now) 0 filled filled (zero-add filled)
      ∙ ap (λ c. slots_of n filled now ++ (c ∷ [])) newest ∙ ap (λ xs. xs ++ (C ∷ [])) (slots_same n filled was now older)

  pub stored_more : All (λ l. in_range n l ≡ true) C → Stored n (filled + 1) now
  stored_more r =
      let old = stored_same n filled was now older st in
      let all = all_words (λ l. in_range n l ≡ true) now (row_at n (n + filled) 1) (slot_count n now filled) (subst (All (λ l. in_range n l ≡ true)) (sym newest) r) in
      record {
        short = λ s h. elim (cases_eq s filled) [ inl e ↦ subst (λ z. slot_count n now z ≤ n) (sym e) (rw newest_count few) | inr e ↦ old.short s (omega arith) ];
        ranged = λ s i h b. elim (cases_eq s filled) [
          | inl e ↦ subst (λ z. (i < slot_count n now z → in_range n (word_at now (row_at n (n + z) 1 + i)) ≡ true)) (sym e) (all i) b
          | inr e ↦ old.ranged s i (omega arith) b
        ];
      }

-- whether a slot is empty
pub written_next : (n L filled : ℕ) (ws : List ℤ) (C : List ℤ) → filled < L → written L (slots_of n filled ws) C ≡ slots_of n filled ws ++ (C ∷ [])
written_next n L filled ws C h =
    let e : length (slots_of n filled ws) ≡ filled = length-map-range_with_len (slot_of n ws) 0 filled in
    let b : ltb (length (slots_of n filled ws)) L ≡ true = lt-ltb (length (slots_of n filled ws)) L (omega arith) in
    rw b

pub written_full : (n L filled : ℕ) (ws : List ℤ) (C : List ℤ) → L ≤ filled → written L (slots_of n filled ws) C ≡ slots_of n filled ws
written_full n L filled ws C h =
    let e : length (slots_of n filled ws) ≡ filled = length-map-range_with_len (slot_of n ws) 0 filled in
    let b : ltb (length (slots_of n filled ws)) L ≡ false = le-ltb (length (slots_of n filled ws)) L (omega arith) in
    rw b

-- the rest of a position stays when a clause is written to the next slot
module _ (n L a len f k : ℕ) (C : List ℤ) (was mid now : List ℤ) (so : Sound n L a len f was) (few : k ≤ n) (room : f < L) (copied : words_from mid (row_at n (n + f) 1) k ≡ C)
    (o : Outside (row_at n (n + f) 1) k was mid) (w : Wrote (row_at n (n + f) 0) (pos k) mid now) where
  before : (i : ℕ) → i < row_at n n 0 → word_at now i ≡ word_at was i
  before i h = let q = slot_behind n f 0 in stored_before n f k C was mid now few copied o w so.stored i (omega arith)

  pub learned_sound : length now ≡ length was → All (λ l. in_range n l ≡ true) C → Sound n L a len (f + 1) now
  learned_sound same r =
      let small = so.few in
      record {
        coherent = before_coherent n L len was now so.coherent before same;
        few = small;
        ranged = λ i h. rw (before i (omega arith)) (so.ranged i h);
        within = omega arith;
        stored = stored_more n f k C was mid now few copied o w so.stored r;
      }

  pub learned_position : position_of n a len (f + 1) now ≡ record { assumptions = assumptions_of a was; trail = trail_of n len was; slots = written L (slots_of n f was) C }
  learned_position =
      let small = so.few in
      rw (words_same was now 0 0 a (λ i h. before (0 + i) (omega arith)), before_trail n L len was now so.coherent before, stored_slots n f k C was mid now few copied o w so.stored, written_next n L f was C room)
