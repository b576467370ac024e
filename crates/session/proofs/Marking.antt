-- The marks tell the chunk of a literal, from the oldest place of the trail on.
use Rattle.std.proofs.Common.{◌≡◌, ℕ, suc, ◌+◌, ◌*◌, ◌<◌, Bool, true, false, eqb, ◌≢◌, List, ℤ, neg_ℤ, nat_abs, pos, sym, refl, ap, ◌∙◌, subst, inl, inr, add-one, arith}
use Rattle.std.proofs.Common.{[]}
use mathlib.Core.Bool.{false≢true}
use Rattle.std.proofs.lemmas.Bool.{cond_both, or_parts, both_ways}
use Rattle.rules.specs.Literals.{same}
use Rattle.rules.proofs.Literals.{same_true, eq_same, all_has, has_all}
use Rattle.theory.specs.Trail.{Entry, Entry.assumed, Entry.decided, Entry.implied, Trail, on, Grounded, WellFormed}
use Rattle.theory.specs.Chunks.{joins, in_chunk}
use Rattle.theory.proofs.Ranks.{chunk_empty}
use Rattle.theory.proofs.Trails.{AllFalse, meets, meets_cong, on_range}
use Rattle.session.specs.Words.{word_at, index_of, trail_at, mark_at, row_at, Wrote, Outside}
use Rattle.session.specs.Decode.{entry_of, entry_at, trail_of, marked, bit, Marked, Coherent}
use Rattle.session.proofs.Words.{index_range}
use Rattle.session.proofs.Decode.{literal_of, entry_same, place_at, front_formed, index_apart, index_same}

pub bit_is : (b : Bool) → eqb (nat_abs (bit b)) 1 ≡ b
bit_is true = refl
bit_is false = refl

-- the marks as a test
pub marked_is : (n : ℕ) (t : Trail) (test : ℤ → Bool) (ws : List ℤ) → Marked n t test ws → (l : ℤ) → on t l ≡ true → marked n ws l ≡ test l
marked_is n t test ws m l o = rw (m.on_trail l o) (bit_is (test l))

-- where no variable is marked, the marks are those of an empty trail
pub marked_none : (n : ℕ) (test : ℤ → Bool) (ws : List ℤ) → ((x : ℕ) → x < n → word_at ws (mark_at n x) ≡ pos 0) → Marked n [] test ws
marked_none n test ws h = record { on_trail = λ l e. absurd (false≢true e); off_trail = λ l g _ _. h (index_of l) (index_range n l g).1 }

-- where the literal is not on the trail and no variable is marked, the marks tell its chunk, which is empty
pub nothing_marked : (n : ℕ) (t : Trail) (d : ℤ) (ws : List ℤ) → WellFormed n t → on t d ≡ false → ((x : ℕ) → x < n → word_at ws (mark_at n x) ≡ pos 0) → Marked n t (in_chunk d t) ws
nothing_marked n t d ws formed o clear = record {
  on_trail = λ l g. clear (index_of l) (index_range n l (on_range n t formed l g)).1 ∙ ap bit (sym (chunk_empty d t o l));
  off_trail = λ l g f f'. clear (index_of l) (index_range n l g).1;
}

-- a false clause meets what the tests of true literals say
pub meets_false : (t : Trail) (f g : ℤ → Bool) → ((l : ℤ) → on t l ≡ true → f l ≡ g l) → (C : List ℤ) → AllFalse t C → meets f C ≡ meets g C
meets_false t f g h C w = meets_cong f g C (has_all (λ k. f (neg_ℤ k) ≡ g (neg_ℤ k)) C (λ k e. h (neg_ℤ k) (all_has (λ j. on t (neg_ℤ j) ≡ true) C w k e)))

pub joins_cong : (d : ℤ) (t : Trail) (f g : ℤ → Bool) → ((l : ℤ) → on t l ≡ true → f l ≡ g l) → (e : Entry) → Grounded t e → joins d f e ≡ joins d g e
joins_cong d t f g h (assumed l) w = refl
joins_cong d t f g h (decided l) w = refl
joins_cong d t f g h (implied l others) w = meets_false t f g h others w

module _ (n L len : ℕ) (d : ℤ) (was ws now : List ℤ) (st : Coherent n L len was) (o : Outside (5 * n) n was ws) (p : ℕ) (h : p < len) (r : Bool)
    (old : Marked n (trail_of n p was) (in_chunk d (trail_of n p was)) ws) where
  same_literal : word_at ws (trail_at n p) ≡ word_at was (trail_at n p)
  same_literal = let f = st.fits in o.below (trail_at n p) (omega arith)

  same_entry : entry_at n ws p ≡ entry_at n was p
  same_entry = ap (entry_of n ws) same_literal ∙ entry_same n was ws (word_at was (trail_at n p))
      (λ k g. o.above (row_at n (index_of (word_at was (trail_at n p))) k) (omega arith))

  joined : r ≡ joins d (marked n ws) (entry_at n ws p) → r ≡ joins d (in_chunk d (trail_of n p was)) (entry_at n was p)
  joined e = e ∙ (ap (joins d (marked n ws)) same_entry
      ∙ joins_cong d (trail_of n p was) (marked n ws) (in_chunk d (trail_of n p was)) (marked_is n (trail_of n p was) (in_chunk d (trail_of n p was)) ws old) (entry_at n was p)
      (place_at n len was st.formed p h).supported)

  step : (x : ℕ) → x ≡ index_of (word_at ws (trail_at n p)) → r ≡ joins d (marked n ws) (entry_at n ws p) → Wrote (mark_at n x) (bit r) ws now
      → Marked n (trail_of n (suc p) was) (in_chunk d (trail_of n (suc p) was)) now
  step x i e w =
      let l = word_at was (trail_at n p) in
      let t = trail_of n p was in
      let pl = place_at n len was st.formed p h in
      let i' : x ≡ index_of l = i ∙ ap index_of same_literal in
      let wf = front_formed n len was st.formed p (omega arith) in
      record {
        on_trail = λ m g. rw (literal_of n was l) (cond_both (same m l) (joins d (in_chunk d t) (entry_of n was l)) (in_chunk d t m) (λ b. word_at now (mark_at n (index_of m)) ≡ bit b)
            (λ q. subst (λ z. word_at now (mark_at n z) ≡ bit (joins d (in_chunk d t) (entry_of n was l))) (i' ∙ ap index_of (sym (same_true m l q))) (w.at ∙ ap bit (joined e)))
            (λ q.
            let g' : on t m ≡ true = rw (literal_of n was l, q) at g in
            let a = index_apart t l m pl.low (index_range n m (on_range n t wf m g')).0 pl.new pl.new_negation g' in
            w.rest (mark_at n (index_of m)) (omega arith) ∙ old.on_trail m g'));
        off_trail = λ m g f f'.
            let a = or_parts (same m l) (on t m) (rw (literal_of n was l) at f) in
            let b = or_parts (same (neg_ℤ m) l) (on t (neg_ℤ m)) (rw (literal_of n was l) at f') in
            let v : index_of m ≢ index_of l = λ z. elim (index_same m l (index_range n m g).0 pl.low z)
            [ inl q ↦ both_ways (same m l) a.0 (eq_same m l (sym q)) | inr q ↦ both_ways (same (neg_ℤ m) l) b.0 (eq_same (neg_ℤ m) l (sym q)) ] in
            w.rest (mark_at n (index_of m)) (omega arith) ∙ old.off_trail m g a.1 b.1;
      }

  pub marked_more : (x : ℕ) → x ≡ index_of (word_at ws (trail_at n p)) → r ≡ joins d (marked n ws) (entry_at n ws p) → Wrote (mark_at n x) (bit r) ws now
      → Marked n (trail_of n (p + 1) was) (in_chunk d (trail_of n (p + 1) was)) now
  marked_more x i e w = subst (λ z. Marked n (trail_of n z was) (in_chunk d (trail_of n z was)) now) (sym (add-one p)) (step x i e w)
