-- A reason is copied from the clause in hand, and its literal placed.
use Rattle.std.proofs.Common.{◌≡◌, ℕ, ◌+◌, ◌-◌, ◌*◌, ◌<◌, ◌≤◌, Bool, true, false, cond, not, List, [], ◌∷◌, ◌++◌, length, get_or, take, drop, set, suc, ℤ, w32, SFits, to_z, of_z, pos, nat_abs, filter, sym, refl, ap, ◌∙◌, subst, inl, inr, add-one, arith, length-set, length-take-le, get_or-take}
use Rattle.std.proofs.Common.{◌≢◌, add_assoc}
use Rattle.std.proofs.lemmas.List.{append-nil, append_assoc, length-append, take-append-drop}
use Rattle.std.proofs.Math.Seq.{drop-cons, set-append_seam}
use Rattle.std.proofs.lemmas.List.Elements.{filter-append, filter_more}
use Rattle.std.proofs.lemmas.List.Filters.{length-filter_more, length-filter_both}
use Rattle.std.proofs.lemmas.List.FromFn.{length-map-range_with_len, get_or-map-range_with_len, map-range_with_len_more}
use Rattle.std.proofs.lemmas.Bool.{cases_eq, both_ways}
use Rattle.std.proofs.lemmas.Int.{to_z-of_z}
use Rattle.rules.specs.Literals.{same}
use Rattle.rules.proofs.Literals.{eq_same}
use Rattle.theory.proofs.Trails.{free_parts}
use Rattle.theory.specs.Trail.{Entry.implied, free, WellFormed, word, Placeable}
use Rattle.theory.specs.Conflict.{others_of}
use Rattle.session.proofs.Placing.{Touched, Laid, under, row_rest}
use Rattle.session.proofs.Storing.{sound_kept, position_kept}
use Rattle.session.specs.declared.memory.Memory.{Memory}
use Rattle.session.specs.Memories.{trail_in, position_in, clause_in}
use Rattle.session.specs.Words.{word_at, words_from, index_of, row_at, Wrote, Outside, value_at, clause_at}
use Rattle.session.specs.Decode.{reason_count, entry_of, Sound, trail_of, reason_of, position_of, assumptions_of, slots_of}
use Rattle.session.proofs.Reading.{part_from, split_outside, split_words, split_long}
use Rattle.session.proofs.Words.{words_same, index_range, reason_before, outside_wider, row_below, wrote}

-- places whose words are not the same are different places
pub places_apart : (ws : List ℤ) (a b : ℕ) → same (word_at ws a) (word_at ws b) ≡ false → a ≢ b
places_apart ws a b f e = both_ways (same (word_at ws a) (word_at ws b)) f (eq_same (word_at ws a) (word_at ws b) (ap (word_at ws) e))

-- one word more at the end
pub words_push : (was now : List ℤ) (base k : ℕ) (v : ℤ) → Wrote (base + k) v was now → words_from now base (k + 1) ≡ words_from was base k ++ (v ∷ [])
words_push was now base k v w = map-range_with_len_more (word_at now) base k (base + k) refl
    ∙ ap (λ x. words_from now base k ++ (x ∷ [])) w.at ∙ ap (λ xs. xs ++ (v ∷ [])) (words_same was now base base k (λ i h. w.rest (base + i) (omega arith)))

-- a literal that passes has a place among those of the whole list that do
pub room_left : (p : ℤ → Bool) (ls : List ℤ) (i : ℕ) → i < length ls → p (get_or ls i (pos 0)) ≡ true → length (filter p (take i ls)) < length (filter p ls)
room_left p ls i h e =
    let all = ap (filter p) (sym (take-append-drop (i + 1) ls)) ∙ filter-append p (take (i + 1) ls) (drop (i + 1) ls) in
    let many = ap length all ∙ length-append (filter p (take (i + 1) ls)) (filter p (drop (i + 1) ls)) in
    let more = length-filter_more p ls i (pos 0) h ∙ ap (λ b. length (filter p (take i ls)) + cond b 1 0) e in
    omega arith

-- a word is written behind those that the room has
pub behind : (xs was : List ℤ) (count : ℕ) (x : ℤ) → count ≡ length xs → count < length was → set (xs ++ drop count was) count x ≡ (xs ++ (x ∷ [])) ++ drop (count + 1) was
behind xs was count x c l =
    let d = get_or was count (pos 0) in
    ap (λ ys. set (xs ++ ys) count x) (drop-cons was count (pos 0) l) ∙ ap (λ k. set (xs ++ (d ∷ drop (suc count) was)) k x) c ∙ set-append_seam xs d (drop (suc count) was) x
    ∙ ap (λ k. xs ++ (x ∷ drop k was)) (sym (add-one count)) ∙ sym (append_assoc xs (x ∷ []) (drop (count + 1) was))

-- one more is copied to the front of the room, or none
pub copied_add : (p : ℤ → Bool) (ls room was : List ℤ) (i count : ℕ) (x : ℤ) → i < length ls → x ≡ get_or ls i (pos 0) → p x ≡ true → count ≡ length (filter p (take i ls)) → count < length was
    → room ≡ filter p (take i ls) ++ drop count was → (count + 1 ≡ length (filter p (take (i + 1) ls))) × (set room count x ≡ filter p (take (i + 1) ls) ++ drop (count + 1) was)
copied_add p ls room was i count x h is e c l r =
    let q : p (get_or ls i (pos 0)) ≡ true = ap p (sym is) ∙ e in
    let more : filter p (take (i + 1) ls) ≡ filter p (take i ls) ++ (x ∷ []) = filter_more p ls i (pos 0) h ∙ rw (q, is) in
    let many = ap length more ∙ length-append (filter p (take i ls)) (x ∷ []) in (
      omega arith,
      ap (λ ws. set ws count x) r ∙ behind (filter p (take i ls)) was count x c l ∙ ap (λ xs. xs ++ drop (count + 1) was) (sym more),
    )

pub copied_skip : (p : ℤ → Bool) (ls : List ℤ) (i : ℕ) → i < length ls → p (get_or ls i (pos 0)) ≡ false → filter p (take (i + 1) ls) ≡ filter p (take i ls)
copied_skip p ls i h e = filter_more p ls i (pos 0) h ∙ rw e (append-nil (filter p (take i ls)))

-- the reason of a free literal is written: only its row from word 1 on changes, and what the words stand for stays
module _ (n L a len f count : ℕ) (l : ℤ) (others : List ℤ) (ws w0 now : List ℤ) (so : Sound n L a len f ws) (fr : free n (trail_of n len ws) l ≡ true) (few : count + 1 ≤ n)
    (o : Outside (row_at n (index_of l) 2) (n - 1) ws w0) (copied : words_from w0 (row_at n (index_of l) 2) count ≡ others) (w : Wrote (row_at n (index_of l) 1) (pos count) w0 now) where
  within : index_of l < n
  within = (index_range n l (free_parts n (trail_of n len ws) l fr).0).1

  pub reason_frame : Outside (row_at n (index_of l) 1) n ws now
  reason_frame = record { below = λ i h. w.rest i (omega arith) ∙ o.below i (omega arith); above = λ i h. w.rest i (omega arith) ∙ o.above i (omega arith) }

  touched : Touched n len (index_of l) ws now
  touched = record { below = λ i p q r. reason_frame.below i (omega arith); above = λ i h. reason_frame.above i (omega arith) }

  reason_many : reason_count n now (index_of l) ≡ count
  reason_many = ap nat_abs w.at

  pub reason_is : reason_of n now (index_of l) ≡ others
  reason_is = ap (words_from now (row_at n (index_of l) 2)) reason_many
      ∙ words_same w0 now (row_at n (index_of l) 2) (row_at n (index_of l) 2) count (λ i h. w.rest (row_at n (index_of l) 2 + i) (omega arith)) ∙ copied

  same_trail : trail_of n len now ≡ trail_of n len ws
  same_trail = under n L len l ws now so.coherent fr touched

  outside : Outside (2 * n) (4 * n + n * (n + 1)) ws now
  outside = let i = within in let q = reason_before n (index_of l) n i (omega arith) in outside_wider (row_at n (index_of l) 1) n (2 * n) (4 * n + n * (n + 1)) ws now (omega arith) (omega arith) reason_frame

  pub reason_sound : length now ≡ length ws → Sound n L a len f now
  reason_sound e =
      let st = so.coherent in
      sound_kept n L a len len f ws now so outside
      record {
        big = let q = st.big in omega arith;
        fits = st.fits;
        formed = subst (WellFormed n) (sym same_trail) st.formed;
        values = λ x h. subst (λ t. word_at now (value_at n x) ≡ word t (suc x)) (sym same_trail) (reason_frame.below (value_at n x) (omega arith) ∙ st.values x h);
        counts = λ x h. elim (cases_eq x (index_of l)) [
          | inl z ↦ subst (λ y. reason_count n now y + 1 ≤ n) (sym z) (rw reason_many few)
          | inr z ↦ rw (row_rest n L len l ws now st fr touched x 1 (omega arith) z) (st.counts x h)
        ];
      }

  pub reason_position : position_of n a len f now ≡ position_of n a len f ws
  reason_position = position_kept n L a len len f ws now so outside
      ∙ ap (λ t. record { assumptions = assumptions_of a ws; trail = t; slots = slots_of n f ws }) same_trail

-- the others are copied to a literal's row and counted there, and the literal is laid on the trail as implied
module _ (n len count : ℕ) (l : ℤ) (others : List ℤ) (ws w0 w1 now : List ℤ) (few : count + 1 ≤ n) (o : Outside (row_at n (index_of l) 2) (n - 1) ws w0)
    (copied : words_from w0 (row_at n (index_of l) 2) count ≡ others) (a : Wrote (row_at n (index_of l) 1) (pos count) w0 w1)
    (la : Laid n len l (pos 3) w1 now) where
  -- only the trail's next word, and the value and the row of the variable may have changed
  pub imply_touched : len < n → index_of l < n → Touched n len (index_of l) ws now
  imply_touched h i = record {
    below = λ j p q r. la.touched.below j p q r ∙ (a.rest j (omega arith) ∙ o.below j (omega arith));
    above = λ j p. la.touched.above j p ∙ (a.rest j (omega arith) ∙ o.above j (omega arith));
  }

  -- the row tells how many others there are
  pub imply_count : reason_count n now (index_of l) ≡ count
  imply_count = ap nat_abs (la.reason 1 (omega arith) (omega arith) ∙ a.at)

  -- the literal is implied by the others
  pub imply_entry : entry_of n now l ≡ implied l others
  imply_entry =
      let r : words_from now (row_at n (index_of l) 2) count ≡ others =
      words_same w0 now (row_at n (index_of l) 2) (row_at n (index_of l) 2) count
      (λ k g.
      subst (λ j. word_at now j ≡ word_at w0 j) (sym (add_assoc (6 * n + index_of l * (n + 1)) 2 k))
      (la.reason (2 + k) (omega arith) (omega arith) ∙ a.rest (row_at n (index_of l) (2 + k)) (omega arith)))
      ∙ copied in
      rw (la.at_standing, imply_count) (ap (implied l) r)

-- the clause in hand as a part of the words in front of a row
pub clause_front : (m : Memory) (k a start : ℕ) (front : List ℤ) → a ≡ clause_at m.layout.variables 0 → clause_at m.layout.variables k ≤ start → start ≤ length m.words.now → front ≡ take start m.words.now
    → take (a + k - a) (drop a front) ≡ clause_in m k
clause_front m k a start front ea b c e =
    let n = m.layout.variables in
    let ws = m.words.now in
    let long = ap length e ∙ length-take-le start ws c in
    part_from front (clause_at n 0) k a (a + k - a) (omega arith) ea (omega arith)
    ∙ words_same ws front (clause_at n 0) (clause_at n 0) k (λ i h. ap (λ f. word_at f (clause_at n 0 + i)) e ∙ get_or-take start ws (clause_at n 0 + i) (pos 0) (omega arith))

pub clause_word : (m : Memory) (k at : ℕ) → at < k → get_or (clause_in m k) at (pos 0) ≡ word_at m.words.now (clause_at m.layout.variables at)
clause_word m k at h = get_or-map-range_with_len (word_at m.words.now) (clause_at m.layout.variables 0) k at (clause_at m.layout.variables at) (pos 0) h (omega arith)

-- the others of the literal of the number `at` there
pub others_front : (m : Memory) (k at a start : ℕ) (front : List ℤ) → SFits w32 (word_at m.words.now (clause_at m.layout.variables at)) → at < k → a ≡ clause_at m.layout.variables 0 → clause_at m.layout.variables k ≤ start
    → start ≤ length m.words.now → front ≡ take start m.words.now → others_of (to_z w32 (of_z w32 (get_or (take (a + k - a) (drop a front)) at (pos 0)))) (take (a + k - a) (drop a front))
    ≡ others_of (word_at m.words.now (clause_at m.layout.variables at)) (clause_in m k)
others_front m k at a start front fits h ea b c e =
    ap (λ C. others_of (to_z w32 (of_z w32 (get_or C at (pos 0)))) C) (clause_front m k a start front ea b c e)
    ∙ ap (λ l. others_of (to_z w32 (of_z w32 l)) (clause_in m k)) (clause_word m k at h)
    ∙ ap (λ l. others_of l (clause_in m k)) (to_z-of_z w32 (word_at m.words.now (clause_at m.layout.variables at)) fits)

-- a clause has fewer others than literals
pub others_fewer : (C : List ℤ) (at : ℕ) (l : ℤ) → at < length C → get_or C at (pos 0) ≡ l → length (others_of l C) < length C
others_fewer C at l h e =
    let one = room_left (λ k. same k l) C at h (eq_same (get_or C at (pos 0)) l e) in
    let both = length-filter_both (λ k. same k l) (λ k. not (same k l)) (λ _. refl) C in
    omega arith

pub clause_fewer : (m : Memory) (k at : ℕ) (l : ℤ) → at < k → word_at m.words.now (clause_at m.layout.variables at) ≡ l → length (others_of l (clause_in m k)) < k
clause_fewer m k at l h e =
    let long = length-map-range_with_len (word_at m.words.now) (clause_at m.layout.variables 0) k in
    let q = others_fewer (clause_in m k) at l (omega arith) (clause_word m k at h ∙ e) in
    omega arith

-- the others of a literal of the clause of k words in hand are the reason of the variable x, and the memory stands for what it stood for
pub record Held (m : Memory) (l : ℤ) (x k : ℕ) (now : List ℤ) : Type 0 where
  pub sound : Sound m.layout.variables m.layout.slots m.extent.assumptions m.extent.trail m.extent.slots now
  pub position : position_of m.layout.variables m.extent.assumptions m.extent.trail m.extent.slots now ≡ position_in m
  pub reason : reason_of m.layout.variables now x ≡ others_of l (clause_in m k)
  pub out : Outside (row_at m.layout.variables x 1) m.layout.variables m.words.now now
  pub long : length now ≡ length m.words.now

-- the reason of a free literal l of the clause of k words in hand is written: its others behind the words in front, and how many
module _ (m : Memory) (l : ℤ) (x k count start r : ℕ) (v : ℤ) (front room : List ℤ) (p : Placeable m.layout.variables (trail_in m) (implied l (others_of l (clause_in m k))))
    (is : x ≡ index_of l) (few : k ≤ m.layout.variables) (less : count < k) (many : count ≡ length (others_of l (clause_in m k)))
    (es : start ≡ row_at m.layout.variables x 2) (er : r ≡ row_at m.layout.variables x 1) (ev : v ≡ pos count)
    (ef : front ≡ take start m.words.now) (eb : room ≡ others_of l (clause_in m k) ++ drop count (drop start m.words.now)) where
  inside : index_of l < m.layout.variables
  inside = (index_range m.layout.variables l (free_parts m.layout.variables (trail_in m) l p.unassigned).0).1

  reason_start : start ≡ row_at m.layout.variables (index_of l) 2
  reason_start = es ∙ ap (λ y. row_at m.layout.variables y 2) is

  fits : start + count ≤ length m.words.now
  fits =
      let n = m.layout.variables in
      let e = reason_start in
      let i = inside in
      let b = row_below n m.layout.slots (index_of l) n (omega arith) (omega arith) in
      let big = m.sound.coherent.big in
      omega arith

  abbrev pub w0 : List ℤ
  w0 = front ++ room

  copied_out : Outside (row_at m.layout.variables (index_of l) 2) (m.layout.variables - 1) m.words.now w0
  copied_out =
      let e = reason_start in
      outside_wider start count (row_at m.layout.variables (index_of l) 2) (m.layout.variables - 1) m.words.now w0 (omega arith) (omega arith)
      (split_outside m.words.now front room (others_of l (clause_in m k)) start count fits (sym many) ef eb)

  copied_are : words_from w0 (row_at m.layout.variables (index_of l) 2) count ≡ others_of l (clause_in m k)
  copied_are = ap (λ b. words_from w0 b count) (sym reason_start) ∙ split_words m.words.now front room (others_of l (clause_in m k)) start count fits (sym many) ef eb

  same_long : length w0 ≡ length m.words.now
  same_long = split_long m.words.now front room (others_of l (clause_in m k)) start count fits (sym many) ef eb

  counted : Wrote (row_at m.layout.variables (index_of l) 1) (pos count) w0 (set w0 r v)
  counted =
      let n = m.layout.variables in
      let e : r ≡ row_at n (index_of l) 1 = er ∙ ap (λ y. row_at n y 1) is in
      let i = inside in
      let b = row_below n m.layout.slots (index_of l) 1 (omega arith) (omega arith) in
      let big = m.sound.coherent.big in
      let same = same_long in
      subst (λ j. Wrote j (pos count) w0 (set w0 r v)) e (subst (λ y. Wrote r y w0 (set w0 r v)) ev (wrote w0 r v (omega arith)))

  pub held : Held m l x k (set w0 r v)
  held =
      let n = m.layout.variables in
      let L = m.layout.slots in
      let e = m.extent in
      let others = others_of l (clause_in m k) in
      let few' : count + 1 ≤ n = omega arith in
      let i = reason_is n L e.assumptions e.trail e.slots count l others m.words.now w0 (set w0 r v) m.sound p.unassigned few' copied_out copied_are counted in
      let f = reason_frame n L e.assumptions e.trail e.slots count l others m.words.now w0 (set w0 r v) m.sound p.unassigned few' copied_out copied_are counted in
      let long = length-set w0 r v ∙ same_long in
      record {
        sound = reason_sound n L e.assumptions e.trail e.slots count l others m.words.now w0 (set w0 r v) m.sound p.unassigned few' copied_out copied_are counted long;
        position = reason_position n L e.assumptions e.trail e.slots count l others m.words.now w0 (set w0 r v) m.sound p.unassigned few' copied_out copied_are counted;
        reason = ap (reason_of n (set w0 r v)) is ∙ i;
        out = subst (λ y. Outside (row_at n y 1) n m.words.now (set w0 r v)) (sym is) f;
        long = long;
      }
