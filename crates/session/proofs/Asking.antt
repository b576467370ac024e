-- What the words are after the source was questioned on a part of them.
use Rattle.std.proofs.Common.{◌≡◌, ℕ, zero, suc, ◌+◌, ◌-◌, ◌*◌, ◌<◌, ◌≤◌, true, false, eqb, List, [], ◌∷◌, ◌++◌, map, length, get_or, take, drop, ℤ, pos, neg_ℤ, All, Option, sym, refl, ap, ◌∙◌, subst, inl, inr, arith, length-append, length-drop, length-take-le, get_or-drop, get_or-take, take-take, get_or-append-add}
use Rattle.std.proofs.lemmas.List.Elements.{All-head, All-tail}
use borrow.Rule.Slice.PartMut.{put_mid, mid_of, post_of, put_same}
use lib.ListN.{get_or-append}
use Rattle.std.proofs.lemmas.Slice.{drop-put_mid}
use Rattle.std.proofs.lemmas.Bool.{cases_Bool, cases_lt, both_ways, or_parts, or_from, eq-eqb}
use Rattle.rules.specs.Literals.{var, same, in_range, names, Once}
use Rattle.rules.specs.Sources.{Answer, Answer.silent, Answer.tells, Meaning, LawfulAt, laid, page_after}
use Rattle.rules.specs.Telling.{told_of}
use Rattle.rules.proofs.Pages.{laid_length}
use Rattle.rules.proofs.Literals.{same_true, var_neg}
use Rattle.theory.specs.Trail.{Entry.decided, on, WellFormed, valuation}
use Rattle.theory.proofs.Trails.{parts_free}
use Rattle.theory.proofs.Pigeonhole.{length_most}
use Rattle.theory.proofs.Valuations.{valuation_valid}
use Rattle.session.specs.Words.{word_at, clause_at, Outside}
use Rattle.session.specs.Decode.{trail_of, Coherent, clause_of}
use Rattle.session.proofs.Words.{all_words, outside_none}
use Rattle.session.specs.InHand.{answer_in_hand}
use Rattle.session.specs.Finding.{TakenWhole}
use Rattle.session.proofs.Reading.{part_long, part_word, words_are, values_are}

-- A CLAUSE OF DIFFERENT VARIABLES IS SHORT: it could stand on a trail

on_names : (C : List ℤ) (l : ℤ) → names C (var l) ≡ false → on (map decided C) l ≡ false
on_names [] l h = refl
on_names (x ∷ C) l h =
    let p = or_parts (eqb (var l) (var x)) (names C (var l)) h in
    let apart : same l x ≡ false = elim (cases_Bool (same l x)) [ inl e ↦ absurd (both_ways (eqb (var l) (var x)) p.0 (eq-eqb (var l) (var x) (ap var (same_true l x e)))) | inr e ↦ e ] in
    or_from (same l x) (on (map decided C) l) apart (on_names C l p.1)

once_formed : (n : ℕ) (C : List ℤ) → All (λ l. in_range n l ≡ true) C → Once C → WellFormed n (map decided C)
once_formed n [] r o = tt
once_formed n (l ∷ C) r o = (
  record {
    unassigned = parts_free n (map decided C) l (All-head (λ k. in_range n k ≡ true) l C r) (on_names C l o.0) (on_names C (neg_ℤ l) (subst (λ v. names C v ≡ false) (sym (var_neg l)) o.0));
    grounded = tt;
  },
  once_formed n C (All-tail (λ k. in_range n k ≡ true) l C r) o.1,
)

once_short : (n : ℕ) (C : List ℤ) → All (λ l. in_range n l ≡ true) C → Once C → length C ≤ n
once_short n C r o = let b = length_most n (map decided C) (once_formed n C r o) in let e = same_long C in omega arith
  where
    same_long : (ls : List ℤ) → length (map decided ls) ≡ length ls
    same_long [] = refl
    same_long (l ∷ ls) = ap suc (same_long ls)

-- A PART OF THE WORDS IS WRITTEN

laid_word : (C room : List ℤ) (i : ℕ) → i < length C → length C ≤ length room → get_or (laid C room) i (pos 0) ≡ get_or C i (pos 0)
laid_word [] room i h k = absurd (omega arith)
laid_word (l ∷ C) [] i h k = absurd (omega arith)
laid_word (l ∷ C) (w ∷ room) zero h k = refl
laid_word (l ∷ C) (w ∷ room) (suc i) h k = laid_word C room i (omega arith) (omega arith)

module _ (a k : ℕ) (ws part : List ℤ) (within : a + k ≤ length ws) (long : length part ≡ k) where
  put_before : (j : ℕ) → j < a → word_at (put_mid a k ws part) j ≡ word_at ws j
  put_before j h = let e = length-take-le a ws (omega arith) in get_or-append (take a ws) (part ++ post_of a k ws) (pos 0) j (omega arith) ∙ get_or-take a ws j (pos 0) h

  put_inside : (j : ℕ) → j < k → word_at (put_mid a k ws part) (a + j) ≡ get_or part j (pos 0)
  put_inside j h =
      let e = length-take-le a ws (omega arith) in
      ap (λ z. word_at (put_mid a k ws part) (z + j)) (sym e) ∙ get_or-append-add (take a ws) (part ++ post_of a k ws) j (pos 0) ∙ get_or-append part (post_of a k ws) (pos 0) j (omega arith)

  put_behind : (j : ℕ) → a + k ≤ j → word_at (put_mid a k ws part) j ≡ word_at ws j
  put_behind j h =
      let e : j ≡ j + 0 = omega arith in
      ap (word_at (put_mid a k ws part)) e ∙ sym (get_or-drop j (put_mid a k ws part) 0 (pos 0)) ∙ ap (λ l. get_or l 0 (pos 0)) (drop-put_mid a k ws part j h (omega arith) long)
      ∙ get_or-drop j ws 0 (pos 0) ∙ ap (word_at ws) (sym e)

-- what is known once the source was questioned
pub record Asked (n : ℕ) (answer : Answer) (was now : List ℤ) (r : Option ℕ) : Type 0 where
  pub told : answer_in_hand n now r ≡ answer
  pub whole : TakenWhole n now r
  pub outside : Outside (4 * n) n was now

module _ (n L len : ℕ) (ws : List ℤ) (st : Coherent n L len ws) (m : Meaning) (law : LawfulAt n m) (k : ℕ) (twice : k ≡ 2 * n) where
  abbrev row : List ℤ
  row = valuation n (trail_of n len ws)

  abbrev page : List ℤ
  page = mid_of (3 * n) k ws

  room : 3 * n + k ≤ length ws
  room = let q = st.big in omega arith

  after_silence : m.answer row ≡ silent → Asked n (m.answer row) ws (put_mid (3 * n) k ws page) (told_of silent)
  after_silence e = record {
    told = sym e;
    whole = tt;
    outside = subst (Outside (4 * n) n ws) (sym (put_same (3 * n) k ws)) (outside_none (4 * n) n ws);
  }

  after_clause : (C : List ℤ) → m.answer row ≡ tells C → Asked n (m.answer row) ws (put_mid (3 * n) k ws (page_after n (tells C) page)) (told_of (tells C))
  after_clause C e =
      let known = law.told row (valuation_valid n (trail_of n len ws)) C e in
      let short = once_short n C known.ranged known.once in
      let page-long = part_long ws (3 * n) k room in
      let front_long : length (take n page) ≡ n = length-take-le n page (omega arith) in
      let room-long : length (drop n page) ≡ n = length-drop n page ∙ (omega arith) in
      let behind = laid C (drop n page) in
      let behind-long = laid_length C (drop n page) in
      let written = take n page ++ behind in
      let both = length-append (take n page) behind in
      let long : length written ≡ k = omega arith in
      let now = put_mid (3 * n) k ws written in
      let same : (j : ℕ) → j < n → word_at now (3 * n + j) ≡ word_at ws (3 * n + j) = λ j h.
      put_inside (3 * n) k ws written room long j (omega arith) ∙ get_or-append (take n page) behind (pos 0) j (omega arith) ∙ get_or-take n page j (pos 0) h ∙ part_word ws (3 * n) k j (omega arith) in
      let literal : (i : ℕ) → i < length C → word_at now (clause_at n 0 + i) ≡ get_or C i (pos 0) = λ i h.
      let at : clause_at n 0 + i ≡ 3 * n + (n + i) = omega arith in
      ap (word_at now) at ∙ put_inside (3 * n) k ws written room long (n + i) (omega arith) ∙ ap (λ z. get_or written (z + i) (pos 0)) (sym front_long)
      ∙ get_or-append-add (take n page) behind i (pos 0) ∙ laid_word C (drop n page) i h (omega arith) in
      let clause : clause_of n (length C) now ≡ C = words_are now (clause_at n 0) (length C) C refl literal in
      record {
        told = ap tells clause ∙ sym e;
        whole = (short, all_words (λ l. in_range n l ≡ true) now (clause_at n 0) (length C) (subst (All (λ l. in_range n l ≡ true)) (sym clause) known.ranged));
        outside = record {
          below = λ j h. elim (cases_lt j (3 * n)) [
            | inl b ↦ put_before (3 * n) k ws written room long j b
            | inr b ↦ let at : 3 * n + (j - 3 * n) ≡ j = omega arith in subst (λ z. word_at now z ≡ word_at ws z) at (same (j - 3 * n) (omega arith))
          ];
          above = λ j h. put_behind (3 * n) k ws written room long j (omega arith);
        };
      }

  after_answer : (a : Answer) → m.answer row ≡ a → Asked n (m.answer row) ws (put_mid (3 * n) k ws (page_after n a page)) (told_of a)
  after_answer silent e = after_silence e
  after_answer (tells C) e = after_clause C e

  pub asked : m.count ≡ n → (r : Option ℕ) (written : List ℤ) → r ≡ told_of (m.answer (take m.count page)) → written ≡ page_after m.count (m.answer (take m.count page)) page
      → Asked n (m.answer row) ws (put_mid (3 * n) k ws written) r
  asked e r written t w =
      let v : take m.count page ≡ row = ap (λ j. take j page) e ∙ take-take n k (drop (3 * n) ws) (omega arith) ∙ values_are n L len ws st n refl in
      let t' : r ≡ told_of (m.answer row) = t ∙ ap (λ x. told_of (m.answer x)) v in
      let w' : written ≡ page_after n (m.answer row) page = w ∙ ap (λ j. page_after j (m.answer (take m.count page)) page) e ∙ ap (λ x. page_after n (m.answer x) page) v in
      subst (λ x. Asked n (m.answer row) ws (put_mid (3 * n) k ws written) x) (sym t')
      (subst (λ x. Asked n (m.answer row) ws (put_mid (3 * n) k ws x) (told_of (m.answer row))) (sym w') (after_answer (m.answer row) refl))
