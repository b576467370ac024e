-- What is read of the words: parts of them as lists, and the values as a valuation.
use Rattle.std.proofs.Common.{◌≡◌, ℕ, suc, ◌+◌, ◌*◌, ◌<◌, ◌≤◌, ◌++◌, List, length, get_or, take, drop, ℤ, pos, sym, ap, ◌∙◌, subst, arith, length-drop, length-take-le, get_or-drop, get_or-take}
use Rattle.std.proofs.lemmas.List.FromFn.{length-map-range_with_len, get_or-map-range_with_len}
use Rattle.std.proofs.lemmas.List.{ext_get_or}
use borrow.Rule.Slice.PartMut.{put_mid, same_len_mid}
use Rattle.theory.specs.Trail.{word, valuation}
use Rattle.session.specs.Words.{word_at, words_from, Outside}
use Rattle.session.specs.Decode.{trail_of, Coherent}
use Rattle.session.proofs.Words.{part_word_put, part_outside}

pub part_long : (ws : List ℤ) (base k : ℕ) → base + k ≤ length ws → length (take k (drop base ws)) ≡ k
part_long ws base k h = let e = length-drop base ws in length-take-le k (drop base ws) (omega arith)

pub part_word : (ws : List ℤ) (base k i : ℕ) → i < k → get_or (take k (drop base ws)) i (pos 0) ≡ word_at ws (base + i)
part_word ws base k i h = get_or-take k (drop base ws) i (pos 0) h ∙ get_or-drop base ws i (pos 0)

-- a list that the words have from an address on
pub words_are : (ws : List ℤ) (base k : ℕ) (C : List ℤ) → length C ≡ k → ((i : ℕ) → i < k → word_at ws (base + i) ≡ get_or C i (pos 0)) → words_from ws base k ≡ C
words_are ws base k C e h =
    let l = length-map-range_with_len (word_at ws) base k in
    ext_get_or (pos 0) (words_from ws base k) C (l ∙ sym e)
    (λ i b. let c : i < k = omega arith in get_or-map-range_with_len (word_at ws) base k i (base + i) (pos 0) c (omega arith) ∙ h i c)

pub part_is : (ws : List ℤ) (base k : ℕ) → base + k ≤ length ws → words_from ws base k ≡ take k (drop base ws)
part_is ws base k h = words_are ws base k (take k (drop base ws)) (part_long ws base k h) (λ i b. sym (part_word ws base k i b))

pub part_from : (ws : List ℤ) (base k from many : ℕ) → base + k ≤ length ws → from ≡ base → many ≡ k → take many (drop from ws) ≡ words_from ws base k
part_from ws base k from many h a b = rw (a, b) (sym (part_is ws base k h))

-- what is left where the words are split, and some are written to the front of the second part
module _ (ws front room xs : List ℤ) (start count : ℕ) (within : start + count ≤ length ws) (many : length xs ≡ count) (ef : front ≡ take start ws) (er : room ≡ xs ++ drop count (drop start ws)) where
  joined : front ++ room ≡ put_mid start count ws xs
  joined = ap (λ f. f ++ room) ef ∙ ap (λ r. take start ws ++ r) er

  pub split_outside : Outside start count ws (front ++ room)
  split_outside = subst (Outside start count ws) (sym joined) (part_outside ws xs start count within many)

  pub split_words : words_from (front ++ room) start count ≡ xs
  split_words = words_are (front ++ room) start count xs many (λ i h. ap (λ w. word_at w (start + i)) joined ∙ part_word_put ws xs start count within many i h)

  pub split_long : length (front ++ room) ≡ length ws
  split_long = ap length joined ∙ same_len_mid start count ws xs (many ∙ sym (part_long ws start count within))

-- the values are the trail's valuation
pub values_are : (n L len : ℕ) (ws : List ℤ) → Coherent n L len ws → (k : ℕ) → k ≡ n → take k (drop (3 * n) ws) ≡ valuation n (trail_of n len ws)
values_are n L len ws st k e =
    let t = trail_of n len ws in
    let q = st.big in
    let l = part_long ws (3 * n) k (omega arith) in
    ext_get_or (pos 0) (take k (drop (3 * n) ws)) (valuation n t) (l ∙ e ∙ sym (length-map-range_with_len (word t) 1 n))
    (λ i b.
    let c : i < n = omega arith in
    part_word ws (3 * n) k i (omega arith) ∙ st.values i c ∙ sym (get_or-map-range_with_len (word t) 1 n i (suc i) (pos 0) c (omega arith)))
