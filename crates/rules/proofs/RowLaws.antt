-- Laws of rows of words.
use Rattle.std.proofs.Common.{◌≡◌, ℕ, zero, suc, ◌+◌, ◌-◌, ◌<◌, ◌≤◌, Bool, true, false, not, List, [], ◌∷◌, ◌++◌, length, get_or, take, drop, replicate, ℤ, pos, negsuc, sym, refl, ap, ◌∙◌, subst, inl, inr, arith, min, take_all, w32, SFits, to_z, of_z}
use Rattle.std.specs.List.{list_all, IsFirstMatchOrLen}
use Rattle.std.proofs.lemmas.List.{append_assoc, length-drop, take-append-drop, take-append-le, take_more, drop_at, drop_more, drop-drop, get_or-drop}
use Rattle.std.proofs.lemmas.Int.{to_z-of_z}
use Rattle.std.proofs.lemmas.List.Elements.{All-drop, All-replicate, All-weaker}
use Rattle.std.proofs.lemmas.List.Folds.{list_all-append}
use Rattle.std.proofs.lemmas.List.Sums.{AllPass-from_list_all, list_all-from_AllPass}
use Rattle.std.proofs.lemmas.Bool.{cases_Bool, cases_lt, both_ways, and_parts, and_from, eqb-true, ne_eqb, not-true, not_from_false, cond-true, cond-false}
use Rattle.rules.specs.Literals.{var, in_range}
use Rattle.rules.specs.Rows.{is_zero, in_front, rows, ended, words_of, spelled}
use Rattle.rules.proofs.Literals.{range_bounds}

-- ROWS

-- whether none of the words is 0
abbrev pub none_zero : List ℤ → Bool
none_zero ws = list_all (λ w. not (is_zero w)) ws

pub zero_word : (w : ℤ) → is_zero w ≡ true → w ≡ pos 0
zero_word (pos k) h = ap pos (eqb-true k 0 h)
zero_word (negsuc k) h = let e = eqb-true (suc k) 0 h in absurd (omega arith)

-- a word whose bits are 0 is 0
pub zero_bits : (w : ℤ) → SFits w32 w → of_z w32 w ≡ 0 → is_zero w ≡ true
zero_bits w f e = subst (λ z. is_zero z ≡ true) (ap (to_z w32) (sym e) ∙ to_z-of_z w32 w f) refl

-- a word with other bits is not 0
pub other_bits : (w : ℤ) → (of_z w32 w ≡ 0 → ⊥) → is_zero w ≡ false
other_bits w h = elim (cases_Bool (is_zero w)) [ inl z ↦ absurd (h (ap (of_z w32) (zero_word w z))) | inr z ↦ z ]

pub pass_append : {A : Type 0} (p : A → Bool) (xs ys : List A) → list_all p xs ≡ true → list_all p ys ≡ true → list_all p (xs ++ ys) ≡ true
pass_append p xs ys h k = list_all-append p xs ys ∙ and_from (list_all p xs) (list_all p ys) h k

pub pass_weaker : {A : Type 0} (p q : A → Bool) → ((x : A) → p x ≡ true → q x ≡ true) → (xs : List A) → list_all p xs ≡ true → list_all q xs ≡ true
pass_weaker p q follows xs h = list_all-from_AllPass q xs (All-weaker (λ x. p x ≡ true) (λ x. q x ≡ true) follows xs (AllPass-from_list_all p xs h))

pub pass_push : {A : Type 0} (p : A → Bool) (xs : List A) (x : A) → list_all p xs ≡ true → p x ≡ true → list_all p (xs ++ (x ∷ [])) ≡ true
pass_push p xs x h e = pass_append p xs (x ∷ []) h (and_from (p x) true e refl)

ranged_word : (n : ℕ) (l : ℤ) → in_range n l ≡ true → not (is_zero l) ≡ true
ranged_word n l h = let b = range_bounds n l h in not_from_false (is_zero l) (ne_eqb (var l) 0 (λ e. omega arith))

-- literals in range are not 0
pub ranged_words : (n : ℕ) (ls : List ℤ) → list_all (in_range n) ls ≡ true → none_zero ls ≡ true
ranged_words n = pass_weaker (in_range n) (λ l. not (is_zero l)) (ranged_word n)

-- words that are not 0, and then a 0, are a row
pub rows_row : (row : List ℤ) (w : ℤ) (ws : List ℤ) → none_zero row ≡ true → is_zero w ≡ true → rows (row ++ (w ∷ ws)) ≡ row ∷ rows ws
rows_row [] w ws h z = cond-true (is_zero w) ([] ∷ rows ws) (in_front w (rows ws)) z
rows_row (v ∷ row) w ws h z =
    let q = and_parts (not (is_zero v)) (none_zero row) h in
    cond-false (is_zero v) ([] ∷ rows (row ++ (w ∷ ws))) (in_front v (rows (row ++ (w ∷ ws)))) (not-true (is_zero v) q.0)
    ∙ ap (in_front v) (rows_row row w ws q.1 z)

pub ended_row : (row : List ℤ) (w : ℤ) → is_zero w ≡ true → ended (row ++ (w ∷ [])) ≡ true
ended_row [] w z = z
ended_row (v ∷ []) w z = z
ended_row (v ∷ u ∷ row) w z = ended_row (u ∷ row) w z

pub ended_append : (xs ys : List ℤ) → ended xs ≡ true → ended ys ≡ true → ended (xs ++ ys) ≡ true
ended_append [] ys h k = k
ended_append (w ∷ []) [] h k = h
ended_append (w ∷ []) (y ∷ ys) h k = k
ended_append (w ∷ v ∷ xs) ys h k = ended_append (v ∷ xs) ys h k

-- where words have ended there is a first row
some_row : (w : ℤ) (ws : List ℤ) → ended (w ∷ ws) ≡ true → (row : List ℤ) × (rest : List (List ℤ)) × (rows (w ∷ ws) ≡ row ∷ rest)
some_row w [] h = ([], [], cond-true (is_zero w) ([] ∷ []) [] h)
some_row w (v ∷ ws) h =
    let r = some_row v ws h in
    elim (cases_Bool (is_zero w)) [
      | inl z ↦ ([], rows (v ∷ ws), cond-true (is_zero w) ([] ∷ rows (v ∷ ws)) (in_front w (rows (v ∷ ws))) z)
      | inr z ↦ (w ∷ r.0, r.1, cond-false (is_zero w) ([] ∷ rows (v ∷ ws)) (in_front w (rows (v ∷ ws))) z ∙ ap (in_front w) r.2)
    ]

pub rows_append : (xs ys : List ℤ) → ended xs ≡ true → rows (xs ++ ys) ≡ rows xs ++ rows ys
rows_append [] ys h = refl
rows_append (w ∷ []) ys h = cond-true (is_zero w) ([] ∷ rows ys) (in_front w (rows ys)) h ∙ sym (ap (λ k. k ++ rows ys) (cond-true (is_zero w) ([] ∷ []) [] h))
rows_append (w ∷ v ∷ xs) ys h =
    let i = rows_append (v ∷ xs) ys h in
    let s = some_row v xs h in
    elim (cases_Bool (is_zero w)) [
      | inl z ↦ rw z (ap (λ k. [] ∷ k) i)
      | inr z ↦ rw z (ap (in_front w) (i ∙ ap (λ k. k ++ rows ys) s.2) ∙ sym (ap (λ k. in_front w k ++ rows ys) s.2))
    ]

pub rows_words : (ws : List ℤ) → ended ws ≡ true → words_of (rows ws) ≡ length ws
rows_words [] h = refl
rows_words (w ∷ []) h = ap words_of (cond-true (is_zero w) ([] ∷ []) [] h)
rows_words (w ∷ v ∷ ws) h =
    let i = rows_words (v ∷ ws) h in
    let s = some_row v ws h in
    elim (cases_Bool (is_zero w)) [
      | inl z ↦ ap words_of (cond-true (is_zero w) ([] ∷ rows (v ∷ ws)) (in_front w (rows (v ∷ ws))) z) ∙ (omega arith)
      | inr z ↦
          let e = ap words_of s.2 in
          ap words_of (cond-false (is_zero w) ([] ∷ rows (v ∷ ws)) (in_front w (rows (v ∷ ws))) z ∙ ap (in_front w) s.2) ∙ (omega arith)
    ]

pub rows_spelled : (ws : List ℤ) → ended ws ≡ true → spelled (rows ws) ≡ ws
rows_spelled [] h = refl
rows_spelled (w ∷ []) h = ap spelled (cond-true (is_zero w) ([] ∷ []) [] h) ∙ ap (λ k. k ∷ []) (sym (zero_word w h))
rows_spelled (w ∷ v ∷ ws) h =
    let i = rows_spelled (v ∷ ws) h in
    let s = some_row v ws h in
    elim (cases_Bool (is_zero w)) [
      | inl z ↦
          ap spelled (cond-true (is_zero w) ([] ∷ rows (v ∷ ws)) (in_front w (rows (v ∷ ws))) z)
          ∙ ap (λ k. pos 0 ∷ k) i ∙ ap (λ k. k ∷ v ∷ ws) (sym (zero_word w z))
      | inr z ↦
          ap spelled (cond-false (is_zero w) ([] ∷ rows (v ∷ ws)) (in_front w (rows (v ∷ ws))) z ∙ ap (in_front w) s.2)
          ∙ ap (λ k. w ∷ k) (ap spelled (sym s.2) ∙ i)
    ]

-- ZEROS

pub zeros_are : (ws : List ℤ) → list_all is_zero ws ≡ true → ws ≡ replicate (length ws) (pos 0)
zeros_are [] h = refl
zeros_are (w ∷ ws) h = let q = and_parts (is_zero w) (list_all is_zero ws) h in let a = zero_word w q.0 in let b = zeros_are ws q.1 in cc

pub zeros_pass : (n : ℕ) → list_all is_zero (replicate n (pos 0)) ≡ true
zeros_pass n = list_all-from_AllPass is_zero (replicate n (pos 0)) (All-replicate (λ w. is_zero w ≡ true) n (pos 0) refl)

pub zero_at : (ws : List ℤ) (i : ℕ) → list_all is_zero ws ≡ true → is_zero (get_or ws i (pos 0)) ≡ true
zero_at [] i h = refl
zero_at (w ∷ ws) zero h = (and_parts (is_zero w) (list_all is_zero ws) h).0
zero_at (w ∷ ws) (suc i) h = zero_at ws i (and_parts (is_zero w) (list_all is_zero ws) h).1

pub zeros_after : (a b : ℕ) (ws : List ℤ) → a ≤ b → list_all is_zero (drop a ws) ≡ true → list_all is_zero (drop b ws) ≡ true
zeros_after a b ws h z =
    let e : a + (b - a) ≡ b = omega arith in
    subst (λ k. list_all is_zero (drop k ws) ≡ true) e (subst (λ k. list_all is_zero k ≡ true) (drop-drop (b - a) a ws)
    (list_all-from_AllPass is_zero (drop (b - a) (drop a ws)) (All-drop (λ w. is_zero w ≡ true) (b - a) (drop a ws) (AllPass-from_list_all is_zero (drop a ws) z))))

-- READING ROWS

ended_suffix : (row ws : List ℤ) → ended (row ++ ws) ≡ true → ended ws ≡ true
ended_suffix [] ws h = h
ended_suffix (v ∷ []) [] h = refl
ended_suffix (v ∷ []) (w ∷ ws) h = h
ended_suffix (v ∷ u ∷ row) ws h = ended_suffix (u ∷ row) ws h

not_ended : (w : ℤ) (ws : List ℤ) → none_zero (w ∷ ws) ≡ true → ended (w ∷ ws) ≡ true → ⊥
not_ended w [] n e = both_ways (is_zero w) (not-true (is_zero w) (and_parts (not (is_zero w)) true n).0) e
not_ended w (v ∷ ws) n e = not_ended v ws (and_parts (not (is_zero w)) (none_zero (v ∷ ws)) n).1 e

-- words that have ended are not all other than 0
pub before_end : (k : ℕ) (ws : List ℤ) → 0 < length ws → ended ws ≡ true → none_zero (take k ws) ≡ true → k < length ws
before_end k [] h e n = absurd (omega arith)
before_end k (w ∷ ws) h e n = elim (cases_lt k (length (w ∷ ws)))
    [ inl l ↦ l | inr l ↦ absurd (not_ended w ws (subst (λ r. none_zero r ≡ true) (take_all k (w ∷ ws) l) n) e) ]

-- the words of a part from s to p, and one more
pub part_push : (ws : List ℤ) (s p : ℕ) → s ≤ p → p < length ws
    → take (p + 1 - s) (drop s ws) ≡ take (p - s) (drop s ws) ++ (get_or ws p (pos 0) ∷ [])
part_push ws s p a b =
    let e : p + 1 - s ≡ p - s + 1 = omega arith in
    let i : s + (p - s) ≡ p = omega arith in
    ap (λ k. take k (drop s ws)) e ∙ take_more (drop s ws) (p - s) (pos 0) (omega (arith, length-drop s ws))
    ∙ ap (λ w. take (p - s) (drop s ws) ++ (w ∷ [])) (get_or-drop s ws (p - s) (pos 0) ∙ ap (λ k. get_or ws k (pos 0)) i)

-- where a part of words other than 0 is followed by a 0, it is the first row, and what follows has ended too
pub part_row : (ws : List ℤ) (s p : ℕ) → s ≤ p → p < length ws → none_zero (take (p - s) (drop s ws)) ≡ true → is_zero (get_or ws p (pos 0)) ≡ true
    → (rows (drop s ws) ≡ take (p - s) (drop s ws) ∷ rows (drop (p + 1) ws)) × (ended (drop s ws) ≡ true → ended (drop (p + 1) ws) ≡ true)
part_row ws s p a b n z =
    let row = take (p - s) (drop s ws) in
    let w = get_or ws p (pos 0) in
    let i : s + (p - s) ≡ p = omega arith in
    let split : drop s ws ≡ row ++ (w ∷ drop (p + 1) ws) =
    sym (take-append-drop (p - s) (drop s ws)) ∙ ap (λ k. row ++ k) (drop-drop (p - s) s ws ∙ ap (λ k. drop k ws) i ∙ drop_more ws p (pos 0) b) in (
      ap rows split ∙ rows_row row w (drop (p + 1) ws) n z,
      λ e. ended_suffix (row ++ (w ∷ [])) (drop (p + 1) ws) (subst (λ k. ended k ≡ true) (split ∙ sym (append_assoc row (w ∷ []) (drop (p + 1) ws))) e),
    )

-- where i is the place of the first 0, the words before it are the first row
row_before : (ws : List ℤ) (i : ℕ) → ((k : ℕ) → k < i → is_zero (get_or ws k (pos 0)) ≡ false) → (i < length ws → is_zero (get_or ws i (pos 0)) ≡ true) → 0 < length ws → ended ws ≡ true
    → (i < length ws) × (rows ws ≡ take i ws ∷ rows (drop (suc i) ws)) × (ended (drop (suc i) ws) ≡ true)
row_before [] i f z h e = absurd (omega arith)
row_before (w ∷ ws) zero f z h e = (h, cond-true (is_zero w) ([] ∷ rows ws) (in_front w (rows ws)) (z h), ended_suffix (w ∷ []) ws e)
row_before (w ∷ []) (suc i) f z h e = absurd (both_ways (is_zero w) (f 0 (omega arith)) e)
row_before (w ∷ v ∷ ws) (suc i) f z h e =
    let r = row_before (v ∷ ws) i (λ k l. f (suc k) (omega arith)) (λ l. z (omega arith)) (omega arith) e in (
      omega (arith, r.0),
      cond-false (is_zero w) ([] ∷ rows (v ∷ ws)) (in_front w (rows (v ∷ ws))) (f 0 (omega arith)) ∙ ap (in_front w) r.1,
      r.2,
    )

-- the first of several words that have ended, up to and with the first 0, without that 0 are the first row
pub first_row : (ws row rest : List ℤ) (i : ℕ) → ws ≡ row ++ rest → length row ≡ min (i + 1) (length ws) → IsFirstMatchOrLen is_zero ws i → 0 < length ws → ended ws ≡ true
    → (rows ws ≡ take (length row - 1) row ∷ rows rest) × (ended rest ≡ true)
first_row ws row rest i e l f h d =
    let r = row_before ws i (λ k j. f.0 k (pos 0) (omega arith) j) (λ j. f.1 j (pos 0)) h d in
    let long : length row ≡ suc i = omega (arith, r.0) in
    let one : i ≡ length row - 1 = omega arith in
    let front : take i ws ≡ take (length row - 1) row = ap (take i) e ∙ take-append-le i row rest (omega arith) ∙ ap (λ k. take k row) one in
    let behind : drop (suc i) ws ≡ rest = ap (drop (suc i)) e ∙ drop_at row rest (suc i) long in
    (r.1 ∙ ap (λ k. k ∷ rows (drop (suc i) ws)) front ∙ ap (λ k. take (length row - 1) row ∷ rows k) behind, subst (λ k. ended k ≡ true) behind r.2)
