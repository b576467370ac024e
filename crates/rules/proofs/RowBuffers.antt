-- Laws of rows of words while they are filled.
use Rattle.std.proofs.Common.{◌≡◌, ℕ, ◌+◌, ◌-◌, ◌<◌, ◌≤◌, true, List, [], ◌∷◌, ◌++◌, length, get_or, take, drop, set, replicate, ℤ, pos, sym, refl, ltb, Some, None, Option, ap, ◌∙◌, subst, arith, length-take-le, take-add}
use borrow.Rule.Slice.PartMut.{put_mid}
use Rattle.std.specs.List.{list_all}
use Rattle.std.proofs.lemmas.Bool.{cond_both}
use Rattle.std.proofs.lemmas.List.{append_assoc, drop_at, length-drop, take-append-drop, take_more, take_more_set, drop-set-add, drop-drop, get_or-drop}
use Rattle.rules.specs.Rows.{is_zero, rows, ended, words_of, spelled}
use Rattle.rules.specs.RowBuffers.{Content, content, free, writing, noted, pushed, joined, all_words}
use Rattle.rules.specs.declared.refusal.Refusal.{Refusal}
use Rattle.rules.specs.declared.refusal.Refusal.TheVariants.{NoRoom}
use Rattle.rules.specs.declared.row_buffer.RowBuffer.{RowBuffer}
use Rattle.rules.proofs.RowLaws.{pass_append, ended_row, ended_append, rows_row, rows_append, rows_words, rows_spelled, zeros_are, zeros_pass, zero_at, zeros_after}

-- ZEROS WRITTEN

pub filled_zeros : (n : ℕ) (ws : List ℤ) → ws ≡ replicate n (pos 0) → list_all is_zero ws ≡ true
filled_zeros n ws e = subst (λ k. list_all is_zero k ≡ true) (sym e) (zeros_pass n)

-- zeros over a part, where zeros follow it
pub zeros_over : (used len here k : ℕ) (ws zs : List ℤ) → used ≤ length ws → here ≡ used → k ≡ len → list_all is_zero zs ≡ true → list_all is_zero (drop (used + len) ws) ≡ true
    → list_all is_zero (drop here (put_mid used k ws zs)) ≡ true
zeros_over used len here k ws zs h eh ek z r =
    let rest = drop k (drop used ws) in
    let long : here ≡ length (take used ws) = omega (arith, length-take-le used ws h) in
    let after : rest ≡ drop (used + len) ws = drop-drop k used ws ∙ ap (λ j. drop (used + j) ws) ek in
    ap (list_all is_zero) (drop_at (take used ws) (zs ++ rest) here (sym long)) ∙ pass_append is_zero zs rest z (ap (list_all is_zero) after ∙ r)

-- ROWS

-- one word more behind the row that is being written
pub draft_pushed : (used len : ℕ) (ws : List ℤ) (x : ℤ) → used + len < length ws → take (len + 1) (drop used (set ws (used + len) x)) ≡ take len (drop used ws) ++ (x ∷ [])
draft_pushed used len ws x h = ap (take (len + 1)) (drop-set-add used ws len x) ∙ take_more_set (drop used ws) len x (omega (arith, length-drop used ws))

module _ (b : RowBuffer) where
  abbrev ws : List ℤ
  ws = b.words.now

  standing_words : words_of (content b).standing ≡ b.used
  standing_words = rows_words (take b.used ws) b.ends ∙ length-take-le b.used ws (omega (arith, b.within))

  -- where the row that is being written ends
  pub draft_end : words_of (content b).standing + length (content b).draft ≡ b.used + b.len
  draft_end = omega (arith, standing_words, length-take-le b.len (drop b.used ws), length-drop b.used ws, b.within)

  -- the words, by what they hold
  pub words_spelled : ws ≡ all_words (content b)
  words_spelled =
      let rest : drop (b.used + b.len) ws ≡ replicate (length ws - (b.used + b.len)) (pos 0) =
      zeros_are (drop (b.used + b.len) ws) b.zeros ∙ ap (λ k. replicate k (pos 0)) (length-drop (b.used + b.len) ws) in
      sym (take-append-drop b.used ws)
      ∙ ap (λ k. k ++ drop b.used ws) (sym (rows_spelled (take b.used ws) b.ends))
      ∙ ap (λ k. spelled (content b).standing ++ k) (sym (take-append-drop b.len (drop b.used ws)) ∙ ap (λ k. (content b).draft ++ k) (drop-drop b.len b.used ws ∙ rest))
      ∙ ap (λ k. spelled (content b).standing ++ ((content b).draft ++ replicate (length ws - k) (pos 0))) (sym draft_end)

  -- the row that is being written, and the 0 behind it, join the rows
  module _ (room : 0 < free (content b)) where
    pub within_joined : b.used + b.len < length ws
    within_joined = omega (arith, draft_end, room)

    abbrev last : ℤ
    last = get_or ws (b.used + b.len) (pos 0)

    last_zero : is_zero last ≡ true
    last_zero =
        let here : b.used + b.len + 0 ≡ b.used + b.len = omega arith in
        subst (λ w. is_zero w ≡ true) (get_or-drop (b.used + b.len) ws 0 (pos 0) ∙ ap (λ k. get_or ws k (pos 0)) here) (zero_at (drop (b.used + b.len) ws) 0 b.zeros)

    front : take (b.used + (b.len + 1)) ws ≡ take b.used ws ++ ((content b).draft ++ (last ∷ []))
    front =
        let e : b.used + b.len + 1 ≡ b.used + (b.len + 1) = omega arith in
        ap (λ k. take k ws) (sym e) ∙ take_more ws (b.used + b.len) (pos 0) within_joined
        ∙ ap (λ k. k ++ (last ∷ [])) (take-add b.used b.len ws) ∙ append_assoc (take b.used ws) (content b).draft (last ∷ [])

    pub ends_joined : ended (take (b.used + (b.len + 1)) ws) ≡ true
    ends_joined =
        subst (λ k. ended k ≡ true) (sym front) (ended_append (take b.used ws) ((content b).draft ++ (last ∷ [])) b.ends (ended_row (content b).draft last last_zero))

    pub rows_joined : rows (take (b.used + (b.len + 1)) ws) ≡ (joined (content b)).standing
    rows_joined =
        ap rows front ∙ rows_append (take b.used ws) ((content b).draft ++ (last ∷ [])) b.ends
        ∙ ap (λ k. (content b).standing ++ k) (rows_row (content b).draft last [] b.drafted last_zero)

    pub zeros_joined : list_all is_zero (drop (b.used + (b.len + 1) + 0) ws) ≡ true
    zeros_joined = zeros_after (b.used + b.len) (b.used + (b.len + 1) + 0) ws (omega arith) b.zeros

-- A WORD PUSHED

-- a property of what a push leaves, by the ways to it
pub pushed_both : (b : Content) (w : ℤ) (P : Content → Type 0) → ((r : Refusal) → b.fault ≡ Some r → P b) → (b.fault ≡ None → P (writing b (b.draft ++ (w ∷ [])) b.fault))
    → P (writing b b.draft (Some NoRoom)) → P (pushed b w)
pushed_both b w P stays more full = by b.fault refl
  where
    by : (f : Option Refusal) → b.fault ≡ f → P (noted b w f)
    by (Some r) e = stays r e
    by None e = cond_both (ltb (words_of b.standing + length b.draft) b.size) (writing b (b.draft ++ (w ∷ [])) b.fault) (writing b b.draft (Some NoRoom)) P (λ _. more e) (λ _. full)
