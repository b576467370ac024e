-- Words that are 0 behind the assumptions stand for an empty trail and no slots.
use Rattle.std.proofs.Common.{◌≡◌, ℕ, ◌*◌, ◌<◌, ◌≤◌, true, List, length, ℤ, pos, arith, ◌+◌}
use Rattle.std.proofs.Common.{◌-◌, sym, subst, ap, ◌∙◌, inl, inr}
use Rattle.std.proofs.lemmas.List.{get_or_past}
use Rattle.std.proofs.lemmas.Bool.{cases_lt}
use borrow.Rule.Slice.PartMut.{put_mid, same_len_mid}
use Rattle.session.specs.declared.states.Idle.{Idle}
use Rattle.session.specs.Sessions.{standing}
use Rattle.session.proofs.Calling.{all_ranged}
use Rattle.session.proofs.Reading.{part_long}
use Rattle.session.proofs.Words.{words_same, part_outside, part_word_put}
use Rattle.rules.specs.Literals.{in_range}
use Rattle.session.specs.Words.{word_at, value_at, row_at, size, Outside}
use Rattle.session.specs.Decode.{assumptions_of, Sound}

pub empty_sound : (n L count : ℕ) (was now : List ℤ) → size n L ≤ length now → count ≤ 2 * n → ((i : ℕ) → 2 * n ≤ i → word_at now i ≡ pos 0)
    → ((i : ℕ) → i < 2 * n → word_at now i ≡ word_at was i) → ((i : ℕ) → i < count → in_range n (word_at was i) ≡ true) → Sound n L count 0 0 now
empty_sound n L count was now big few zero before ranged = record {
  coherent = record {
    big = big;
    fits = omega arith;
    formed = tt;
    values = λ x h. zero (value_at n x) (omega arith);
    counts = λ x h. rw (zero (row_at n x 1) (omega arith)) (omega arith);
  };
  few = few;
  ranged = λ i h. rw (before i (omega arith)) (ranged i h);
  within = omega arith;
  stored = record { short = λ s h. absurd (none s h); ranged = λ s i h _. absurd (none s h) };
}
  where
    none : (s : ℕ) → s < 0 → ⊥
    none s h = omega arith

-- the words of an idle session, with zeros behind its assumptions
module _ (s : Idle) (zeros : List ℤ) (many : length zeros ≡ length s.words.now - 2 * s.layout.variables) (zero : (i : ℕ) → i < length zeros → word_at zeros i ≡ pos 0) where
  abbrev now : List ℤ
  now = put_mid (2 * s.layout.variables) (length s.words.now - 2 * s.layout.variables) s.words.now zeros

  frame : Outside (2 * s.layout.variables) (length s.words.now - 2 * s.layout.variables) s.words.now now
  frame = let room = s.room in part_outside s.words.now zeros (2 * s.layout.variables) (length s.words.now - 2 * s.layout.variables) (omega arith) many

  zero_behind : (i : ℕ) → 2 * s.layout.variables ≤ i → word_at now i ≡ pos 0
  zero_behind i h =
      let base = 2 * s.layout.variables in
      let ws = s.words.now in
      let room = s.room in
      elim (cases_lt i (length ws)) [
        | inl l ↦
            let at : base + (i - base) ≡ i = omega arith in
            ap (word_at now) (sym at) ∙ part_word_put ws zeros base (length ws - base) (omega arith) many (i - base) (omega arith) ∙ zero (i - base) (omega arith)
        | inr l ↦ frame.above i (omega arith) ∙ get_or_past ws i (pos 0) l
      ]

  pub emptied_sound : Sound s.layout.variables s.layout.slots s.assumptions 0 0 now
  emptied_sound =
      let room = s.room in
      empty_sound s.layout.variables s.layout.slots s.assumptions s.words.now now
      (subst (λ k. size s.layout.variables s.layout.slots ≤ k) (sym (same_len_mid (2 * s.layout.variables) (length s.words.now - 2 * s.layout.variables) s.words.now zeros (many ∙ sym (part_long s.words.now (2 * s.layout.variables) (length s.words.now - 2 * s.layout.variables) (omega arith))))) room) s.few zero_behind frame.below
      (all_ranged s.layout.variables s.assumptions s.words.now s.ranged)

  pub emptied_assumptions : assumptions_of s.assumptions now ≡ standing s
  emptied_assumptions = let few = s.few in words_same s.words.now now 0 0 s.assumptions (λ i h. frame.below (0 + i) (omega arith))
