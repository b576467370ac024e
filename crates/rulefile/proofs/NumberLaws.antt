-- Laws of numerals: one digit more.
use Rattle.std.proofs.Common.{Some, Option, ◌≡◌, ℕ, ◌+◌, ◌-◌, ◌*◌, ◌^◌, ◌<◌, ◌≤◌, true, ◌&&◌, eqb, List, [], ◌∷◌, length, get_or, take, drop, sym, refl, ap, ◌∙◌, arith, lit<, pow-add}
use native.Mathlib.Nat.{pow-le-pow_right}
use Rattle.std.proofs.Math.Nat.{one-le-pow}
use Rattle.std.specs.Char.{is_ascii_digit}
use Rattle.std.specs.Iterator.{Yields, CallableAtEachTurn}
use Rattle.std.specs.List.{list_all, FoldsTo}
use Rattle.std.specs.Str.{all_ascii_digits}
use Rattle.std.proofs.lemmas.List.{at_drop_more, take_rest}
use Rattle.std.proofs.lemmas.Bool.{and_parts, cond-true, eq-eqb}
use Rattle.std.proofs.lemmas.Bool.Decides.{nat_tests}
use Rattle.rulefile.specs.Numbers.{value_from, number_of, natural, signed, minus}

-- the library's test of all bytes
pub digits_each : (bs : List ℕ) → list_all is_ascii_digit bs ≡ all_ascii_digits bs
digits_each [] = refl
digits_each (b ∷ bs) = ap (λ t. is_ascii_digit b && t) (digits_each bs)

digit_bounds : (b : ℕ) → is_ascii_digit b ≡ true → (48 ≤ b) × (b ≤ 57)
digit_bounds b e = (grind (arith, nat_tests), grind (arith, nat_tests))

-- where only digits are left, the next byte is one, and so are those behind it
pub digits_first : (s : List ℕ) (i : ℕ) → i < length s → all_ascii_digits (drop i s) ≡ true
    → (48 ≤ get_or s i 0) × (get_or s i 0 ≤ 57) × (all_ascii_digits (drop (i + 1) s) ≡ true)
digits_first s i h e =
    let both = and_parts (is_ascii_digit (get_or s i 0)) (all_ascii_digits (drop (i + 1) s)) (sym (at_drop_more all_ascii_digits s i 0 h) ∙ e) in
    let d = digit_bounds (get_or s i 0) both.0 in
    (d.0, d.1, both.1)

pub power_more : (n d i : ℕ) → n < 10 ^ i → d ≤ 9 → n * 10 + d < 10 ^ (i + 1)
power_more n d i h k = let e : 10 ^ (i + 1) ≡ 10 ^ i * 10 = pow-add 10 i 1 in omega arith

pub power_below : (n i k : ℕ) → n < 10 ^ i → i ≤ k → n < 10 ^ k
power_below n i k h l = omega (arith, pow-le-pow_right {n = 10} (lit< tt) l)

-- behind a minus, a word is the number that the rest writes, negated
pub after_minus : (w : List ℕ) → 0 < length w → get_or w 0 0 ≡ 45 → signed minus (natural (take (length w - 1) (drop 1 w))) ≡ number_of w
after_minus [] h e = absurd (omega arith)
after_minus (b ∷ bs) h e = ap (λ l. signed minus (natural l)) (take_rest (b ∷ bs) 1) ∙ sym (cond-true (eqb b 45) _ _ (eq-eqb b 45 e))

-- A LOOP OVER DIGITS: n is the number that those before `rest` write.
pub record Folded (digits rest : List ℕ) (n : ℕ) : Type 0 where
  pub value : value_from 0 digits ≡ value_from n rest
  pub spelled : all_ascii_digits rest ≡ true
  pub short : length rest ≤ 9
  pub below : n < 10 ^ (9 - length rest)

pub folded_start : (digits rest : List ℕ) → rest ≡ digits → all_ascii_digits digits ≡ true → length digits ≤ 9 → Folded digits rest 0
folded_start digits rest e spelled short = record {
  value = ap (value_from 0) (sym e);
  spelled = ap all_ascii_digits e ∙ spelled;
  short = omega (arith, ap length e);
  below = one-le-pow (9 - length rest) 10 (lit< tt);
}

-- the next digit, and a number that it leaves room for
pub folded_next : (digits rest rest' : List ℕ) (b n : ℕ) → Folded digits rest n → rest ≡ b ∷ rest' → (48 ≤ b) × (b ≤ 57) × (n < 10 ^ 8) × (all_ascii_digits rest' ≡ true)
folded_next digits rest rest' b n f e =
    let both = and_parts (is_ascii_digit b) (all_ascii_digits rest') (ap all_ascii_digits (sym e) ∙ f.spelled) in
    let d = digit_bounds b both.0 in
    let k : 9 - length rest ≤ 8 = omega (arith, ap length e) in
    (d.0, d.1, power_below n (9 - length rest) 8 f.below k, both.1)

pub folded_more : (digits rest rest' : List ℕ) (b n m : ℕ) → Folded digits rest n → rest ≡ b ∷ rest' → m ≡ n * 10 + (b - 48) → Folded digits rest' m
folded_more digits rest rest' b n m f e g =
    let next = folded_next digits rest rest' b n f e in
    let k : 9 - length rest' ≡ 9 - length rest + 1 = omega (arith, ap length e, f.short) in
    record {
      value = f.value ∙ ap (value_from n) e ∙ ap (λ k. value_from k rest') (sym g);
      spelled = next.3;
      short = omega (arith, ap length e, f.short);
      below = rw (k, g) (power_more n (b - 48) (9 - length rest) f.below (omega arith));
    }

pub folded_end : (digits rest : List ℕ) (n : ℕ) → Folded digits rest n → length rest ≡ 0 → (n ≡ value_from 0 digits) × (n < 10 ^ 9)
folded_end digits [] n f e = (sym f.value, f.below)
folded_end digits (b ∷ bs) n f e = absurd (omega (arith, e))

-- AN INVARIANT OF A FOLD, by what the iterator still has and by the total.
module _ {S A P : Type 0} (steps : S → Option A → S → Type 0) (R : P → A → P → Type 0) (I : S → P → Type 0)
    (kept : (s u : S) (p q : P) (x : A) → I s p → steps s (Some x) u → R p x q → I u q) where
  pub fold_keeps : (xs : List A) (s t : S) (p q : P) → I s p → Yields steps s xs t → FoldsTo R p xs q → I t q
  fold_keeps [] s t p q i y f = rw (← y, ← f) i
  fold_keeps (x ∷ xs) s t p q i (j, st, y) (k, r, f) = fold_keeps xs j t k q (kept s j p k x i st r) y f

  pub fold_callable : (Q : P → A → Type 0) → ((s u : S) (p : P) (x : A) → I s p → steps s (Some x) u → Q p x) → (s : S) (p : P) → I s p → CallableAtEachTurn steps R Q s p
  fold_callable Q asks s p i = record { at = λ xs t q x u y f st. asks t u q x (fold_keeps xs s t p q i y f) st }
