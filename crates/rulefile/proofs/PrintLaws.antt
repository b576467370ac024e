-- Words that are numbers are what numbers print.
use Rattle.std.proofs.Common.{◌≡◌, ℕ, zero, suc, ◌^◌, ◌<◌, ◌≤◌, Bool, true, false, cond, not, ◌&&◌, eqb, List, [], ◌∷◌, length, get_or, ℤ, pos, negsuc, unsigned_abs, Ok, Err, Result, ◌==◌, nat_le, sym, refl, ap, ◌∙◌, arith, rules, lit<, decimal}
use Rattle.std.specs.Fmt.{signed_decimal}
use Rattle.std.specs.Str.{all_ascii_digits}
use Rattle.std.proofs.lemmas.Bool.{and_parts, both_ways, eqb-true, ne_eqb, not-true, leb-true, le-leb, cond-true, cond-false, and_from, and_left}
use Rattle.std.proofs.lemmas.Str.Parse.{IsNumeralModel, numerals_by_fold, digits_value_short}
use Rattle.std.proofs.lemmas.Fmt.{decimal_digit, decimal_nonempty, first_decimal, digits_decimal, digits_value-decimal, length-decimal-le, decimal-digits_value}
use Rattle.rulefile.specs.Numbers.{value_from, well_spelled, natural, signed, minus, number_of, WrittenAsPrinted, NineDigits, PrintedIsRead}
use Rattle.rulefile.specs.declared.words.Misspelling.{Misspelling}
use Rattle.rulefile.specs.declared.words.Misspelling.TheVariants.{Spelling, Length}

own : IsNumeralModel (λ ds. all_ascii_digits ds ≡ true) (value_from 0)
own = numerals_by_fold _ (search rules) value_from (search rules)

-- DIGITS WITHOUT A MINUS

-- digits, at most nine, that a number from 1 on prints
record Printed (ds : List ℕ) (n : ℕ) : Type 0 where
  written : ds ≡ decimal n
  positive : 0 < n
  small : n < 10 ^ 9

-- 0 prints a 0, so that a number whose digits begin with another is not 0
not_zero : (b : ℕ) (bs : List ℕ) (n : ℕ) → (b ≡ 48 → ⊥) → b ∷ bs ≡ decimal n → 0 < n
not_zero b bs zero other e = let z = decimal_digit 0 (lit< tt) in absurd (other (cc))
not_zero b bs (suc n) other e = omega arith

natural_printed : (ds : List ℕ) (n : ℕ) → natural ds ≡ Ok n → Printed ds n
natural_printed [] n e = absurd (cc)
natural_printed (b ∷ bs) n e = by (well_spelled (b ∷ bs)) refl (nat_le (length (b ∷ bs)) 9) refl e
  where
    by : (s : Bool) → well_spelled (b ∷ bs) ≡ s → (l : Bool) → nat_le (length (b ∷ bs)) 9 ≡ l → cond s (cond l (Ok (value_from 0 (b ∷ bs))) (Err Length)) (Err Spelling) ≡ Ok n → Printed (b ∷ bs) n
    by false p l q e = absurd (cc)
    by true p false q e = absurd (cc)
    by true p true q e =
        let parts = and_parts (not (b == 48)) (all_ascii_digits (b ∷ bs)) p in
        let other : b ≡ 48 → ⊥ = λ h. both_ways (eqb b 48) (not-true (eqb b 48) parts.0) (ap (λ k. eqb k 48) h) in
        let value : value_from 0 (b ∷ bs) ≡ n = cc in
        let small = digits_value_short own (b ∷ bs) 9 parts.1 (leb-true (length (b ∷ bs)) 9 q) in
        let written : b ∷ bs ≡ decimal n = sym (decimal-digits_value own (b ∷ bs) parts.1 (omega arith) (λ h. absurd (other h)) (omega (arith, small))) ∙ ap decimal value in
        record { written = written; positive = not_zero b bs n other written; small = omega (arith, small, value) }

-- the first of them is above 0
first_above : (b : ℕ) (bs : List ℕ) (n : ℕ) → Printed (b ∷ bs) n → 48 < b
first_above b bs n h = omega (arith, first_decimal n h.positive (omega arith), ap (λ ds. get_or ds 0 0) h.written)

natural_decimal : (ds : List ℕ) (n : ℕ) → Printed ds n → natural ds ≡ Ok n
natural_decimal [] n h = absurd (omega (arith, ap length h.written, decimal_nonempty n (omega arith)))
natural_decimal (b ∷ bs) n h =
    let digits : all_ascii_digits (b ∷ bs) ≡ true = ap all_ascii_digits h.written ∙ digits_decimal own n (omega arith) in
    let value : value_from 0 (b ∷ bs) ≡ n = ap (value_from 0) h.written ∙ digits_value-decimal own n (omega arith) in
    let short : length (b ∷ bs) ≤ 9 = omega (arith, ap length h.written, length-decimal-le 9 n (lit< tt) h.small (omega arith)) in
    let spelled : well_spelled (b ∷ bs) ≡ true = and_from (not (b == 48)) (all_ascii_digits (b ∷ bs)) (ap not (ne_eqb b 48 (λ e. absurd (omega (arith, first_above b bs n h))))) digits in
    cond-true (well_spelled (b ∷ bs)) _ (Err Spelling) spelled ∙ cond-true (nat_le (length (b ∷ bs)) 9) (Ok (value_from 0 (b ∷ bs))) (Err Length) (le-leb (length (b ∷ bs)) 9 short) ∙ ap Ok value

-- WITH A MINUS OR WITHOUT

-- the number that a sign makes of one that is read
signed_of : (f : ℕ → ℤ) (r : Result ℕ Misspelling) (z : ℤ) → signed f r ≡ Ok z → (n : ℕ) × (r ≡ Ok n) × (f n ≡ z)
signed_of f (Ok n) z e = (n, refl, cc)
signed_of f (Err k) z e = absurd (cc)

-- a word and the number that prints it
abbrev Prints : List ℕ → ℤ → Type 0
Prints w z = (w ≡ signed_decimal z) × (unsigned_abs z < 10 ^ 9)

minus_prints : (ds : List ℕ) (n : ℕ) → Printed ds n → Prints (45 ∷ ds) (minus n)
minus_prints ds zero h = absurd (omega (arith, h.positive))
minus_prints ds (suc n) h = (ap (λ (x : List ℕ). 45 ∷ x) h.written, h.small)

zero_prints : (b : ℕ) (bs : List ℕ) → (b == 48 && length bs == 0) ≡ true → Prints (b ∷ bs) (pos 0)
zero_prints b [] q = (ap (λ (k : ℕ). k ∷ []) (eqb-true b 48 (and_parts (b == 48) true q).0) ∙ sym (decimal_digit 0 (lit< tt)), lit< tt)
zero_prints b (c ∷ cs) q = absurd (omega (arith, eqb-true (length (c ∷ cs)) 0 (and_parts (b == 48) (length (c ∷ cs) == 0) q).1))

number_prints : (w : List ℕ) (z : ℤ) → number_of w ≡ Ok z → Prints w z
number_prints [] z e = absurd (cc)
number_prints (b ∷ bs) z e = by (b == 45) refl (b == 48 && length bs == 0) refl e
  where
    by : (m : Bool) → (b == 45) ≡ m → (o : Bool) → (b == 48 && length bs == 0) ≡ o → cond m (signed minus (natural bs)) (cond o (Ok (pos 0)) (signed pos (natural (b ∷ bs)))) ≡ Ok z → Prints (b ∷ bs) z
    by true p o q e =
        let (n, r, s) = signed_of minus (natural bs) z e in
        rw (eqb-true b 45 p, ← s) (minus_prints bs n (natural_printed bs n r))
    by false p true q e = let s : pos 0 ≡ z = cc in rw (← s) (zero_prints b bs q)
    by false p false q e =
        let (n, r, s) = signed_of pos (natural (b ∷ bs)) z e in
        let h = natural_printed (b ∷ bs) n r in
        rw (← s) (h.written, h.small)

plain : (ds : List ℕ) (n : ℕ) → Printed ds n → number_of ds ≡ Ok (pos n)
plain [] n h = absurd (omega (arith, ap length h.written, decimal_nonempty n (omega arith)))
plain (b ∷ bs) n h =
    let low = first_above b bs n h in
    let m : (b == 45) ≡ false = ne_eqb b 45 (λ e. absurd (omega arith)) in
    let o : (b == 48 && length bs == 0) ≡ false = and_left (b == 48) (length bs == 0) (ne_eqb b 48 (λ e. absurd (omega arith))) in
    cond-false (b == 45) (signed minus (natural bs)) _ m ∙ cond-false (b == 48 && length bs == 0) (Ok (pos 0)) (signed pos (natural (b ∷ bs))) o ∙ ap (signed pos) (natural_decimal (b ∷ bs) n h)

pub printed_is_read : PrintedIsRead
printed_is_read (pos zero) h = ap number_of (decimal_digit 0 (lit< tt))
printed_is_read (pos (suc n)) h = plain (decimal (suc n)) (suc n) (record { written = refl; positive = omega arith; small = h })
printed_is_read (negsuc n) h = ap (signed minus) (natural_decimal (decimal (suc n)) (suc n) (record { written = refl; positive = omega arith; small = h }))

pub written_as_printed : WrittenAsPrinted
written_as_printed w z e = (number_prints w z e).0

pub nine_digits : NineDigits
nine_digits w z e = (number_prints w z e).1
