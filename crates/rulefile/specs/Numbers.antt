-- How a number is spelled.
use Rattle.std.specs.Prelude.{◌≡◌, ℕ, ◌+◌, ◌-◌, ◌*◌, ◌^◌, ◌<◌, Bool, false, cond, not, ◌&&◌, List, [], ◌∷◌, length, ℤ, pos, neg_ℤ, unsigned_abs, Ok, Err, Result, ◌==◌, nat_le}
use Rattle.std.specs.Fmt.{signed_decimal}
use Rattle.std.specs.Str.{all_ascii_digits}
use Rattle.rulefile.specs.declared.words.Misspelling.{Misspelling}
use Rattle.rulefile.specs.declared.words.Misspelling.TheVariants.{Spelling, Length}

-- the value of digits behind a number
abbrev pub value_from : ℕ → List ℕ → ℕ
value_from n [] = n
value_from n (b ∷ bs) = value_from (n * 10 + (b - 48)) bs

-- digits, the first not 0
abbrev pub well_spelled : List ℕ → Bool
well_spelled [] = false
well_spelled (b ∷ bs) = not (b == 48) && all_ascii_digits (b ∷ bs)

-- the number that digits write: its spelling is looked at first, then its length
abbrev pub natural : List ℕ → Result ℕ Misspelling
natural ds = cond (well_spelled ds) (cond (nat_le (length ds) 9) (Ok (value_from 0 ds)) (Err Length)) (Err Spelling)

abbrev pub signed : (ℕ → ℤ) → Result ℕ Misspelling → Result ℤ Misspelling
signed f (Ok n) = Ok (f n)
signed f (Err e) = Err e

abbrev pub minus : ℕ → ℤ
minus n = neg_ℤ (pos n)

-- 0, or at most nine digits, the first not 0, with or without a minus before them
abbrev pub number_of : List ℕ → Result ℤ Misspelling
number_of [] = Err Spelling
number_of (b ∷ bs) = cond (b == 45) (signed minus (natural bs)) (cond (b == 48 && length bs == 0) (Ok (pos 0)) (signed pos (natural (b ∷ bs))))

-- LAWS: a word is a number exactly when it is what a number of at most nine digits prints.

-- a word that is a number is what that number prints
abbrev pub WrittenAsPrinted : Type 0
WrittenAsPrinted = (w : List ℕ) (z : ℤ) → number_of w ≡ Ok z → w ≡ signed_decimal z

-- a number that a word is has at most nine digits
abbrev pub NineDigits : Type 0
NineDigits = (w : List ℕ) (z : ℤ) → number_of w ≡ Ok z → unsigned_abs z < 10 ^ 9

-- what a number of at most nine digits prints is that number
abbrev pub PrintedIsRead : Type 0
PrintedIsRead = (z : ℤ) → unsigned_abs z < 10 ^ 9 → number_of (signed_decimal z) ≡ Ok z
