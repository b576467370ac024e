-- A rule that is being written, and when a book takes it.
use Rattle.std.specs.Prelude.{ℕ, Bool, true, cond, List, ℤ, Some, None, Ok, Err, Option, Result, nat_lt}
use Rattle.rules.specs.declared.refusal.Refusal.{Refusal}
use Rattle.rules.specs.declared.refusal.Refusal.TheVariants.{NoVariable, NoRoom, NotRising}

-- A book has at most 1,000 variables; a larger number counts as none.
abbrev pub book_count : ℕ → ℕ
book_count n = cond (nat_lt 1000 n) 0 n

-- a rule that has earned a refusal is not looked at any more
abbrev pub unless : Option Refusal → (List ℤ → Bool) → List ℤ → Bool
unless None fits row = fits row
unless (Some r) fits row = true

-- what a book answers to a rule: it is taken, or why it is not
abbrev pub Reply : Type 0
Reply = Result (Unit {0}) Refusal

-- the reply at a rule's end: the refusal that it has earned, or else whether the book is full for it
abbrev pub reply : Option Refusal → Bool → Reply
reply None full = cond full (Err NoRoom) (Ok tt)
reply (Some r) full = Err r

-- the number of a refusal
abbrev pub number_of : Refusal → ℕ
number_of NoVariable = 2
number_of NoRoom = 8
number_of NotRising = 9
