-- What reading a file comes to, within the limits of `decide`.
use Rattle.std.specs.Prelude.{ℕ, cond, List, length, Ok, Err, Result, nat_lt}
use Rattle.rulefile.specs.declared.words.Position.{Position}
use Rattle.rulefile.specs.declared.faults.BookFault.{BookFault}
use Rattle.rulefile.specs.declared.faults.Fault.{Fault as Described}
use Rattle.rulefile.specs.declared.form.Number.{Number}
use Rattle.answer.specs.declared.reading.Excess.{Excess}
use Rattle.answer.specs.declared.reading.Excess.TheVariants.{Variables, Bytes}
use Rattle.rulefile.specs.Words.{seen_in, position}
use Rattle.rulefile.specs.Form.{Taken, opening}
use Rattle.rulefile.specs.Faults.{Fault, fault, form_fault, book_fault, named}
use Rattle.rulefile.specs.Outcomes.{Books, rest_outcome}

-- the number of a limit that is passed
abbrev pub excess_number : Excess → ℕ
excess_number Variables = 1
excess_number Bytes = 14

-- a fault that the program itself finds
abbrev pub program_fault : ℕ → Position → Fault
program_fault k p = fault k 4 p

-- a reading whose faults are as they are told
abbrev pub with_fault : Result Books BookFault → Result Books Fault
with_fault (Ok b) = Ok b
with_fault (Err f) = Err (book_fault f)

-- From the number of variables on. 1: there are more than 64, which is found at that number, before what follows it is looked at.
abbrev pub from_opening : ℕ → ℕ → Taken (Number ℕ) → Result Books Fault
from_opening c g (Ok t) = cond (nat_lt 64 t.0.value) (Err (program_fault 1 t.0.at)) (with_fault (rest_outcome c g t.0.value t.1))
from_opening c g (Err f) = Err (form_fault f)

-- A whole file, into books of so many words. 14: it has more than 65,536 bytes, which is found before all else.
abbrev pub reading_into : ℕ → ℕ → List ℕ → Result Books Fault
reading_into c g text = cond (nat_lt 65536 (length text)) (Err (program_fault 14 (position 0 0))) (from_opening c g (opening (seen_in text)))

-- The same into books of 8,192 and 2,048 words.
abbrev pub reading : List ℕ → Result Books Fault
reading text = reading_into 8192 2048 text

-- what a reading answers, with the books that it leaves
abbrev pub read_as : {X : Type 0} → Result X Described → Books → Result Books Fault
read_as (Ok x) b = Ok b
read_as (Err f) b = Err (named f)
