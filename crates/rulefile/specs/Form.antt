-- The form of a rule file, word by word.
use Rattle.std.specs.Prelude.{ℕ, Bool, true, false, cond, List, [], ◌∷◌, ℤ, pos, negsuc, Some, None, Ok, Err, codes, Option, Result, ◌==◌, nat_lt, unsigned_abs}
use Rattle.std.specs.Str.{bytes_eq}
use Rattle.rules.specs.Rows.{is_zero}
use Rattle.rulefile.specs.declared.words.Position.{Position}
use Rattle.rulefile.specs.declared.faults.Misfit.{Misfit}
use Rattle.rulefile.specs.declared.faults.Misfit.TheVariants.{NotAllowed, TooLarge, Count, Ends}
use Rattle.rulefile.specs.declared.faults.FormFault.{FormFault}
use Rattle.rulefile.specs.declared.faults.FormFault.TheVariants as F
use Rattle.rulefile.specs.declared.form.Number.{Number}
use Rattle.rulefile.specs.declared.form.Start.{Start}
use Rattle.rulefile.specs.declared.form.Start.TheVariants as S
use Rattle.rulefile.specs.Words.{Seen, number, other, bad, end, position, left_after}

-- PARTS OF THE FORM

-- Something that the front of a text makes, and what the text shows after it; or why it makes none.
abbrev pub Taken : Type 0 → Type 0
Taken X = Result (X × List Seen) FormFault

abbrev pub taken : {X : Type 0} → Result X FormFault → List Seen → Taken X
taken (Ok x) rest = Ok (x, rest)
taken (Err f) rest = Err f

abbrev pub misfit : {X : Type 0} → Misfit → Position → Result X FormFault
misfit k p = Err (F.Form k p)

-- a text shows its end at least, so that this is never met
abbrev pub nothing : {X : Type 0} → Result X FormFault
nothing = misfit Ends (position 0 0)

-- a number
abbrev pub number_next : List Seen → Taken (Number ℤ)
number_next [] = nothing
number_next (number w z p ∷ ts) = Ok (record { value = z; at = p }, ts)
number_next (other w p ∷ ts) = misfit NotAllowed p
number_next (bad f ∷ ts) = Err (F.Word f)
number_next (end p ∷ ts) = misfit Ends p

abbrev pub negative : ℤ → Bool
negative (pos n) = false
negative (negsuc n) = true

-- a number without a minus
abbrev pub plain : Taken (Number ℤ) → Taken (Number ℕ)
plain (Ok t) = cond (negative t.0.value) (misfit NotAllowed t.0.at) (Ok (record { value = unsigned_abs t.0.value; at = t.0.at }, t.1))
plain (Err f) = Err f

abbrev pub natural_next : List Seen → Taken (Number ℕ)
natural_next ts = plain (number_next ts)

-- a number without a minus, and at most so large
abbrev pub limited : ℕ → Taken (Number ℕ) → Taken (Number ℕ)
limited most (Ok t) = cond (nat_lt most t.0.value) (misfit TooLarge t.0.at) (Ok t)
limited most (Err f) = Err f

abbrev pub count_next : ℕ → List Seen → Taken (Number ℕ)
count_next most ts = limited most (natural_next ts)

-- this word
abbrev pub word_next : List ℕ → List Seen → Taken (Unit {0})
word_next key [] = nothing
word_next key (number w z p ∷ ts) = misfit NotAllowed p
word_next key (other w p ∷ ts) = cond (bytes_eq w key) (Ok (tt, ts)) (misfit NotAllowed p)
word_next key (bad f ∷ ts) = Err (F.Word f)
word_next key (end p ∷ ts) = misfit Ends p

-- one thing and then another
abbrev pub and_then : {X Y : Type 0} → Taken X → (List Seen → Taken Y) → Taken Y
and_then (Ok t) next = next t.1
and_then (Err f) next = Err f

-- the words `p` and `cnf` and the number of variables, at most 1,000
abbrev pub opening : List Seen → Taken (Number ℕ)
opening ts = and_then (word_next (codes "p") ts) (λ rest. and_then (word_next (codes "cnf") rest) (count_next 1000))

-- what is left after it, or after the word that is not as it should be
abbrev pub opening_left : List Seen → List Seen
opening_left ts = elim (word_next (codes "p") ts) [
  | Ok t ↦ elim (word_next (codes "cnf") (left_after ts)) [ Ok u ↦ left_after (left_after (left_after ts)) | Err f ↦ left_after (left_after ts) ]
  | Err f ↦ left_after ts
]

-- What begins between rules, where n clauses are left to come: a clause, a group by the word `a`, or nothing at the text's end.
abbrev pub start_next : ℕ → List Seen → Taken (Option Start)
start_next n [] = nothing
start_next n (number w z p ∷ ts) = cond (n == 0) (misfit Count p) (Ok (Some (S.Clause (record { value = z; at = p })), ts))
start_next n (other w p ∷ ts) = cond (bytes_eq w (codes "a")) (Ok (Some (S.Group p), ts)) (misfit NotAllowed p)
start_next n (bad f ∷ ts) = Err (F.Word f)
start_next n (end p ∷ ts) = cond (n == 0) (Ok (None, end p ∷ ts)) (misfit Count p)

-- Literals, up to the 0 that ends them.
abbrev pub with_literal : ℤ → Taken (List ℤ) → Taken (List ℤ)
with_literal z (Ok t) = Ok (z ∷ t.0, t.1)
with_literal z (Err f) = Err f

abbrev pub literals_next : List Seen → Taken (List ℤ)
literals_next [] = nothing
literals_next (number w z p ∷ ts) = cond (is_zero z) (Ok ([], ts)) (with_literal z (literals_next ts))
literals_next (other w p ∷ ts) = misfit NotAllowed p
literals_next (bad f ∷ ts) = Err (F.Word f)
literals_next (end p ∷ ts) = misfit Ends p

-- the same where the first number has been read
abbrev pub literals_from : ℤ → List Seen → Taken (List ℤ)
literals_from z ts = cond (is_zero z) (Ok ([], ts)) (with_literal z (literals_next ts))
