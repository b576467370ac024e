-- What a text shows, word by word.
use Rattle.std.specs.Prelude.{ℕ, ◌+◌, Bool, true, false, cond, List, [], ◌∷◌, ◌++◌, ℤ, Some, None, Ok, Err, Option, Result, ◌==◌}
use Rattle.rulefile.specs.Bytes.{class_of}
use Rattle.rulefile.specs.Numbers.{number_of}
use Rattle.rulefile.specs.declared.bytes.Class.{Class}
use Rattle.rulefile.specs.declared.bytes.Class.TheVariants.{Blank, LineEnd, Digit, Minus, Other}
use Rattle.rulefile.specs.declared.words.Mode.{Mode}
use Rattle.rulefile.specs.declared.words.Mode.TheVariants.{Fresh, Inside, Comment}
use Rattle.rulefile.specs.declared.words.Position.{Position}
use Rattle.rulefile.specs.declared.words.Misspelling.{Misspelling}
use Rattle.rulefile.specs.declared.words.WordFault.{WordFault}
use Rattle.rulefile.specs.declared.words.Token.{Token}
use Rattle.rulefile.specs.declared.words.Token.TheVariants as T

-- GAPS

abbrev pub gap_class : Class → Bool
gap_class Blank = true
gap_class LineEnd = true
gap_class Digit = false
gap_class Minus = false
gap_class Other = false

-- whether the byte stands between words
abbrev pub is_gap : ℕ → Bool
is_gap b = gap_class (class_of b)

-- within a line that is no comment: how a gap goes on after a byte; for one of the class other it is given
abbrev pub in_line : Class → Option Mode → Option Mode
in_line Blank o = Some Inside
in_line LineEnd o = Some Fresh
in_line Digit o = None
in_line Minus o = None
in_line Other o = o

abbrev pub in_comment : Class → Option Mode
in_comment Blank = Some Comment
in_comment LineEnd = Some Fresh
in_comment Digit = Some Comment
in_comment Minus = Some Comment
in_comment Other = Some Comment

-- How a gap goes on after a byte, or none where a word begins. A line whose first byte is `c` is a comment.
abbrev pub passed : Mode → ℕ → Option Mode
passed Fresh b = in_line (class_of b) (cond (b == 99) (Some Comment) None)
passed Inside b = in_line (class_of b) None
passed Comment b = in_comment (class_of b)

-- the line after a byte
abbrev pub line_after : ℕ → ℕ → ℕ
line_after l b = l + cond (b == 10) 1 0

-- a place, its line, and the bytes from there on
pub record Spot : Type 0 where
  pub place : ℕ
  pub line : ℕ
  pub rest : List ℕ

abbrev pub spot : ℕ → ℕ → List ℕ → Spot
spot p l bs = record { place = p; line = l; rest = bs }

-- where the next word begins, or the text ends
abbrev pub gap : Mode → ℕ → ℕ → List ℕ → Spot
gap m p l [] = spot p l []
gap m p l (b ∷ bs) = elim (passed m b) [ None ↦ spot p l (b ∷ bs) | Some n ↦ gap n (p + 1) (line_after l b) bs ]

-- how many bytes at the front are of a word
abbrev pub run : List ℕ → ℕ
run [] = 0
run (b ∷ bs) = cond (is_gap b) 0 (run bs + 1)

-- WORDS

-- What a text shows: a number with its bytes and its value, any other word, a word that begins as a number does and is none, the end.
pub data Seen : Type 0 where
  number : List ℕ → ℤ → Position → Seen
  other : List ℕ → Position → Seen
  bad : WordFault → Seen
  end : Position → Seen

abbrev pub seen : Result Token WordFault → Seen
seen (Ok (T.Number w z)) = number w.text.now z w.at
seen (Ok (T.Other w)) = other w.text.now w.at
seen (Ok (T.End p)) = end p
seen (Err f) = bad f

abbrev pub position : ℕ → ℕ → Position
position l p = record { line = l; place = p }

-- a word that is meant as a number
abbrev pub meant : List ℕ → Position → Result ℤ Misspelling → Seen
meant w p (Ok z) = number w z p
meant w p (Err k) = bad (record { kind = k; at = p })

-- a word is meant as a number if its first byte is a digit or a minus
abbrev pub begun : Class → List ℕ → Position → Seen
begun Blank w p = other w p
begun LineEnd w p = other w p
begun Digit w p = meant w p (number_of w)
begun Minus w p = meant w p (number_of w)
begun Other w p = other w p

abbrev pub word_seen : List ℕ → Position → Seen
word_seen [] p = other [] p
word_seen (b ∷ bs) p = begun (class_of b) (b ∷ bs) p

-- Where a walk over the bytes stands: between words, or in a word, with its bytes so far and where it began.
pub data At : Type 0 where
  between : Mode → At
  within : List ℕ → Position → At

-- What bytes show from a place and its line on.
abbrev pub shown : At → ℕ → ℕ → List ℕ → List Seen
shown (between m) p l [] = end (position l p) ∷ []
shown (within w a) p l [] = word_seen w a ∷ (end (position l p) ∷ [])
shown (between m) p l (b ∷ bs) = elim (passed m b) [ None ↦ shown (within (b ∷ []) (position l p)) (p + 1) l bs | Some n ↦ shown (between n) (p + 1) (line_after l b) bs ]
shown (within w a) p l (b ∷ bs) = elim (passed Inside b) [ None ↦ shown (within (w ++ (b ∷ [])) a) (p + 1) l bs | Some n ↦ word_seen w a ∷ shown (between n) (p + 1) (line_after l b) bs ]

-- what a whole text shows
abbrev pub seen_in : List ℕ → List Seen
seen_in text = shown (between Fresh) 0 1 text

-- a word and what comes after it; after the end comes nothing
abbrev pub took : Seen → List Seen → List Seen
took (number w z p) rest = number w z p ∷ rest
took (other w p) rest = other w p ∷ rest
took (bad f) rest = bad f ∷ rest
took (end p) rest = end p ∷ []

-- what is left after the first word; the end stays
abbrev pub left_after : List Seen → List Seen
left_after [] = []
left_after (number w z p ∷ ts) = ts
left_after (other w p ∷ ts) = ts
left_after (bad f ∷ ts) = ts
left_after (end p ∷ ts) = end p ∷ ts
