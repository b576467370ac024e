-- A text is gaps and words, one after the other, and what it shows are its words.
use Rattle.std.specs.Prelude.{◌≡◌, ℕ, ◌+◌, Bool, true, false, ◌&&◌, List, [], ◌∷◌, ◌++◌, length, All, ◌==◌}
use Rattle.rulefile.specs.declared.words.Position.{Position}
use Rattle.rulefile.specs.Words.{is_gap, Seen, end, position, word_seen}
use Rattle.rulefile.specs.Places.{feeds}

-- the position behind these bytes of the text
abbrev pub behind : List ℕ → Position
behind before = position (1 + feeds before) (length before)

-- whether a line begins behind bytes: the last is a line feed, or there are none and a line begins before them
abbrev pub begins : Bool → List ℕ → Bool
begins t [] = t
begins t (b ∷ bs) = begins (b == 10) bs

-- whether a line begins behind these bytes of the text
abbrev pub line_begins : List ℕ → Bool
line_begins before = begins true before

-- whether a comment begins with this byte: it is `c`, and a line's first
abbrev pub comment_begins : List ℕ → ℕ → Bool
comment_begins before b = line_begins before && b == 99

-- a byte of a comment is no line feed; one of a word is none that stands between words
abbrev pub OfComment : ℕ → Type 0
OfComment b = (b == 10) ≡ false

abbrev pub OfWord : ℕ → Type 0
OfWord b = is_gap b ≡ false

-- behind a comment comes a line feed, or nothing; behind a word a byte between words, or nothing
abbrev pub comment_stops : List ℕ → Bool
comment_stops [] = true
comment_stops (b ∷ bs) = b == 10

abbrev pub word_stops : List ℕ → Bool
word_stops [] = true
word_stops (b ∷ bs) = is_gap b

-- The bytes before, those to come, and what these show: the end, or first a byte between words, a comment or a word.
pub data Parted : List ℕ → List ℕ → List Seen → Type 0 where
  nothing : (before : List ℕ) → Parted before [] (end (behind before) ∷ [])
  between_words : (before : List ℕ) (b : ℕ) (rest : List ℕ) (ts : List Seen) → is_gap b ≡ true → Parted (before ++ (b ∷ [])) rest ts → Parted before (b ∷ rest) ts
  comment : (before : List ℕ) (b : ℕ) (bs rest : List ℕ) (ts : List Seen) → comment_begins before b ≡ true → All OfComment bs → comment_stops rest ≡ true
      → Parted (before ++ (b ∷ bs)) rest ts → Parted before ((b ∷ bs) ++ rest) ts
  word : (before : List ℕ) (b : ℕ) (bs rest : List ℕ) (ts : List Seen) → comment_begins before b ≡ false → All OfWord (b ∷ bs) → word_stops rest ≡ true
      → Parted (before ++ (b ∷ bs)) rest ts → Parted before ((b ∷ bs) ++ rest) (word_seen (b ∷ bs) (behind before) ∷ ts)

-- the text shows these, and nothing else
pub record Whole (text : List ℕ) (ts : List Seen) : Type 0 where
  pub parted : Parted [] text ts
  pub only : (us : List Seen) → Parted [] text us → us ≡ ts
