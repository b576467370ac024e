-- Rows of words in one run of words. A row's own words are not 0, and a 0 ends it.
use Rattle.std.specs.Prelude.{ℕ, ◌+◌, Bool, true, cond, List, [], ◌∷◌, ◌++◌, length, ℤ, pos, ◌==◌, unsigned_abs}

abbrev pub is_zero : ℤ → Bool
is_zero w = unsigned_abs w == 0

-- one more word before the first row; without a row it stands in none
abbrev pub in_front : ℤ → List (List ℤ) → List (List ℤ)
in_front w [] = []
in_front w (row ∷ rest) = (w ∷ row) ∷ rest

-- the rows that have ended
abbrev pub rows : List ℤ → List (List ℤ)
rows [] = []
rows (w ∷ ws) = cond (is_zero w) ([] ∷ rows ws) (in_front w (rows ws))

-- whether every word stands in a row that has ended
abbrev pub ended : List ℤ → Bool
ended [] = true
ended (w ∷ []) = is_zero w
ended (w ∷ v ∷ ws) = ended (v ∷ ws)

-- the words that rows take: their own, and a 0 each
abbrev pub words_of : List (List ℤ) → ℕ
words_of [] = 0
words_of (row ∷ rest) = length row + 1 + words_of rest

-- rows as words
abbrev pub spelled : List (List ℤ) → List ℤ
spelled [] = []
spelled (row ∷ rest) = row ++ (pos 0 ∷ spelled rest)
