-- The clause in hand: the words behind the values, where a told or found clause stands.
use Rattle.std.specs.Prelude.{◌≡◌, ℕ, ◌+◌, ◌<◌, true, List, ℤ, Some, None, Option}
use Rattle.rules.specs.Literals.{in_range}
use Rattle.rules.specs.Sources.{Answer, Answer.silent, Answer.tells}
use Rattle.session.specs.Words.{word_at, clause_at}
use Rattle.session.specs.Decode.{clause_of}

-- the first k literals in hand are of the variables 1 to n
abbrev pub InRange : ℕ → List ℤ → ℕ → Type 0
InRange n ws k = (i : ℕ) → i < k → in_range n (word_at ws (clause_at n 0 + i)) ≡ true

-- what was answered, where a told clause of so many literals is in hand
abbrev pub answer_in_hand : ℕ → List ℤ → Option ℕ → Answer
answer_in_hand n ws None = silent
answer_in_hand n ws (Some k) = tells (clause_of n k ws)
