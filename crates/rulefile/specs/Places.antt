-- What a text shows are parts of the text itself.
use Rattle.std.specs.Prelude.{◌≡◌, ℕ, ◌+◌, ◌≤◌, cond, List, [], ◌∷◌, length, take, drop, Ok, Err, ◌==◌}
use Rattle.rulefile.specs.Numbers.{number_of}
use Rattle.rulefile.specs.declared.words.Position.{Position}
use Rattle.rulefile.specs.Words.{Seen, number, other, bad, end}

-- how many line feeds there are
abbrev pub feeds : List ℕ → ℕ
feeds [] = 0
feeds (b ∷ bs) = cond (b == 10) 1 0 + feeds bs

-- a position of the text: its line is 1 and the line feeds before it
abbrev pub Stands : List ℕ → Position → Type 0
Stands text p = (p.place ≤ length text) × (p.line ≡ 1 + feeds (take p.place text))

-- a word stands where its bytes do: a number is what they write, and a bad one has bytes that write none; the end stands at the end
abbrev pub Shows : List ℕ → Seen → Type 0
Shows text (number w z p) = Stands text p × (take (length w) (drop p.place text) ≡ w) × (number_of w ≡ Ok z)
Shows text (other w p) = Stands text p × (take (length w) (drop p.place text) ≡ w)
Shows text (bad f) = Stands text f.at × ((w : List ℕ) × (take (length w) (drop f.at.place text) ≡ w) × (number_of w ≡ Err f.kind))
Shows text (end p) = (p.line ≡ 1 + feeds text) × (p.place ≡ length text)
