-- The trail: what stands on it and how it came there.
use Rattle.std.specs.Prelude.{◌≡◌, ℕ, Bool, true, false, cond, not, ◌&&◌, ◌||◌, List, [], ◌∷◌, map, length, ℤ, pos, neg_ℤ, All}
use Rattle.std.specs.List.{range_with_len}
use Rattle.rules.specs.Literals.{same, in_range}

-- A literal on the trail is assumed, decided or implied. An implied one has a reason: the clause of itself and these others.
pub data Entry : Type 0 where
  assumed : ℤ → Entry
  decided : ℤ → Entry
  implied : ℤ → List ℤ → Entry

-- The trail lists the true literals, the newest first.
abbrev pub Trail : Type 0
Trail = List Entry

abbrev pub literal : Entry → ℤ
literal (assumed l) = l
literal (decided l) = l
literal (implied l others) = l

-- whether the literal is true, which is to stand on the trail; it is false when its negation does
abbrev pub on : Trail → ℤ → Bool
on [] l = false
on (e ∷ t) l = same l (literal e) || on t l

-- whether the literal's variable is one of 1 to n and unassigned
abbrev pub free : ℕ → Trail → ℤ → Bool
free n t l = in_range n l && (not (on t l) && not (on t (neg_ℤ l)))

-- no variable of 1 to n is unassigned
abbrev pub Complete : ℕ → Trail → Type 0
Complete n t = (v : ℕ) → free n t (pos v) ≡ false

-- the assumed literals, the newest first
abbrev pub assumed_literals : Trail → List ℤ
assumed_literals [] = []
assumed_literals (assumed l ∷ t) = l ∷ assumed_literals t
assumed_literals (decided l ∷ t) = assumed_literals t
assumed_literals (implied l others ∷ t) = assumed_literals t

-- the decided literals, the newest first
abbrev pub decided_literals : Trail → List ℤ
decided_literals [] = []
decided_literals (assumed l ∷ t) = decided_literals t
decided_literals (decided l ∷ t) = l ∷ decided_literals t
decided_literals (implied l others ∷ t) = decided_literals t

-- the place of a literal, 0 for the oldest
abbrev pub place_of : Trail → ℤ → ℕ
place_of [] l = 0
place_of (e ∷ t) l = cond (same l (literal e)) (length t) (place_of t l)

-- the other literals of a reason are false
abbrev pub Grounded : Trail → Entry → Type 0
Grounded t (assumed l) = Unit {0}
Grounded t (decided l) = Unit {0}
Grounded t (implied l others) = All (λ k. on t (neg_ℤ k) ≡ true) others

-- an entry that may stand on top of the trail t
pub record Placeable (n : ℕ) (t : Trail) (e : Entry) : Type 0 where
  pub unassigned : free n t (literal e) ≡ true
  pub grounded : Grounded t e

-- Each variable is one of 1 to n and stands once, and the other literals of each reason are false and stand earlier.
abbrev pub WellFormed : ℕ → Trail → Type 0
WellFormed n [] = Unit {0}
WellFormed n (e ∷ t) = Placeable n t e × WellFormed n t

-- The trail as a valuation: the word of variable v, and the row of 1 to n.
abbrev pub word : Trail → ℕ → ℤ
word t v = cond (on t (pos v)) (pos v) (cond (on t (neg_ℤ (pos v))) (neg_ℤ (pos v)) (pos 0))

abbrev pub valuation : ℕ → Trail → List ℤ
valuation n t = map (word t) (range_with_len 1 n)
