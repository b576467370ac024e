-- What a look finds, as a clause in hand.
use Rattle.std.specs.Prelude.{◌≡◌, ℕ, ◌<◌, ◌≤◌, List, ℤ, Some, None, Option}
use Rattle.rules.specs.Clauses.{Status.falsified, Status.unit, status}
use Rattle.theory.specs.Trail.{Trail, on}
use Rattle.session.specs.Words.{word_at, clause_at}
use Rattle.session.specs.Decode.{clause_of}
use Rattle.session.specs.InHand.{InRange}
use Rattle.session.specs.declared.look.Assertion.{Assertion}
use Rattle.session.specs.declared.look.Assertion.TheVariants.{Falsified, Unit as UnitOf}
use Rattle.session.specs.declared.look.Found.{Found}

-- a clause that was taken in hand, by how many literals it has; these are at most n, all in range
abbrev pub taken_clause : ℕ → List ℤ → Option ℕ → Option (List ℤ)
taken_clause n ws None = None
taken_clause n ws (Some k) = Some (clause_of n k ws)

abbrev pub TakenWhole : ℕ → List ℤ → Option ℕ → Type 0
TakenWhole n ws None = Unit {0}
TakenWhole n ws (Some k) = (k ≤ n) × InRange n ws k

-- the clause of k literals in hand stands on the trail as said; its unassigned literal is one of them
abbrev pub StandsSo : ℕ → Trail → List ℤ → ℕ → Assertion → Type 0
StandsSo n t ws k Falsified = status (on t) (clause_of n k ws) ≡ falsified
StandsSo n t ws k (UnitOf i) = (i < k) × (status (on t) (clause_of n k ws) ≡ unit (word_at ws (clause_at n i)))

-- the found clause
abbrev pub found_clause : ℕ → List ℤ → Option Found → Option (List ℤ)
found_clause n ws None = None
found_clause n ws (Some f) = Some (clause_of n f.count ws)

-- it has at most n literals, all in range, and stands as said
pub record FoundWhole (n : ℕ) (t : Trail) (ws : List ℤ) (f : Found) : Type 0 where
  pub few : f.count ≤ n
  pub ranged : InRange n ws f.count
  pub stands : StandsSo n t ws f.count f.assertion

abbrev pub FoundSo : ℕ → Trail → List ℤ → Option Found → Type 0
FoundSo n t ws None = Unit {0}
FoundSo n t ws (Some f) = FoundWhole n t ws f
