-- The learned clause of a slot that was found.
use Rattle.std.specs.Prelude.{ℕ, ◌<◌, List, ℤ, Some, None, Option}
use Rattle.session.specs.Decode.{slot_of}

-- the clause in a slot, if there is one
abbrev pub learned_at : ℕ → List ℤ → Option ℕ → Option (List ℤ)
learned_at n ws None = None
learned_at n ws (Some s) = Some (slot_of n ws s)

-- the number, if there is one, is below the count
abbrev pub WithinCount : ℕ → Option ℕ → Type 0
WithinCount count None = Unit {0}
WithinCount count (Some i) = i < count
