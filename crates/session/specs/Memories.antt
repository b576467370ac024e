-- What a memory stands for, and what is left of it.
use Rattle.std.specs.Prelude.{◌≡◌, ℕ, ◌≤◌, List, length, ℤ}
use Rattle.rules.specs.Clauses.{Status.falsified, status}
use Rattle.theory.specs.Trail.{Trail, on}
use Rattle.theory.specs.Look.{Position}
use Rattle.session.specs.Words.{Outside}
use Rattle.session.specs.Decode.{clause_of, slots_of}
use Rattle.session.specs.InUse.{trail_at, position_at}
use Rattle.session.specs.declared.memory.Memory.{Memory}

abbrev pub trail_in : Memory → Trail
trail_in m = trail_at m.layout m.extent m.words.now

abbrev pub position_in : Memory → Position
position_in m = position_at m.layout m.extent m.words.now

abbrev pub slots_in : Memory → List (List ℤ)
slots_in m = slots_of m.layout.variables m.extent.slots m.words.now

-- the clause in hand, of k literals
abbrev pub clause_in : Memory → ℕ → List ℤ
clause_in m k = clause_of m.layout.variables k m.words.now

-- the clause of k literals in hand is falsified
abbrev pub FalsifiedInHand : Memory → ℕ → Type 0
FalsifiedInHand m k = (k ≤ m.layout.variables) × (status (on (trail_in m)) (clause_in m k) ≡ falsified)

-- the same layout, as many assumptions and as many words
pub record Keeps (was now : Memory) : Type 0 where
  pub layout : now.layout ≡ was.layout
  pub assumptions : now.extent.assumptions ≡ was.extent.assumptions
  pub size : length now.words.now ≡ length was.words.now

-- the same layout and the same in use, and of the words only `count` from an address on may have changed
pub record Framed (base count : ℕ) (was now : Memory) : Type 0 where
  pub layout : now.layout ≡ was.layout
  pub extent : now.extent ≡ was.extent
  pub size : length now.words.now ≡ length was.words.now
  pub outside : Outside base count was.words.now now.words.now
