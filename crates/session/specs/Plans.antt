-- What a look leads to, by the words: what holds when a step is due, what the step makes of the position, and how a search ends.
use Rattle.std.specs.Prelude.{◌≡◌, ℕ, ◌<◌, ◌≤◌, true, List, [], ◌∷◌, length, ℤ, neg_ℤ, filter}
use Rattle.rules.specs.Clauses.{Status.falsified, Status.unit, status}
use Rattle.theory.specs.Trail.{Entry, Entry.assumed, Entry.decided, Entry.implied, Trail, on, free, assumed_literals}
use Rattle.theory.specs.Chunks.{in_chunk, touches, chunk}
use Rattle.theory.specs.Look.{Position}
use Rattle.theory.specs.Conflict.{Touched, others_of}
use Rattle.theory.specs.Search.{Guide, Verdict, Verdict.model, Verdict.refuted, Ends, Kind, Kind.assuming, Kind.deciding, Kind.implying, Kind.conflicting, placed, Step as StepTo}
use Rattle.std.specs.declared.ops.ControlFlow.{ControlFlow}
use Rattle.std.specs.declared.ops.ControlFlow.TheVariants.{Continue, Break}
use Rattle.session.specs.Words.{word_at, clause_at}
use Rattle.session.specs.Decode.{literal_at, trail_of, clause_of}
use Rattle.session.specs.InHand.{InRange}
use Rattle.session.specs.Repair.{Repairs}
use Rattle.session.specs.Memories.{trail_in, position_in, clause_in, FalsifiedInHand}
use Rattle.session.specs.declared.memory.Memory.{Memory}
use Rattle.session.specs.declared.plan.Step.{Step}
use Rattle.session.specs.declared.plan.Step.TheVariants.{Assume, Decide, Imply, Repair}
use Rattle.session.specs.declared.plan.End.{End}
use Rattle.session.specs.declared.plan.End.TheVariants.{Complete, Contradicted, Denied}

-- What holds where a unit clause is in hand, and where a falsified one is that touches the chunk of the decision at a place.
pub record UnitInHand (n : ℕ) (t : Trail) (ws : List ℤ) (count at : ℕ) : Type 0 where
  pub few : count ≤ n
  pub among : at < count
  pub ranged : InRange n ws count
  pub stands : status (on t) (clause_of n count ws) ≡ unit (word_at ws (clause_at n at))

pub record ConflictInHand (n len : ℕ) (ws : List ℤ) (count root : ℕ) : Type 0 where
  pub few : count ≤ n
  pub place : root < len
  pub stands : status (on (trail_of n len ws)) (clause_of n count ws) ≡ falsified
  pub touched : Touched (trail_of n len ws) (clause_of n count ws) (literal_at n ws root)

-- a step can be taken
abbrev pub Ready : Memory → Step → Type 0
Ready m (Assume i) = (i < m.extent.assumptions) × (free m.layout.variables (trail_in m) (word_at m.words.now i) ≡ true)
Ready m (Decide l) = free m.layout.variables (trail_in m) l ≡ true
Ready m (Imply count at) = UnitInHand m.layout.variables (trail_in m) m.words.now count at
Ready m (Repair count root) = ConflictInHand m.layout.variables m.extent.trail m.words.now count root

-- what taking a step came to: its kind, how many literals it undid, and the position
pub record Placed (p : Position) (e : Entry) (is k : Kind) (undone : ℕ) (p' : Position) : Type 0 where
  pub kind : k ≡ is
  pub none : undone ≡ 0
  pub leads : p' ≡ placed p e

pub record Undone (n L : ℕ) (p : Position) (C : List ℤ) (d : ℤ) (k : Kind) (undone : ℕ) (p' : Position) : Type 0 where
  pub kind : k ≡ conflicting
  pub many : undone ≡ length (chunk p.trail d)
  pub leads : Repairs n L p C d p'

abbrev pub Taken : Memory → Step → Kind → ℕ → Position → Type 0
Taken m (Assume i) = Placed (position_in m) (assumed (word_at m.words.now i)) assuming
Taken m (Decide l) = Placed (position_in m) (decided l) deciding
Taken m (Imply count at) = let l = word_at m.words.now (clause_at m.layout.variables at) in Placed (position_in m) (implied l (others_of l (clause_in m count))) implying
Taken m (Repair count root) = Undone m.layout.variables m.layout.slots (position_in m) (clause_in m count) (literal_at m.layout.variables m.words.now root)

-- What holds where a search ends: a falsified clause is in hand, or an assumption is false.
abbrev pub Conclusive : Memory → End → Type 0
Conclusive m Complete = Unit {0}
Conclusive m (Contradicted count) = FalsifiedInHand m count
Conclusive m (Denied i) = (i < m.extent.assumptions) × (on (trail_in m) (neg_ℤ (word_at m.words.now i)) ≡ true)

-- the verdict, and what is named
abbrev pub verdict_at : End → Verdict
verdict_at Complete = model
verdict_at (Contradicted count) = refuted
verdict_at (Denied i) = refuted

abbrev pub names_at : Memory → End → List ℤ
names_at m Complete = []
names_at m (Contradicted count) = filter (λ r. touches (trail_in m) r (clause_in m count)) (assumed_literals (trail_in m))
names_at m (Denied i) = word_at m.words.now i ∷ filter (λ r. in_chunk r (trail_in m) (neg_ℤ (word_at m.words.now i))) (assumed_literals (trail_in m))

-- A plan is right: its step can be taken, and whatever taking it comes to is a step by the rules; or the search ends so by the rules.
abbrev pub Planned : Guide → Memory → ControlFlow End Step → Type 0
Planned g m (Continue step) = Ready m step
    × ((k : Kind) (undone : ℕ) (p' : Position) → Taken m step k undone p' → StepTo m.layout.variables m.layout.slots g (position_in m) k undone p')
Planned g m (Break end) = Conclusive m end × Ends m.layout.variables g.source (position_in m) (verdict_at end) (names_at m end)
