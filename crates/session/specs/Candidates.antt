-- Which decision's chunk is chosen.
use Rattle.std.specs.Prelude.{ℕ, ◌<◌, Bool, false, List, ℤ, Some, None, Option}
use Rattle.weights.specs.Weighing.{total_weight}
use Rattle.theory.specs.Weighing.{Member, Weighing}
use Rattle.theory.specs.Trail.{Entry, Entry.assumed, Entry.decided, Entry.implied, Trail}
use Rattle.theory.specs.Chunks.{touches, in_chunk}
use Rattle.session.specs.Words.{word_at, trail_at}
use Rattle.session.specs.Decode.{trail_of, Marked}

-- chunks compare by what their members weigh together
abbrev pub by_total : {W : Type 0} → (W → W → Bool) → W → (W → W → W) → (Member → W) → Weighing
by_total at_most zero plus weight a b = at_most (total_weight zero plus weight a) (total_weight zero plus weight b)

-- whether an entry is decided and the clause touches its chunk
abbrev pub is_touched : Trail → List ℤ → Entry → Bool
is_touched t C (assumed l) = false
is_touched t C (decided l) = touches t l C
is_touched t C (implied l others) = false

-- the literal at a place of the trail, if there is one
abbrev pub decision_at : ℕ → List ℤ → Option ℕ → Option ℤ
decision_at n ws None = None
decision_at n ws (Some p) = Some (word_at ws (trail_at n p))

-- the place is one of the trail's
abbrev pub PlaceWithin : ℕ → Option ℕ → Type 0
PlaceWithin len None = Unit {0}
PlaceWithin len (Some p) = p < len

-- the place is one of the trail's, and the chunk of its literal is marked
abbrev pub PlaceMarked : ℕ → ℕ → List ℤ → List ℤ → Option ℕ → Type 0
PlaceMarked n len was now None = Unit {0}
PlaceMarked n len was now (Some p) = (p < len) × Marked n (trail_of n len was) (in_chunk (word_at was (trail_at n p)) (trail_of n len was)) now
