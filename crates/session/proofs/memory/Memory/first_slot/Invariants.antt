use Rattle.std.proofs.Common.{◌≡◌, ◌-◌, map}
use Rattle.std.specs.List.{range_with_len}
use Rattle.rules.specs.Sources.{Answer.silent}
use Rattle.theory.proofs.Looking.{look_after}
use Rattle.session.specs.Decode.{trail_of, slot_of, slots_of}
use Rattle.session.specs.Learned.{learned_at, WithinCount}
use Rattle.session.proofs.Recalling.{recalled}
use Rattle.session.proofs.memory.Memory.first_slot.Given as goal

abbrev pub invariant-loop-s : goal.invariant-loop-s
invariant-loop-s l =
    (recalled (trail_of l.self.layout.variables l.self.extent.trail l.self.words.now) (learned_at l.self.layout.variables l.self.words.now l.unit) (map (slot_of l.self.layout.variables l.self.words.now) (range_with_len l.s (l.self.extent.slots - l.s)))
    ≡ look_after silent (trail_of l.self.layout.variables l.self.extent.trail l.self.words.now) (slots_of l.self.layout.variables l.self.extent.slots l.self.words.now))
    × WithinCount l.self.extent.slots l.unit
