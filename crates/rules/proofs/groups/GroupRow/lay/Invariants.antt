use Rattle.std.proofs.Common.{◌≡◌, ◌+◌, map, length, neg_ℤ}
use Rattle.rules.specs.Sources.{Answer.tells, page_after}
use Rattle.rules.proofs.groups.GroupRow.lay.Given as goal

-- the literals so far are laid into the room
abbrev pub invariant-loop-literal : goal.invariant-loop-literal
invariant-loop-literal l = record {
  now : l.now ≡ l.len + length l.yielded;
  room : l.room ≡ page_after l.len (tells (map neg_ℤ (map (λ y. y.now) l.yielded))) l.initial.room;
}
