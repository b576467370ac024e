use Rattle.std.proofs.Common.{◌≡◌, ◌<◌, ◌≤◌, Bool, true, false, not, length, get_or, ℤ, pos, w32, SFits, to_z, of_z, refl, ap, arith, rules}
use Rattle.std.proofs.lemmas.Int.{to_z-of_z}
use Rattle.rules.specs.Literals.{same}
use Rattle.theory.specs.Conflict.{others_of}
use Rattle.session.proofs.Implying.{room_left, copied_add, copied_skip}
use Rattle.session.proofs.reasons.copy_others.Goals as goal
use Rattle.session.proofs.reasons.copy_others.Goals.{then-other-literal, else-other-literal}

pub bounds-room-count : goal.bounds-room-count
bounds-room-count c =
    let i = c.loop-other.invariant in
    let l = to_z w32 (of_z w32 c.args.literal) in
    let ls = c.args.clause.now in
    let q : same (get_or ls c.loop-other.other-index (pos 0)) l ≡ false = search rules in
    let r = room_left (λ k. not (same k l)) ls c.loop-other.other-index c.loop-other-test.true (ap not q) in
    let long = c.loop-other.auto.room in
    let h : length (others_of l ls) ≤ length c.args.room.now = search rules in
    omega (arith, i.count)

pub loop-other-preserved : goal.loop-other-preserved
loop-other-preserved c =
    let i = c.loop-other.invariant in
    let l = to_z w32 (of_z w32 c.args.literal) in
    let p : ℤ → Bool = λ k. not (same k l) in
    let ls = c.args.clause.now in
    let other = get_or ls c.loop-other.other-index (pos 0) in
    let fits : SFits w32 other = search rules in
    let inside = c.loop-other-test.true in
    elim c.if-other-literal.branch [
      | then-other-literal w ↦
          let q : same other l ≡ false = search rules in
          let r = room_left p ls c.loop-other.other-index inside (ap not q) in
          let long = c.loop-other.auto.room in
          let h : length (others_of l ls) ≤ length c.args.room.now = search rules in
          let b : c.loop-other.count < length c.args.room.now = omega (arith, i.count) in
          let a = copied_add p ls c.loop-other.room c.args.room.now c.loop-other.other-index c.loop-other.count other inside refl (ap not q) i.count b i.copied in
          rw (w.room-is, w.count-is, to_z-of_z w32 other fits) record { count = a.0; copied = a.1 }
      | else-other-literal w ↦
          let q : same other l ≡ true = search rules in
          rw (w.room-is, w.count-is, copied_skip p ls c.loop-other.other-index inside (ap not q)) i
    ]
