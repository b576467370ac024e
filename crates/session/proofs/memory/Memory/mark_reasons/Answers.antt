use Rattle.std.proofs.Common.{◌≡◌, ℕ, ◌-◌, ◌*◌, ◌<◌, refl, ◌∙◌, subst, arith}
use Rattle.session.specs.Decode.{entry_at, marked_index}
use Rattle.session.specs.Naming.{with_reason}
use Rattle.session.specs.Memories.{trail_in, Framed}
use Rattle.session.proofs.Words.{outside_none}
use Rattle.session.proofs.Planning.{framed_both}
use Rattle.session.proofs.Rooting.{walk_none, walk_back}
use Rattle.session.proofs.memory.Memory.mark_reasons.Goals as goal

pub loop-place-init : goal.loop-place-init
loop-place-init c =
    let m = c.args.self.now in
    record {
      marked = λ r a. walk_none m.layout.variables (trail_in m) m.sound.coherent.formed r a (marked_index m.layout.variables m.words.now);
      frame = record { layout = refl; extent = refl; size = refl; outside = outside_none _ _ _ };
    }

pub loop-place-preserved : goal.loop-place-preserved
loop-place-preserved c =
    let m = c.args.self.now in
    let n = m.layout.variables in
    let mid = c.loop-place.self in
    let now = c.mark_reason.new.self in
    let q = c.loop-place.place in
    let p = q - 1 in
    let i = c.loop-place.invariant in
    let h = c.loop-place-test.true in
    let within : p < m.extent.trail = omega arith in
    let e = c.mark_reason.ensures in
    let step = subst (λ y. (x : ℕ) → marked_index y.variables now.words.now x ≡ with_reason (marked_index y.variables mid.words.now) (entry_at y.variables mid.words.now p) x) i.frame.layout e.marked in
    record {
      marked = λ r a. walk_back n m.layout.slots m.extent.trail m.words.now mid.words.now now.words.now m.sound.coherent i.frame.outside p q (omega arith) within step r a ∙ i.marked r a;
      frame = framed_both (5 * n) n m mid now i.frame (subst (λ y. Framed (5 * y.variables) y.variables mid now) i.frame.layout e.frame);
    }
