use Rattle.std.proofs.Common.{◌-◌, ◌*◌, ◌<◌, take, sym, refl, ap, ◌∙◌, arith}
use Rattle.theory.proofs.Choice.{first_least}
use Rattle.session.specs.Memories.{trail_in, clause_in}
use Rattle.session.proofs.Choosing.{decisions_with, decisions_without}
use Rattle.session.proofs.Planning.{framed_next, marks_falsified, marks_touched, marks_marked}
use Rattle.session.proofs.memory.Memory.latest.Goals as goal

pub touched_at-requires-clause-falsified : goal.touched_at-requires-clause-falsified
touched_at-requires-clause-falsified c = marks_falsified c.args.self.now c.loop-place.self c.args.k c.loop-place.invariant.frame c.requires

pub returns-then-touched_at-clause-chosen : goal.returns-then-touched_at-clause-chosen
returns-then-touched_at-clause-chosen c =
    let m = c.args.self.now in
    let q = c.loop-place.place in
    let p = q - 1 in
    let i = c.loop-place.invariant in
    let h = c.loop-place-test.true in
    let hit = sym (marks_touched m c.loop-place.self c.args.k i.frame c.requires.0 p (omega arith) _ c.if-touched_at.ensures.is) in
    λ le. ap (λ ds. first_least le (take 1 ds)) (sym (decisions_with m.layout.variables m.words.now (trail_in m) (clause_in m c.args.k) p q (omega arith) hit) ∙ i.all)

pub returns-then-touched_at-clause-marked : goal.returns-then-touched_at-clause-marked
returns-then-touched_at-clause-marked c =
    let m = c.args.self.now in
    let p = c.loop-place.place - 1 in
    let h = c.loop-place-test.true in
    let within : p < m.extent.trail = omega arith in
    (within, marks_marked m c.loop-place.self c.loop-place.invariant.frame p within _ (c.if-touched_at.ensures.marked refl))

pub loop-place-preserved : goal.loop-place-preserved
loop-place-preserved c =
    let m = c.args.self.now in
    let n = m.layout.variables in
    let mid = c.loop-place.self in
    let q = c.loop-place.place in
    let p = q - 1 in
    let i = c.loop-place.invariant in
    let h = c.loop-place-test.true in
    let within : p < m.extent.trail = omega arith in
    let e = c.if-touched_at.ensures in
    let miss = sym (marks_touched m mid c.args.k i.frame c.requires.0 p within _ e.is) in
    record {
      all = sym (decisions_without n m.words.now (trail_in m) (clause_in m c.args.k) p q (omega arith) miss) ∙ i.all;
      frame = framed_next (λ x. 5 * x) (λ x. x) m mid _ i.frame e.frame;
    }
