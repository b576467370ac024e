use Rattle.std.proofs.Common.{◌-◌, ◌*◌, ◌<◌, fold, sym, refl, ap, ◌∙◌, subst, arith}
use Rattle.weights.specs.Choosing.{offered}
use Rattle.weights.specs.Weighing.{total_weight}
use Rattle.weights.specs.declared.chooser.Candidate.{Candidate}
use Rattle.theory.specs.Chunks.{chunk}
use Rattle.theory.proofs.Choice.{lighter}
use Rattle.session.specs.Decode.{literal_at, trail_of}
use Rattle.session.specs.Memories.{trail_in, clause_in}
use Rattle.session.specs.Candidates.{by_total, decision_at}
use Rattle.session.proofs.Choosing.{decisions_in, decisions_with, decisions_without, kept_place, KeptRight, offered_right, offered_decision}
use Rattle.session.proofs.Planning.{same_position, same_marked, framed_next, marks_falsified, marks_touched, marks_marked}
use Rattle.session.proofs.memory.Memory.lightest.Goals as goal

pub touched_at-requires-clause-falsified : goal.touched_at-requires-clause-falsified
touched_at-requires-clause-falsified g c = marks_falsified c.args.self.now c.loop-place.self c.args.k c.loop-place.invariant.frame c.requires

pub loop-place-preserved-then-touched_at : goal.loop-place-preserved-then-touched_at
loop-place-preserved-then-touched_at g c =
    let at_most = g.W.Weight.Order.at_most in
    let zero = g.W.Weight.Scale.zero in
    let plus = g.W.Weight.Scale.plus in
    let weight = g.W.Weigher.weight c.args.weigher.now in
    let m = c.args.self.now in
    let n = m.layout.variables in
    let len = m.extent.trail in
    let was = m.words.now in
    let mid = c.loop-place.self in
    let later = c.touched_at.new.self in
    let t = trail_in m in
    let C = clause_in m c.args.k in
    let q = c.loop-place.place in
    let p = q - 1 in
    let i = c.loop-place.invariant in
    let h = c.loop-place-test.true in
    let within : p < len = omega arith in
    let e = c.if-touched_at.ensures in
    let hit = sym (marks_touched m mid c.args.k i.frame c.requires.0 p within _ e.is) in
    let frame = framed_next (λ x. 5 * x) (λ x. x) m mid later i.frame e.frame in
    let d = literal_at n was p in
    let same = ap (λ a. a.trail) (same_position (5 * n) n m later frame (omega arith) (omega arith)) in
    let marked = marks_marked m mid i.frame p within later.words.now (e.marked refl) in
    let weighs = c.weigh_marked-weight.ensures.chunk d (same_marked m later frame d marked) ∙ ap (λ u. total_weight zero plus weight (chunk u d)) same in
    let kept = c.loop-place.chooser.kept in
    let new : Candidate g.row.W-Weight.Denot = record { place = p; weight = c.weigh_marked-weight.result } in
    let step = c.offer.ensures.step in
    let le = lighter (by_total at_most zero plus weight) t in
    let ds = decisions_in t C (trail_of n p was) in
    record {
      all = ap (λ o. fold (offered le) (decision_at n was (kept_place o)) ds) step
          ∙ ap (λ o. fold (offered le) o ds) (offered_decision at_most zero plus weight n len was t kept new i.kept (within, weighs))
          ∙ ap (fold (offered le) (decision_at n was (kept_place kept))) (sym (decisions_with n was t C p q (omega arith) hit)) ∙ i.all;
      kept = subst (KeptRight at_most zero plus weight n len was t) (sym step) (offered_right at_most zero plus weight n len was t kept new i.kept (within, weighs));
      frame = frame;
    }

pub loop-place-preserved : goal.loop-place-preserved
loop-place-preserved g c =
    let m = c.args.self.now in
    let n = m.layout.variables in
    let mid = c.loop-place.self in
    let q = c.loop-place.place in
    let p = q - 1 in
    let i = c.loop-place.invariant in
    let h = c.loop-place-test.true in
    let within : p < m.extent.trail = omega arith in
    let e = c.if-touched_at.ensures in
    let miss = sym (marks_touched m mid c.args.k i.frame c.requires.0 p within _ e.is) in
    let le = lighter (by_total g.W.Weight.Order.at_most g.W.Weight.Scale.zero g.W.Weight.Scale.plus (g.W.Weigher.weight c.args.weigher.now)) (trail_in m) in
    record {
      all = ap (fold (offered le) (decision_at n m.words.now (kept_place c.loop-place.chooser.kept))) (sym (decisions_without n m.words.now (trail_in m) (clause_in m c.args.k) p q (omega arith) miss)) ∙ i.all;
      kept = i.kept;
      frame = framed_next (λ x. 5 * x) (λ x. x) m mid _ i.frame e.frame;
    }
