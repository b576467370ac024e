use Rattle.std.proofs.Common.{◌≡◌, ◌+◌, ◌*◌, true, false, pos, ◌-ℤ◌, set, sym, refl, ap, ◌∙◌, subst, arith, w32, SFits, to_z, of_z}
use Rattle.session.specs.Words.{word_at, value_at}
use Rattle.session.specs.Analysis.{held, set_of}
use Rattle.std.proofs.lemmas.Bool.{and_right}
use Rattle.session.proofs.Planning.{frame_sound}
use Rattle.session.specs.Memories.{trail_in}
use Rattle.session.proofs.Collecting.{Collected, collected_skip, collected_add, negated, valued, valueless, value_front, collected_clause, collected_frame}
use Rattle.session.proofs.memory.Memory.collect.Goals as goal
use Rattle.session.proofs.memory.Memory.collect.Goals.{then-value-ne0+then-holds, else-value-ne0, else-value-ne0-via-then-value-ne0+else-holds, else-value-ne0-via-else-value-ne0}

pub overflow_sub-clause : goal.overflow_sub-clause
overflow_sub-clause c =
    let m = c.args.self.now in
    let x = c.loop-x.x in
    let v = value_front m c.split_at_mut-front.result.0.now x c.split_at_mut-front.ensures.front c.loop-x-test.true in
    subst (λ y. SFits w32 (pos 0 -ℤ to_z w32 (of_z w32 y))) (sym v.1) (negated (word_at m.words.now (value_at m.layout.variables x)) v.2).0

pub loop-x-preserved : goal.loop-x-preserved
loop-x-preserved c =
    let m = c.args.self.now in
    let n = m.layout.variables in
    let x = c.loop-x.x in
    let st = m.sound.coherent in
    let big = st.big in
    let B = held c.args.scratch.now in
    let u = c.loop-x.invariant in
    let back = c.split_at_mut-front.result.1.now in
    let s = c.split_at_mut-front.ensures in
    let v = value_front m c.split_at_mut-front.result.0.now x s.front c.loop-x-test.true in
    let z = word_at m.words.now (value_at n x) in
    let S = set_of (trail_in m) B in
    elim c.if-value-ne0.branch [
      | then-value-ne0+then-holds w ↦
          let b : B x ≡ true = sym w.holds.ensures ∙ w.if-holds.true in
          let q = valued z (λ e. w.if-value-ne0.true (ap (of_z w32) v.1 ∙ e)) in
          let inside = v.0 in
          let long = s.back_len in
          let most = u.most in
          let a = collected_add _ _ _ x c.loop-x.count B m.words.now back c.loop-x.clause st inside u (rw (b, q) refl) (omega arith) in
          let e = ap (λ y. to_z w32 (of_z w32 (pos 0 -ℤ to_z w32 (of_z w32 y)))) v.1 ∙ (negated z v.2).1 in
          rw (w.clause-is, w.count-is) (subst (λ y. Collected (x + 1) (c.loop-x.count + 1) S back (set c.loop-x.clause c.loop-x.count y)) (sym e) a)
      | else-value-ne0 w ↦ rw (w.clause-is, w.count-is) (
          collected_skip _ _ _ x c.loop-x.count B m.words.now back c.loop-x.clause st v.0 u (
          elim w.else-value-ne0.branch [
            | else-value-ne0-via-then-value-ne0+else-holds w' ↦ rw (sym w'.holds.ensures ∙ w'.if-holds.false) refl
            | else-value-ne0-via-else-value-ne0 w' ↦ rw (valueless z v.2 (ap (of_z w32) (sym v.1) ∙ w'.if-value-ne0.false)) (and_right (B x) false refl)
          ]))
    ]

pub invariant_of-self : goal.invariant_of-self
invariant_of-self c =
    let m = c.args.self.now in
    let s = c.split_at_mut-front.ensures in
    let f = collected_frame m (held c.args.scratch.now) c.loop-x.x c.loop-x.count c.split_at_mut-front.result.0.now c.split_at_mut-front.result.1.now c.loop-x.clause s.front s.back c.loop-x.auto.x-end c.loop-x-test.false c.loop-x.invariant in
    record { sound = frame_sound m (4 * m.layout.variables) m.layout.variables _ (omega arith) (omega arith) f.1 f.0 }

pub returns-clause-clause : goal.returns-clause-clause
returns-clause-clause c =
    let s = c.split_at_mut-front.ensures in
    collected_clause c.args.self.now (held c.args.scratch.now) c.loop-x.x c.loop-x.count c.split_at_mut-front.result.0.now c.split_at_mut-front.result.1.now c.loop-x.clause s.front s.back c.loop-x.auto.x-end c.loop-x-test.false c.loop-x.invariant
