use Rattle.std.proofs.Common.{◌≡◌, eqb, set, pos, nat_abs, to_z, of_z, sym, ap, ◌∙◌, subst, arith, w32, SFits, rules}
use Rattle.std.proofs.lemmas.Int.{to_z-of_z}
use Rattle.session.specs.Words.{word_at, index_of, trail_at, mark_at, Wrote}
use Rattle.session.proofs.Words.{wrote}
use Rattle.session.proofs.Decode.{place_at}
use Rattle.session.proofs.Undoing.{Undone, undone_keep, undone_drop, undone_sound, undone_position}
use Rattle.session.proofs.memory.Memory.undo_marked.Goals as goal
use Rattle.session.proofs.memory.Memory.undo_marked.Goals.{then-is_mark, else-is_mark}

pub index_of-x-requires : goal.index_of-x-requires
index_of-x-requires c =
    let m = c.args.self.now in
    let fits : SFits w32 (word_at c.loop-place.words c.trail.result) = search rules in
    let f = m.sound.coherent.fits in
    let a = c.loop-place.invariant.ahead c.loop-place.place (omega arith) (omega arith) in
    rw (to_z-of_z w32 (word_at c.loop-place.words c.trail.result) fits, c.trail.ensures, a) (place_at _ _ _ m.sound.coherent.formed _ c.loop-place-test.true).in_reach

pub loop-place-preserved : goal.loop-place-preserved
loop-place-preserved c =
    let m = c.args.self.now in
    let n = m.layout.variables in
    let was = m.words.now in
    let ws = c.loop-place.words in
    let st = m.sound.coherent in
    let i = c.loop-place.invariant in
    let p = c.loop-place.place in
    let q = c.loop-place.left in
    let x = c.index_of-x.result in
    let below = c.index_of-x.ensures.below in
    let h = c.loop-place-test.true in
    let fits = st.fits in
    let fewer = i.fewer in
    let big = st.big in
    let long = c.loop-place.auto.words in
    let fl : SFits w32 (word_at ws c.trail.result) = search rules in
    let fm : SFits w32 (word_at ws c.mark.result) = search rules in
    let l : to_z w32 (of_z w32 (word_at ws c.trail.result)) ≡ word_at was (trail_at n p) = to_z-of_z w32 (word_at ws c.trail.result) fl ∙ ap (word_at ws) c.trail.ensures ∙ i.ahead p (omega arith) (omega arith) in
    let is = c.index_of-x.ensures.is ∙ ap index_of l in
    let t = c.is_mark.ensures ∙ ap (λ z. eqb (nat_abs z) 1) (to_z-of_z w32 (word_at ws c.mark.result) fm ∙ ap (word_at ws) c.mark.ensures ∙ i.out.above (mark_at n x) (omega arith)) in
    elim c.if-is_mark.branch [
      | then-is_mark w ↦
          let e = w.value.ensures in
          let now = set ws w.value.result (pos 0) in
          rw (w.words-is, w.left-is) (undone_drop n m.layout.slots m.extent.trail p q was ws st i h x is now (sym t ∙ w.if-is_mark.true) (subst (λ j. Wrote j (pos 0) ws now) e (wrote ws w.value.result (pos 0) (omega arith))))
      | else-is_mark w ↦
          let e = w.trail-else-is_mark.ensures in
          let v = to_z w32 (of_z w32 (word_at ws c.trail.result)) in
          let now = set ws w.trail-else-is_mark.result v in
          rw (w.words-is, w.left-is) (undone_keep n m.layout.slots m.extent.trail p q was ws st i h x is now (sym t ∙ w.if-is_mark.false)
          (subst (λ y. Wrote (trail_at n q) y ws now) l (subst (λ j. Wrote j v ws now) e (wrote ws w.trail-else-is_mark.result v (omega arith)))))
    ]

pub invariant_of-self : goal.invariant_of-self
invariant_of-self c =
    let m = c.args.self.now in
    let n = m.layout.variables in
    let e : c.loop-place.place ≡ m.extent.trail = omega arith in
    let u = subst (λ p. Undone n p c.loop-place.left m.words.now c.loop-place.words) e c.loop-place.invariant in
    record { sound = undone_sound n m.layout.slots m.extent.assumptions m.extent.trail m.extent.slots c.loop-place.left m.words.now c.loop-place.words m.sound u c.loop-place.auto.words c.requires }

pub returns-clause-position : goal.returns-clause-position
returns-clause-position c =
    let m = c.args.self.now in
    let n = m.layout.variables in
    let e : c.loop-place.place ≡ m.extent.trail = omega arith in
    let u = subst (λ p. Undone n p c.loop-place.left m.words.now c.loop-place.words) e c.loop-place.invariant in
    undone_position n m.layout.slots m.extent.assumptions m.extent.trail m.extent.slots c.loop-place.left m.words.now c.loop-place.words m.sound u
