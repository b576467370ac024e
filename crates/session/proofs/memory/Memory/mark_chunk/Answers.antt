use Rattle.std.proofs.Common.{◌≡◌, ◌<◌, sym, ap, ◌∙◌, subst, arith, ◌*◌, ℕ, pos, rules}
use Rattle.theory.specs.Chunks.{joins, in_chunk}
use Rattle.session.specs.Words.{word_at, index_of, trail_at, mark_at, Wrote}
use Rattle.session.specs.Decode.{literal_at, trail_of, entry_at, bit, marked, Marked}
use Rattle.session.proofs.Decode.{front_formed, place_at}
use Rattle.session.proofs.Marking.{nothing_marked, marked_more}
use Rattle.session.proofs.Planning.{framed_next, marks_marked}
use Rattle.session.proofs.memory.Memory.mark_chunk.Goals as goal

pub loop-place-init : goal.loop-place-init
loop-place-init c =
    let was = c.clear_marks.new.self in
    let n = was.layout.variables in
    let root = c.args.root in
    let st = was.sound.coherent in
    let rooted = subst (λ e. root < e.trail) (sym c.clear_marks.ensures.frame.extent) c.requires in
    record {
      frame = search rules;
      marked = nothing_marked n (trail_of n root was.words.now) (literal_at n was.words.now root) was.words.now (front_formed n was.extent.trail was.words.now st.formed root (omega arith))
          (place_at n was.extent.trail was.words.now st.formed root rooted).new
          (subst (λ y. (x : ℕ) → x < y.variables → word_at was.words.now (mark_at y.variables x) ≡ pos 0) (sym c.clear_marks.ensures.frame.layout) c.clear_marks.ensures.cleared);
    }

pub loop-place-preserved : goal.loop-place-preserved
loop-place-preserved c =
    let was = c.clear_marks.new.self in
    let mid = c.loop-place.self in
    let now = c.set_mark.new.self in
    let n = was.layout.variables in
    let root = c.args.root in
    let p = c.loop-place.place in
    let x = c.variable-x.result in
    let r = c.joins-joined.result in
    let f = c.loop-place.invariant.frame in
    let fits = was.sound.coherent.fits in
    let rooted = subst (λ e. root < e.trail) (sym c.clear_marks.ensures.frame.extent) c.requires in
    let is : x ≡ index_of (literal_at n mid.words.now p) = subst (λ y. x ≡ index_of (literal_at y.variables mid.words.now p)) f.layout c.variable-x.ensures.is in
    let j : r ≡ joins (literal_at n mid.words.now root) (marked n mid.words.now) (entry_at n mid.words.now p)
    = subst (λ y. r ≡ joins (literal_at y.variables mid.words.now root) (marked y.variables mid.words.now) (entry_at y.variables mid.words.now p)) f.layout c.joins-joined.ensures in
    let w : Wrote (mark_at n x) (bit r) mid.words.now now.words.now = subst (λ y. Wrote (mark_at y.variables x) (bit r) mid.words.now now.words.now) f.layout c.set_mark.ensures.wrote in
    let same = f.outside.below (trail_at n root) (omega arith) in
    record {
      frame = framed_next (λ k. 5 * k) (λ k. k) was mid now f c.set_mark.ensures.frame;
      marked = marked_more n was.layout.slots was.extent.trail _ was.words.now mid.words.now now.words.now was.sound.coherent f.outside p c.loop-place-test.true r c.loop-place.invariant.marked x is
          (j ∙ ap (λ d. joins d (marked n mid.words.now) (entry_at n mid.words.now p)) same) w;
    }

pub returns-clause-marked : goal.returns-clause-marked
returns-clause-marked c =
    let was = c.clear_marks.new.self in
    let n = was.layout.variables in
    let now = c.loop-place.self.words.now in
    let rooted = subst (λ e. c.args.root < e.trail) (sym c.clear_marks.ensures.frame.extent) c.requires in
    let e : c.loop-place.place ≡ was.extent.trail = omega arith in
    marks_marked c.args.self.now was c.clear_marks.ensures.frame c.args.root c.requires now
    (subst (λ p. Marked n (trail_of n p was.words.now) (in_chunk (literal_at n was.words.now c.args.root) (trail_of n p was.words.now)) now) e c.loop-place.invariant.marked)
