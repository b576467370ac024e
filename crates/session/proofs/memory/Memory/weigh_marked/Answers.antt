use Rattle.std.proofs.Common.{◌≡◌, ◌+◌, ◌-◌, ◌*◌, true, false, get_or, take, drop, pos, sym, ap, ◌∙◌, arith, w32, SFits, to_z, of_z, rules}
use Rattle.std.proofs.lemmas.Int.{to_z-of_z}
use Rattle.weights.specs.Weighing.{total_weight}
use Rattle.theory.specs.Chunks.{members}
use Rattle.session.specs.Words.{word_at, trail_at}
use Rattle.session.specs.Decode.{trail_of, marked}
use Rattle.session.proofs.Reading.{part_long, part_word}
use Rattle.session.proofs.Weighing.{total_in, total_out, chunk_marked}
use Rattle.session.proofs.memory.Memory.weigh_marked.Goals as goal
use Rattle.session.proofs.memory.Memory.weigh_marked.Goals.{then-is_marked, else-is_marked}

pub loop-place-preserved : goal.loop-place-preserved
loop-place-preserved g c =
    let zero = g.W.Weight.Scale.zero in
    let plus = g.W.Weight.Scale.plus in
    let weight = g.W.Weigher.weight c.args.weigher.now in
    let n = c.args.self.now.layout.variables in
    let ws = c.args.self.now.words.now in
    let p = c.loop-place.place in
    elim c.if-is_marked.branch [
      | then-is_marked w ↦
          let m : marked n ws (word_at ws (trail_at n p)) ≡ true = search rules in
          let k = 2 * n + c.args.self.now.extent.trail - 2 * n in
          let x = get_or (take k (drop (2 * n) ws)) p (pos 0) in
          let fits : SFits w32 x = search rules in
          let big = c.args.self.now.sound.coherent.big in
          let short = c.args.self.now.sound.coherent.fits in
          let long = part_long ws (2 * n) k (omega arith) in
          let literal : to_z w32 (of_z w32 x) ≡ word_at ws (trail_at n p) = to_z-of_z w32 x fits ∙ part_word ws (2 * n) k p (omega (arith, c.loop-place-test.true)) in
          w.sum-is ∙ w.plus-sum.ensures ∙ ap (λ a. plus a w.weigh.result) c.loop-place.invariant
          ∙ ap (plus _) (w.weigh.ensures ∙ ap weight (λ i. record { literal = literal i; standing = w.standing_at-standing.ensures i; place = p })) ∙ sym (total_in zero plus weight n ws (marked n ws) p m)
      | else-is_marked w ↦
          let m : marked n ws (word_at ws (trail_at n p)) ≡ false = search rules in
          w.sum-is ∙ c.loop-place.invariant ∙ sym (total_out zero plus weight n ws (marked n ws) p m)
    ]

pub returns-clause-chunk : goal.returns-clause-chunk
returns-clause-chunk g c =
    let zero = g.W.Weight.Scale.zero in
    let plus = g.W.Weight.Scale.plus in
    let weight = g.W.Weigher.weight c.args.weigher.now in
    let n = c.args.self.now.layout.variables in
    let ws = c.args.self.now.words.now in
    let big = c.args.self.now.sound.coherent.big in
    let fits = c.args.self.now.sound.coherent.fits in
    let long = part_long ws (2 * n) (2 * n + c.args.self.now.extent.trail - 2 * n) (omega arith) in
    let left = c.loop-place-test.false in
    let most = c.loop-place.auto.place-end in
    let all : c.loop-place.place ≡ c.args.self.now.extent.trail = omega arith in
    let sum = c.loop-place.invariant ∙ ap (λ q. total_weight zero plus weight (members (marked n ws) (trail_of n q ws))) all in
    λ d m. sum ∙ ap (total_weight zero plus weight) (chunk_marked n (trail_of n c.args.self.now.extent.trail ws) d ws m)
