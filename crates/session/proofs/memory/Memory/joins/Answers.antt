use Rattle.std.proofs.Common.{◌≡◌, true, All, sym, subst, arith, rules}
use Rattle.rules.specs.Literals.{in_range}
use Rattle.session.specs.Decode.{reason_of, trail_of}
use Rattle.session.proofs.Decode.{front_formed, reason_false, false_range}
use Rattle.session.proofs.memory.Memory.joins.Goals as goal

pub any_marked-requires : goal.any_marked-requires
any_marked-requires c =
    let m = c.args.self.now in
    let n = m.layout.variables in
    let ws = m.words.now in
    let x = c.variable-x.result in
    let w = m.sound.coherent.formed in
    let p = c.args.place in
    let h = c.requires.within in
    subst (All (λ l. in_range n l ≡ true)) (sym c.reason.ensures)
    (false_range n (trail_of n p ws) (front_formed n m.extent.trail ws w p (omega arith)) (reason_of n ws x) (reason_false n m.extent.trail ws w p h x c.variable-x.ensures.is (search rules)))
