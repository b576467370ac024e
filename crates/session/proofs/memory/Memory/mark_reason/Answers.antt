use Rattle.std.proofs.Common.{sym, arith}
use Rattle.std.proofs.lemmas.Bool.{and_parts}
use Rattle.session.specs.Decode.{reason_of, trail_of, marked_index}
use Rattle.session.proofs.Decode.{front_formed, reason_false, false_range}
use Rattle.session.proofs.memory.Memory.mark_reason.Goals as goal

pub mark_variables-requires-clause-ranged : goal.mark_variables-requires-clause-ranged
mark_variables-requires-clause-ranged c =
    let m = c.args.self.now in
    let n = m.layout.variables in
    let ws = m.words.now in
    let x = c.variable-x.result in
    let w = m.sound.coherent.formed in
    let p = c.args.place in
    let h = c.requires in
    let f = reason_false n m.extent.trail ws w p h x c.variable-x.ensures.is (and_parts (marked_index n ws x) _ (sym c.if-is_marked_as.ensures)).1 in
    rw (c.reason.ensures, c.reason_count-count.ensures) (false_range n (trail_of n p ws) (front_formed n m.extent.trail ws w p (omega arith)) (reason_of n ws x) f)
