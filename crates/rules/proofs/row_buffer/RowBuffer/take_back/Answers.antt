use Rattle.std.proofs.Common.{◌+◌, ◌-◌, ap, ◌∙◌, arith, rules}
use Rattle.std.proofs.lemmas.Slice.{take-put_mid_below}
use Rattle.rules.specs.Rows.{ended}
use Rattle.rules.proofs.RowBuffers.{filled_zeros, zeros_over}
use Rattle.rules.proofs.row_buffer.RowBuffer.take_back.Goals as goal

pub invariant_of-self-clause-ends : goal.invariant_of-self-clause-ends
invariant_of-self-clause-ends c =
    let b = c.args.self.now in
    ap ended (take-put_mid_below b.used (b.used + b.len - b.used) b.words.now c.fill.new.self b.used (omega arith) (omega (arith, b.within))) ∙ b.ends

pub invariant_of-self-clause-zeros : goal.invariant_of-self-clause-zeros
invariant_of-self-clause-zeros c =
    let b = c.args.self.now in
    zeros_over b.used b.len (b.used + 0) (b.used + b.len - b.used) b.words.now c.fill.new.self (omega (arith, b.within)) (omega arith) (omega arith)
    (filled_zeros _ c.fill.new.self (c.fill.ensures.after (λ y e. search rules))) b.zeros
