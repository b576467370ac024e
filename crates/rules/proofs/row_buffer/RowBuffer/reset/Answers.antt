use Rattle.std.proofs.Common.{◌+◌, drop, replicate, pos, ap, ◌∙◌, arith, length-append, length-take-le, length-drop, rules}
use Rattle.rules.specs.Rows.{is_zero}
use Rattle.rules.proofs.RowLaws.{pass_append, zeros_are}
use Rattle.rules.proofs.RowBuffers.{filled_zeros}
use Rattle.rules.proofs.row_buffer.RowBuffer.reset.Goals as goal

pub invariant_of-self-clause-zeros : goal.invariant_of-self-clause-zeros
invariant_of-self-clause-zeros c =
    let b = c.args.self.now in
    pass_append is_zero c.fill.new.self (drop (b.used + b.len) b.words.now) (filled_zeros _ c.fill.new.self (c.fill.ensures.after (λ y e. search rules))) b.zeros

pub returns-clause-words : goal.returns-clause-words
returns-clause-words c =
    let b = c.args.self.now in
    let rest = drop (b.used + b.len) b.words.now in
    zeros_are _ (pass_append is_zero c.fill.new.self rest (filled_zeros _ c.fill.new.self (c.fill.ensures.after (λ y e. search rules))) b.zeros)
    ∙ ap (λ k. replicate k (pos 0))
    (omega (arith, length-append c.fill.new.self rest, length-take-le (b.used + b.len) b.words.now b.within, length-drop (b.used + b.len) b.words.now, c.fill.ensures.len, b.within))
