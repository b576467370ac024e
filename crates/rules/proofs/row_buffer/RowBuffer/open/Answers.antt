use Rattle.std.proofs.Common.{length, rules}
use Rattle.rules.proofs.RowBuffers.{filled_zeros}
use Rattle.rules.proofs.row_buffer.RowBuffer.open.Goals as goal

pub invariant_of-result-clause-zeros : goal.invariant_of-result-clause-zeros
invariant_of-result-clause-zeros c = filled_zeros (length c.args.words.now) c.fill.new.self (search rules)
