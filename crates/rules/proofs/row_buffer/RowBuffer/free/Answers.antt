use Rattle.std.proofs.Common.{◌-◌, length, sym, ap}
use Rattle.rules.proofs.RowBuffers.{draft_end}
use Rattle.rules.proofs.row_buffer.RowBuffer.free.Goals as goal

pub returns : goal.returns
returns c = let b = c.args.self.now in ap (λ k. length b.words.now - k) (sym (draft_end b))
