use Rattle.rules.proofs.RowBuffers.{words_spelled}
use Rattle.rules.proofs.row_buffer.RowBuffer.words.Goals as goal

pub returns : goal.returns
returns c = words_spelled c.args.self.now
