use Rattle.theory.proofs.Uniqueness.{chunk_decided}
use Rattle.theory.proofs.chunk_decided.Goals as goal

pub returns : goal.returns
returns c = chunk_decided
