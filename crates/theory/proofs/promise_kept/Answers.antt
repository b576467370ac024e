use Rattle.theory.proofs.Theorem.{promise_kept}
use Rattle.theory.proofs.promise_kept.Goals as goal

pub returns : goal.returns
returns c = promise_kept
