use Rattle.theory.proofs.Theorem.{promise_kept_before}
use Rattle.theory.proofs.promise_kept_before.Goals as goal

pub returns : goal.returns
returns c = promise_kept_before
