use Rattle.theory.proofs.Theorem.{runs_counted, steps_placed}
use Rattle.theory.proofs.steps_counted.Goals as goal

pub returns : goal.returns
returns c = (runs_counted, steps_placed)
