use Rattle.theory.proofs.RunLaws.{runs_join}
use Rattle.theory.proofs.runs_join.Goals as goal

pub returns : goal.returns
returns c = runs_join
