use Rattle.theory.proofs.RunLaws.{long_runs_end}
use Rattle.theory.proofs.long_runs_end.Goals as goal

pub returns : goal.returns
returns c = long_runs_end
