use Rattle.theory.proofs.Played.{known_runs}
use Rattle.theory.proofs.known_runs_hold.Goals as goal

pub returns : goal.returns
returns c = known_runs
