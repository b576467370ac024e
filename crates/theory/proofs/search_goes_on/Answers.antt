use Rattle.theory.proofs.Answering.{end_or_step_there}
use Rattle.theory.proofs.search_goes_on.Goals as goal

pub returns : goal.returns
returns c = end_or_step_there
