use Rattle.theory.proofs.Answering.{calls_answered}
use Rattle.theory.proofs.calls_answered.Goals as goal

pub returns : goal.returns
returns c = calls_answered
