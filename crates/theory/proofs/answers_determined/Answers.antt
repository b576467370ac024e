use Rattle.theory.proofs.Replies.{answers_determined}
use Rattle.theory.proofs.answers_determined.Goals as goal

pub returns : goal.returns
returns c = answers_determined
