use Rattle.theory.proofs.RunLaws.{verdicts_agree}
use Rattle.theory.proofs.verdicts_agree.Goals as goal

pub returns : goal.returns
returns c = verdicts_agree
