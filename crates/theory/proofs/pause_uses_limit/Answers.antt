use Rattle.theory.proofs.RunLaws.{paused_at_limit}
use Rattle.theory.proofs.pause_uses_limit.Goals as goal

pub returns : goal.returns
returns c = paused_at_limit
