use Rattle.theory.proofs.Uniqueness.{look_determined, choice_determined, analysis_determined, end_determined, step_determined, end_or_step_only, run_determined}
use Rattle.theory.proofs.rules_determine.Goals as goal

pub returns : goal.returns
returns c = (look_determined, choice_determined, analysis_determined, end_determined, step_determined, end_or_step_only, run_determined)
