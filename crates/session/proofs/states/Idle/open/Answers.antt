use Rattle.theory.specs.Promise.{History.opening}
use Rattle.session.proofs.states.Idle.open.Goals as goal

pub returns-clause-opens : goal.returns-clause-opens
returns-clause-opens c = record { history = opening; lawful = tt }
