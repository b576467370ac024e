use Rattle.theory.specs.Calls.{Call.close, Reply.done, State.closed, Next.closes}
use Rattle.session.specs.Sessions.{idle_state}
use Rattle.session.proofs.Promising.{promised}
use Rattle.session.proofs.states.Idle.close.Goals as goal

pub returns-clause-promised : goal.returns-clause-promised
returns-clause-promised c = let s = c.args.self in promised s.layout.variables s.layout.slots (idle_state s) close done closed tt closes
