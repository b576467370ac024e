use Rattle.std.proofs.Common.{[]}
use Rattle.theory.specs.Calls.{Call.clear, Reply.done, State.idle, Next.clears}
use Rattle.session.specs.Sessions.{idle_state}
use Rattle.session.proofs.Promising.{promised}
use Rattle.session.proofs.states.Idle.clear.Goals as goal

pub returns-clause-promised : goal.returns-clause-promised
returns-clause-promised c = let s = c.args.self.now in promised s.layout.variables s.layout.slots (idle_state s) clear done (idle []) tt clears
