use Rattle.theory.specs.Calls.{Call.verdict, Reply.found, Next.finds}
use Rattle.session.specs.Reports.{verdict_of}
use Rattle.session.specs.Sessions.{settled_state}
use Rattle.session.proofs.Promising.{promised}
use Rattle.session.proofs.states.Settled.verdict.Goals as goal

pub returns-clause-promised : goal.returns-clause-promised
returns-clause-promised c = let s = c.args.self.now in promised s.progress.memory.layout.variables s.progress.memory.layout.slots (settled_state s) verdict (found (verdict_of s.progress.verdict)) (settled_state s) tt finds
