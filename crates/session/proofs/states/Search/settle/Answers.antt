use Rattle.theory.specs.Calls.{Call.settle, Reply.done, State.settled, Next.settles}
use Rattle.session.specs.Searches.{search_in}
use Rattle.session.specs.Sessions.{search_state}
use Rattle.session.proofs.Promising.{promised}
use Rattle.session.proofs.states.Search.settle.Goals as goal

pub returns-clause-promised : goal.returns-clause-promised
returns-clause-promised c =
    let s = c.args.self in
    let m = s.progress.memory in
    promised m.layout.variables m.layout.slots (search_state s) settle done (settled (search_in s.progress)) tt settles
