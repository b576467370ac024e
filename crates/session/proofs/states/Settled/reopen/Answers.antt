use Rattle.theory.specs.Calls.{Call.reopen, Reply.done, State.idle, Next.reopens}
use Rattle.session.specs.Decode.{assumptions_of}
use Rattle.session.specs.Sessions.{settled_state}
use Rattle.session.proofs.Calling.{ranged_all}
use Rattle.session.proofs.Promising.{promised}
use Rattle.session.proofs.states.Settled.reopen.Goals as goal

pub invariant_of-result : goal.invariant_of-result
invariant_of-result c =
    let m = c.args.self.progress.memory in
    record { room = m.sound.coherent.big; few = m.sound.few; ranged = ranged_all m.layout.variables m.extent.assumptions m.words.now m.sound.ranged }

pub returns-clause-promised : goal.returns-clause-promised
returns-clause-promised c =
    let s = c.args.self in
    let m = s.progress.memory in
    promised m.layout.variables m.layout.slots (settled_state s) reopen done (idle (assumptions_of m.extent.assumptions m.words.now)) tt reopens
