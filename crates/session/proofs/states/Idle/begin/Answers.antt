use Rattle.std.proofs.Common.{◌≡◌, ℕ, ◌<◌, length, pos, sym, ap, subst, rules}
use Rattle.theory.specs.Calls.{Call.begin, Reply.done, State.searching, begun, Next.begins}
use Rattle.session.specs.Words.{word_at}
use Rattle.session.specs.Sessions.{standing, idle_state, Promised}
use Rattle.session.proofs.Clearing.{emptied_sound, emptied_assumptions}
use Rattle.session.proofs.Promising.{promised}
use Rattle.session.proofs.states.Idle.begin.Goals as goal

pub invariant_of-memory : goal.invariant_of-memory
invariant_of-memory c =
    let zero : (i : ℕ) → i < length c.fill.new.self → word_at c.fill.new.self i ≡ pos 0 = search rules in
    record { sound = emptied_sound c.args.self c.fill.new.self (search rules) zero }

pub returns-clause-search : goal.returns-clause-search
returns-clause-search c =
    let zero : (i : ℕ) → i < length c.fill.new.self → word_at c.fill.new.self i ≡ pos 0 = search rules in
    ap begun (emptied_assumptions c.args.self c.fill.new.self (search rules) zero)

pub returns-clause-promised : goal.returns-clause-promised
returns-clause-promised c =
    let s = c.args.self in
    let zero : (i : ℕ) → i < length c.fill.new.self → word_at c.fill.new.self i ≡ pos 0 = search rules in
    subst (λ q. Promised s.layout.variables s.layout.slots (idle_state s) begin done (searching q)) (sym (ap begun (emptied_assumptions s c.fill.new.self (search rules) zero)))
    (promised s.layout.variables s.layout.slots (idle_state s) begin done (searching (begun (standing s))) tt begins)
