use Rattle.session.specs.Memories.{trail_in}
use Rattle.session.proofs.Decisions.{none_preferred, first_preferred, decides_free}
use Rattle.session.proofs.memory.Memory.next_decision.Goals as goal

pub returns-in-None : goal.returns-in-None
returns-in-None c =
    let n = c.args.self.now.layout.variables in
    let t = trail_in c.args.self.now in
    let d = none_preferred n t c.args.preferences.now c.in-None.ensures c.lowest_free.result c.lowest_free.ensures in
    record { decides = d; unassigned = decides_free n t c.args.preferences.now c.lowest_free.result d }

pub returns-in_default : goal.returns-in_default
returns-in_default c =
    let n = c.args.self.now.layout.variables in
    let t = trail_in c.args.self.now in
    let d = first_preferred n t c.args.preferences.now c.first_free.result c.first_free.ensures c.in_default.not-None in
    record { decides = d; unassigned = decides_free n t c.args.preferences.now c.first_free.result d }
