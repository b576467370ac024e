use Rattle.std.proofs.Common.{◌*◌, arith, rules}
use Rattle.session.proofs.Words.{wrote, outside_none, outside_more}
use Rattle.session.proofs.Planning.{frame_sound}
use Rattle.session.proofs.memory.Memory.recall_assumption.Goals as goal

pub invariant_of-self : goal.invariant_of-self
invariant_of-self c =
    let m = c.args.self.now in
    let n = m.layout.variables in
    let ws = m.words.now in
    let h = c.requires in
    let few = m.sound.few in
    let big = m.sound.coherent.big in
    let at = c.clause.ensures in
    record { sound = frame_sound m (4 * n) n _ (omega arith) (omega arith) (outside_more _ _ _ _ ws ws _ (omega arith) (omega arith) (outside_none _ _ ws) (wrote ws _ _ (omega arith))) (search rules) }
