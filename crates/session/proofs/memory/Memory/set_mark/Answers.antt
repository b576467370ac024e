use Rattle.std.proofs.Common.{◌*◌, arith, rules}
use Rattle.session.proofs.Words.{wrote, outside_none, outside_more}
use Rattle.session.proofs.Planning.{frame_sound}
use Rattle.session.proofs.memory.Memory.set_mark.Goals as goal

pub invariant_of-self : goal.invariant_of-self
invariant_of-self c =
    let m = c.args.self.now in
    let n = m.layout.variables in
    let ws = m.words.now in
    let h = c.requires in
    let big = m.sound.coherent.big in
    let at = c.mark.ensures in
    record { sound = frame_sound m (5 * n) n _ (omega arith) (omega arith) (outside_more _ _ _ _ ws ws _ (omega arith) (omega arith) (outside_none _ _ ws) (wrote ws _ _ (omega arith))) (search rules) }
