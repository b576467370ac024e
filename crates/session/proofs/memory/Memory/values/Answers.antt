use Rattle.std.proofs.Common.{◌-◌, ◌*◌, arith}
use Rattle.session.proofs.Reading.{values_are}
use Rattle.session.proofs.memory.Memory.values.Goals as goal

pub returns : goal.returns
returns c =
    let m = c.args.self.now in
    let n = m.layout.variables in
    values_are n m.layout.slots m.extent.trail m.words.now m.sound.coherent (4 * n - 3 * n) (omega arith)
