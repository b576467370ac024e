use Rattle.std.proofs.Common.{◌+◌, ◌-◌, arith}
use Rattle.session.specs.Words.{clause_at}
use Rattle.session.proofs.Reading.{part_from}
use Rattle.session.proofs.memory.Memory.clause.Goals as goal

pub returns : goal.returns
returns c =
    let m = c.args.self.now in
    let k = c.args.k in
    let h = c.requires in
    let big = m.sound.coherent.big in
    let start = c.clause-start.result in
    part_from m.words.now (clause_at m.layout.variables 0) k start (start + k - start) (omega arith) c.clause-start.ensures (omega arith)
