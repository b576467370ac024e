use Rattle.std.proofs.Common.{◌+◌, ◌-◌, arith}
use Rattle.session.specs.Words.{row_at}
use Rattle.session.specs.Decode.{reason_count}
use Rattle.session.proofs.Words.{row_below}
use Rattle.session.proofs.Reading.{part_from}
use Rattle.session.proofs.memory.Memory.reason.Goals as goal

pub returns : goal.returns
returns c =
    let m = c.args.self.now in
    let n = m.layout.variables in
    let ws = m.words.now in
    let x = c.args.x in
    let h = c.requires in
    let k = m.sound.coherent.counts x h in
    let big = m.sound.coherent.big in
    let r = row_below n m.layout.slots x (1 + reason_count n ws x) (omega arith) (omega arith) in
    let start = c.reason-start.result in
    let many = c.reason_count.ensures in
    part_from ws (row_at n x 2) (reason_count n ws x) start (start + c.reason_count.result - start) (omega arith) c.reason-start.ensures (omega arith)
