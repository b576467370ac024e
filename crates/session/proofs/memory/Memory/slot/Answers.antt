use Rattle.std.proofs.Common.{◌+◌, ◌-◌, arith}
use Rattle.session.specs.Words.{row_at}
use Rattle.session.specs.Decode.{slot_count}
use Rattle.session.proofs.Reading.{part_from}
use Rattle.session.proofs.memory.Memory.slot.Goals as goal

pub returns : goal.returns
returns c =
    let m = c.args.self.now in
    let n = m.layout.variables in
    let s = c.args.slot in
    let start = c.slot-start.result in
    let room = c.slot-start.ensures.room in
    let few = c.slot_count.ensures.few in
    let big = m.sound.coherent.big in
    part_from m.words.now (row_at n (n + s) 1) (slot_count n m.words.now s) start (start + c.slot_count.result - start) (omega arith) c.slot-start.ensures.at (omega arith)
