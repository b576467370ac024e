use Rattle.std.proofs.Common.{◌<◌, arith}
use Rattle.session.proofs.Recalling.{many_in_hand, unit_in_hand, falsified_in_hand}
use Rattle.session.proofs.memory.Memory.assertion_of.Goals as goal

pub returns-in-Some : goal.returns-in-Some
returns-in-Some c =
    let m = c.args.self.now in
    let r = c.requires in
    let found = c.in-Some.ensures in
    let short = found.0 in
    let long = many_in_hand _ m.layout.slots _ _ m.sound.coherent c.args.count r.ranged r.asserting c.clause.result.now c.values.result.now c.clause.ensures c.values.ensures in
    let h : c.in-Some.open < c.args.count = omega arith in
    (h, unit_in_hand _ m.layout.slots _ _ m.sound.coherent c.args.count r.ranged r.asserting c.clause.result.now c.values.result.now c.clause.ensures c.values.ensures c.in-Some.open h found.1)

pub returns-in-None : goal.returns-in-None
returns-in-None c =
    let m = c.args.self.now in
    let r = c.requires in
    let long = many_in_hand _ m.layout.slots _ _ m.sound.coherent c.args.count r.ranged r.asserting c.clause.result.now c.values.result.now c.clause.ensures c.values.ensures in
    falsified_in_hand _ m.layout.slots _ _ m.sound.coherent c.args.count r.ranged r.asserting c.clause.result.now c.values.result.now c.clause.ensures c.values.ensures (λ i l. c.in-None.ensures i (omega arith))
