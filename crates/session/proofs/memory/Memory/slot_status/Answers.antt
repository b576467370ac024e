use Rattle.std.proofs.Common.{◌+◌, ◌≡◌, true, ap, ◌∙◌}
use Rattle.rules.specs.Literals.{in_range}
use Rattle.rules.specs.Values.{kind_of}
use Rattle.session.specs.Words.{row_at}
use Rattle.session.specs.Decode.{slot_count, slot_of}
use Rattle.session.proofs.Words.{words_all}
use Rattle.session.proofs.Recalling.{read_status}
use Rattle.session.proofs.memory.Memory.slot_status.Goals as goal

pub returns : goal.returns
returns c =
    let m = c.args.self.now in
    let n = m.layout.variables in
    let ws = m.words.now in
    let s = c.args.slot in
    c.clause_status.ensures ∙ ap kind_of (read_status n m.layout.slots m.extent.trail ws m.sound.coherent c.slot.result.now c.values.result.now (slot_of n ws s) c.slot.ensures c.values.ensures
    (words_all (λ l. in_range n l ≡ true) ws (row_at n (n + s) 1) (slot_count n ws s) (λ i h. m.sound.stored.ranged s i c.requires h)))
