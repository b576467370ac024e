use Rattle.std.proofs.Common.{◌≡◌, ◌+◌, true, All, sym, subst}
use Rattle.rules.specs.Literals.{in_range}
use Rattle.session.specs.Words.{clause_at, row_at}
use Rattle.session.specs.Decode.{slot_count}
use Rattle.session.proofs.Words.{words_all, all_words}
use Rattle.session.proofs.memory.Memory.recall_first.Goals as goal

pub returns-clause-whole : goal.returns-clause-whole
returns-clause-whole c =
    let m = c.args.self.now in
    let n = m.layout.variables in
    let was = m.words.now in
    let s = c.in_ok-slot.slot in
    let k = c.recall.result in
    let e = c.in_ok-slot.ensures in
    let all = words_all (λ l. in_range n l ≡ true) was (row_at n (n + s) 1) (slot_count n was s) (λ i h. m.sound.stored.ranged s i e.within h) in
    (c.recall.ensures.few, all_words (λ l. in_range n l ≡ true) c.recall.new.self.words.now (clause_at n 0) k (subst (All (λ l. in_range n l ≡ true)) (sym c.recall.ensures.clause) all))
