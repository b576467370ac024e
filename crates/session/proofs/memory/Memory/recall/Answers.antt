use Rattle.std.proofs.Common.{◌+◌, ◌*◌, sym, ap, ◌∙◌, arith, rules}
use Rattle.session.specs.Words.{words_from, row_at, Outside}
use Rattle.session.proofs.Planning.{frame_sound}
use Rattle.session.proofs.Words.{copied_words, copied_outside, outside_wider}
use Rattle.session.proofs.memory.Memory.recall.Goals as goal
use Rattle.session.proofs.memory.Memory.recall.Goals.{After-copy_within}

-- only the clause in hand changed
recalled_outside : (c : After-copy_within) → Outside (4 * c.args.self.now.layout.variables) c.args.self.now.layout.variables c.args.self.now.words.now c.copy_within.new.self
recalled_outside c =
    let e = c.clause-clause.ensures in
    let f = c.slot_count-count.ensures.few in
    let copied = c.copy_within.ensures.by_index in
    outside_wider _ _ (4 * c.args.self.now.layout.variables) c.args.self.now.layout.variables c.args.self.now.words.now c.copy_within.new.self (omega arith) (omega arith)
    (copied_outside c.args.self.now.words.now c.copy_within.new.self c.slot-start.result c.clause-clause.result c.slot_count-count.result copied.1 copied.2)

pub invariant_of-self : goal.invariant_of-self
invariant_of-self c = record { sound = frame_sound c.args.self.now (4 * c.args.self.now.layout.variables) c.args.self.now.layout.variables _ (omega arith) (omega arith) (recalled_outside (goal.at.invariant_of-self c).After-copy_within) (search rules) }

pub returns-clause-clause : goal.returns-clause-clause
returns-clause-clause c =
    let n = c.args.self.now.layout.variables in
    let was = c.args.self.now.words.now in
    let now = c.copy_within.new.self in
    let s = c.args.slot in
    let k = c.slot_count-count.result in
    let e = c.clause-clause.ensures in
    let many = c.slot_count-count.ensures.is in
    let f = c.slot_count-count.ensures.few in
    let copied = c.copy_within.ensures.by_index in
    ap (λ b. words_from now b k) (sym e) ∙ copied_words was now c.slot-start.result c.clause-clause.result k copied.0
    ∙ ap (λ b. words_from was b k) c.slot-start.ensures.at ∙ ap (words_from was (row_at n (n + s) 1)) many
