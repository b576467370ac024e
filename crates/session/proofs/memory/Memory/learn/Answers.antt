use Rattle.std.proofs.Common.{◌≡◌, sym, ap, ◌∙◌, subst, arith, rules, set, pos, length-set, w32, to_z}
use Rattle.session.specs.Words.{words_from, Wrote, Outside}
use Rattle.session.specs.Memories.{clause_in}
use Rattle.session.proofs.Words.{wrote, copied_words, copied_outside}
use Rattle.session.proofs.Storing.{written_full, learned_sound, learned_position}
use Rattle.session.proofs.memory.Memory.learn.Goals as goal

pub returns-then-filled-layout-clause-position : goal.returns-then-filled-layout-clause-position
returns-then-filled-layout-clause-position c =
    let m = c.args.self.now in
    let e = c.if-filled-layout.true in
    rw (written_full m.layout.variables m.layout.slots m.extent.slots m.words.now (clause_in m c.args.k) (omega arith))

pub invariant_of-self : goal.invariant_of-self
invariant_of-self c =
    let m = c.args.self.now in
    let n = m.layout.variables in
    let L = m.layout.slots in
    let f = m.extent.slots in
    let was = m.words.now in
    let mid = c.copy_within.new.self in
    let now = set mid c.row.result (to_z w32 c.args.k) in
    let few = c.requires.few in
    let full = c.if-filled-layout.false in
    let within = m.sound.within in
    let big = m.sound.coherent.big in
    let e = c.clause-clause.ensures in
    let d = c.slot.ensures.at in
    let cw = c.copy_within.ensures.by_index in
    let cp = ap (λ b. words_from mid b c.args.k) (sym d) ∙ copied_words was mid c.clause-clause.result c.slot.result c.args.k cw.0 ∙ ap (λ b. words_from was b c.args.k) e in
    let o = subst (λ b. Outside b c.args.k was mid) d (copied_outside was mid c.clause-clause.result c.slot.result c.args.k cw.1 cw.2) in
    let long = c.copy_within.ensures.len in
    let below = c.row.ensures.below in
    let v : to_z w32 c.args.k ≡ pos c.args.k = search rules in
    let w = subst (λ b. Wrote b (pos c.args.k) mid now) c.row.ensures.at (subst (λ y. Wrote c.row.result y mid now) v (wrote mid c.row.result (to_z w32 c.args.k) (omega arith))) in
    record { sound = learned_sound n L m.extent.assumptions m.extent.trail f c.args.k (clause_in m c.args.k) was mid now m.sound few (omega arith) cp o w (length-set mid c.row.result (to_z w32 c.args.k) ∙ long) c.requires.ranged }

pub returns-clause-position : goal.returns-clause-position
returns-clause-position c =
    let m = c.args.self.now in
    let n = m.layout.variables in
    let L = m.layout.slots in
    let f = m.extent.slots in
    let was = m.words.now in
    let mid = c.copy_within.new.self in
    let now = set mid c.row.result (to_z w32 c.args.k) in
    let few = c.requires.few in
    let full = c.if-filled-layout.false in
    let within = m.sound.within in
    let big = m.sound.coherent.big in
    let e = c.clause-clause.ensures in
    let d = c.slot.ensures.at in
    let cw = c.copy_within.ensures.by_index in
    let cp = ap (λ b. words_from mid b c.args.k) (sym d) ∙ copied_words was mid c.clause-clause.result c.slot.result c.args.k cw.0 ∙ ap (λ b. words_from was b c.args.k) e in
    let o = subst (λ b. Outside b c.args.k was mid) d (copied_outside was mid c.clause-clause.result c.slot.result c.args.k cw.1 cw.2) in
    let long = c.copy_within.ensures.len in
    let below = c.row.ensures.below in
    let v : to_z w32 c.args.k ≡ pos c.args.k = search rules in
    let w = subst (λ b. Wrote b (pos c.args.k) mid now) c.row.ensures.at (subst (λ y. Wrote c.row.result y mid now) v (wrote mid c.row.result (to_z w32 c.args.k) (omega arith))) in
    learned_position n L m.extent.assumptions m.extent.trail f c.args.k (clause_in m c.args.k) was mid now m.sound few (omega arith) cp o w
