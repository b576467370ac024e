use Rattle.std.proofs.Common.{◌≡◌, ◌-◌, ◌*◌, length, ◌∙◌, subst, arith, rules}
use borrow.Rule.Slice.PartMut.{put_mid}
use Rattle.session.specs.Words.{Outside}
use Rattle.session.proofs.Words.{part_word_put, part_outside}
use Rattle.session.proofs.Planning.{frame_sound}
use Rattle.session.proofs.memory.Memory.clear_marks.Goals as goal

pub invariant_of-self : goal.invariant_of-self
invariant_of-self c =
    let m = c.args.self.now in
    let n = m.layout.variables in
    let ws = m.words.now in
    let big = m.sound.coherent.big in
    let k = 6 * n - 5 * n in
    let many : length c.fill.new.self ≡ k = search rules in
    let same : k ≡ n = omega arith in
    record { sound = frame_sound m (5 * n) n (put_mid (5 * n) k ws c.fill.new.self) (omega arith) (omega arith) (subst (λ j. Outside (5 * n) j ws (put_mid (5 * n) k ws c.fill.new.self)) same (part_outside ws c.fill.new.self (5 * n) k (omega arith) many)) (search rules) }

pub returns-clause-cleared : goal.returns-clause-cleared
returns-clause-cleared c =
    let n = c.args.self.now.layout.variables in
    let big = c.args.self.now.sound.coherent.big in
    λ x h. part_word_put c.args.self.now.words.now c.fill.new.self (5 * n) (6 * n - 5 * n) (omega arith) (search rules) x (omega arith) ∙ search rules
