use Rattle.std.proofs.Common.{◌≡◌, ℕ, true, ◌||◌, ℤ, All, sym, ap, ◌∙◌, subst, ◌*◌}
use Rattle.rules.specs.Literals.{in_range, has}
use Rattle.theory.specs.Trail.{assumed_literals}
use Rattle.theory.specs.Chunks.{in_chunk}
use Rattle.session.specs.Words.{words_from, clause_at}
use Rattle.session.specs.Decode.{marked_index, marked}
use Rattle.session.specs.InUse.{trail_at}
use Rattle.session.specs.Analysis.{names_index}
use Rattle.session.specs.Naming.{marks_member}
use Rattle.session.specs.Memories.{trail_in, clause_in}
use Rattle.session.proofs.Decode.{all_false, false_range}
use Rattle.session.proofs.Planning.{rebased, framed_next, marks_clause}
use Rattle.session.proofs.Rooting.{begun, named}
use Rattle.session.proofs.memory.Memory.mark_roots.Goals as goal

pub mark_variables-requires-clause-ranged : goal.mark_variables-requires-clause-ranged
mark_variables-requires-clause-ranged c =
    let m = c.args.self.now in
    let mid = c.clear_marks.new.self in
    let k = c.args.k in
    let f = c.clear_marks.ensures.frame in
    rw c.clause.ensures (subst (All (λ l. in_range mid.layout.variables l ≡ true)) (sym (marks_clause m mid k f c.requires.0))
    (subst (λ y. All (λ l. in_range y.variables l ≡ true) (clause_in m k)) (sym f.layout) (false_range m.layout.variables (trail_in m) m.sound.coherent.formed (clause_in m k) (all_false (trail_in m) (clause_in m k) c.requires.1))))

pub returns-clause-named : goal.returns-clause-named
returns-clause-named c =
    let m = c.args.self.now in
    let n = m.layout.variables in
    let k = c.args.k in
    let clear = c.clear_marks.new.self in
    let begins = c.mark_variables.new.self in
    let ends = c.mark_reasons.new.self in
    let f = c.clear_marks.ensures.frame in
    let g = framed_next (λ j. 5 * j) (λ j. j) m clear begins f c.mark_variables.ensures.frame in
    let at : c.clause.result ≡ clause_at n 0 = c.clause.ensures ∙ ap (λ y. clause_at y.variables 0) f.layout in
    let first : (x : ℕ) → marked_index n begins.words.now x ≡ (marked_index n clear.words.now x || names_index (words_from clear.words.now c.clause.result k) x)
    = subst (λ y. (x : ℕ) → marked_index y.variables begins.words.now x ≡ (marked_index y.variables clear.words.now x || names_index (words_from clear.words.now c.clause.result k) x)) f.layout c.mark_variables.ensures.marked in
    let b = begun n m.layout.slots m.extent.trail k m.words.now c.requires.0 m.sound.coherent clear.words.now begins.words.now c.clause.result c.clear_marks.ensures.cleared f.outside at first in
    named n m.layout.slots m.extent.trail k m.words.now c.requires.0 m.sound.coherent begins.words.now ends.words.now g.outside (all_false (trail_in m) (clause_in m k) c.requires.1) b
    (rebased m begins g.layout g.extent
    (λ y e. (r : ℤ) → has (assumed_literals (trail_at y e begins.words.now)) r ≡ true
    → marked y.variables ends.words.now r ≡ marks_member (marked_index y.variables begins.words.now) (in_chunk r (trail_at y e begins.words.now)) (trail_at y e begins.words.now)) c.mark_reasons.ensures.marked)
