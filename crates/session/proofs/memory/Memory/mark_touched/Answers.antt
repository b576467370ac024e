use Rattle.std.proofs.Common.{◌≡◌, true, All, sym, ap, ◌∙◌, subst}
use Rattle.rules.specs.Literals.{in_range}
use Rattle.theory.specs.Chunks.{in_chunk}
use Rattle.theory.proofs.Trails.{meets}
use Rattle.session.specs.Decode.{literal_at, marked}
use Rattle.session.specs.Memories.{trail_in, clause_in}
use Rattle.session.proofs.Decode.{all_false, false_range}
use Rattle.session.proofs.Marking.{marked_is, meets_false}
use Rattle.session.proofs.Planning.{marks_clause}
use Rattle.session.proofs.memory.Memory.mark_touched.Goals as goal

pub any_marked-requires : goal.any_marked-requires
any_marked-requires c =
    let m = c.args.self.now in
    let t = trail_in m in
    let f = c.mark_chunk.ensures.frame in
    let fa = c.requires.falsified in
    let C = c.clause.ensures ∙ marks_clause m c.mark_chunk.new.self c.args.k f fa.0 in
    subst (All (λ l. in_range c.mark_chunk.new.self.layout.variables l ≡ true)) (sym C)
    (subst (λ y. All (λ l. in_range y.variables l ≡ true) (clause_in m c.args.k)) (sym f.layout) (false_range m.layout.variables t m.sound.coherent.formed (clause_in m c.args.k) (all_false t (clause_in m c.args.k) fa.1)))

pub returns-clause-touches : goal.returns-clause-touches
returns-clause-touches c =
    let m = c.args.self.now in
    let n = m.layout.variables in
    let t = trail_in m in
    let now = c.mark_chunk.new.self in
    let f = c.mark_chunk.ensures.frame in
    let fa = c.requires.falsified in
    let d = literal_at n m.words.now c.args.root in
    c.any_marked.ensures ∙ ap (meets (marked now.layout.variables now.words.now)) (c.clause.ensures ∙ marks_clause m now c.args.k f fa.0)
    ∙ ap (λ y. meets (marked y.variables now.words.now) (clause_in m c.args.k)) f.layout
    ∙ meets_false t (marked n now.words.now) (in_chunk d t) (marked_is n t (in_chunk d t) now.words.now c.mark_chunk.ensures.marked) (clause_in m c.args.k) (all_false t (clause_in m c.args.k) fa.1)
