use Rattle.std.proofs.Common.{◌||◌, pos, take, sym, ap, ◌∙◌, add-one, take-suc, w32, SFits, rules, arith}
use Rattle.std.proofs.lemmas.Int.{to_z-of_z}
use Rattle.session.specs.Words.{word_at, index_of}
use Rattle.session.specs.Decode.{trail_of, marked_index}
use Rattle.session.specs.Analysis.{held, names_index}
use Rattle.session.proofs.Decode.{false_range}
use Rattle.session.proofs.Counting.{names_push, both_more}
use Rattle.session.proofs.memory.Memory.include_all.Goals as goal

pub index_of-requires : goal.index_of-requires
index_of-requires c =
    let n = c.args.self.now.layout.variables in
    let C = c.args.literals.now in
    let i = c.loop-literal.literal-index in
    let fits : SFits w32 (word_at C i) = search rules in
    rw (to_z-of_z w32 (word_at C i) fits) (false_range n _ c.requires.formed C c.requires.falsified i (pos 0) c.loop-literal-test.true)

pub loop-literal-preserved : goal.loop-literal-preserved
loop-literal-preserved c =
    let m = c.args.self.now in
    let n = m.layout.variables in
    let C = c.args.literals.now in
    let i = c.loop-literal.literal-index in
    let h = c.loop-literal-test.true in
    let v = c.loop-literal.invariant in
    let l = word_at C i in
    let fits : SFits w32 l = search rules in
    let e = c.index_of.ensures.is ∙ ap index_of (to_z-of_z w32 l fits) in
    let r = c.include-new.ensures in
    let s = r.small in
    let was = held c.args.scratch.now in
    record {
      holds = λ x. names_push was (held c.loop-literal.scratch) (held c.include-new.new.scratch) (take i C) l c.index_of.result e v.holds r.held x
          ∙ ap (λ D. was x || names_index D x) (sym (ap (λ k. take k C) (add-one i) ∙ take-suc C i (pos 0) h));
      counts = both_more (marked_index n m.words.now) was (held c.loop-literal.scratch) (held c.include-new.new.scratch) n (trail_of n c.args.place m.words.now) c.requires.formed l (c.requires.falsified i (pos 0) h) _ _ _ e r.held r.new v.counts;
      few = omega arith;
    }
