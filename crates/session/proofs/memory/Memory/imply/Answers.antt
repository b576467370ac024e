use Rattle.std.proofs.Common.{◌+◌, ◌≤◌, sym, ap, ◌∙◌, subst, arith}
use Rattle.session.specs.Words.{clause_at}
use Rattle.session.specs.Decode.{clause_of}
use Rattle.session.proofs.Words.{words_same}
use Rattle.session.proofs.memory.Memory.imply.Goals as goal

pub returns-clause-clause : goal.returns-clause-clause
returns-clause-clause c =
    let n = c.args.self.now.layout.variables in
    let k = c.args.k in
    let few = c.requires.few in
    let mid = c.set_reason.new.self in
    let f = c.set_reason.ensures.frame in
    c.place.ensures.clause k (subst (λ y. k ≤ y.variables) (sym f.layout) few) ∙ ap (λ y. clause_of y.variables k mid.words.now) f.layout
    ∙ words_same c.args.self.now.words.now mid.words.now (clause_at n 0) (clause_at n 0) k (λ i h. f.outside.below (clause_at n 0 + i) (omega arith))
