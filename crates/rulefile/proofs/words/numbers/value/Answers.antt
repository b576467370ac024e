use Rattle.std.proofs.Common.{ℕ, List, Iter, rules}
use Rattle.std.proofs.iter.Yields.{fronts}
use Rattle.rulefile.proofs.NumberLaws.{Folded, folded_start, folded_next, folded_more, folded_end, fold_keeps, fold_callable}
use Rattle.rulefile.proofs.words.numbers.value.Goals as goal

-- the number that is written by the digits before those that the iterator has left
abbrev so_far : List ℕ → Iter ℕ → Unit {0} × ℕ → Type 0
so_far digits s p = Folded digits s.rest.now p.1

pub fold-requires-clause-callable : goal.fold-requires-clause-callable
fold-requires-clause-callable c =
    let start = folded_start c.args.digits.now c.iter.result.rest.now (search rules) c.requires.digits c.requires.short in
    fold_callable fronts _ (so_far c.args.digits.now) (λ s u p q x i st r. folded_more _ _ _ x.now p.1 q.1 i st (search rules)) _
    (λ s u p x i st. let n = folded_next _ _ _ x.now p.1 i st in search rules) _ _ start

pub returns : goal.returns
returns c =
    let ran = c.fold.ensures.ran in
    let start = folded_start c.args.digits.now c.iter.result.rest.now (search rules) c.requires.digits c.requires.short in
    let all = fold_keeps fronts _ (so_far c.args.digits.now) (λ s u p q x i st r. folded_more _ _ _ x.now p.1 q.1 i st (search rules)) ran.0 _ ran.2.1.0 _ _ start ran.2.1.1 ran.3 in
    let end = folded_end _ _ _ all ran.2.1.2.0 in
    record { value = end.0; bound = end.1 }
