use Rattle.std.proofs.Common.{refl, ap, ◌∙◌, rules}
use Rattle.std.proofs.lemmas.Result.{err_from_is_err_and}
use Rattle.rulefile.proofs.FormLaws.{number_shorter, pushes_more}
use Rattle.rulefile.proofs.books.push_literals.Goals as goal

pub loop-number-preserved : goal.loop-number-preserved
loop-number-preserved g c =
    let book = g.B.Book in (
      c.loop-number.invariant.0 ∙ pushes_more book.pushed _ _ c.loop-number.number.value _ (search rules) (search rules) c.push.ensures _ c.in_ok-number.ensures.taken,
      ap book.size c.push.ensures ∙ g.met.B.Book.keeps_size _ _ ∙ c.loop-number.invariant.1,
    )

pub loop-number-smaller : goal.loop-number-smaller
loop-number-smaller g c = number_shorter _ _ _ c.in_ok-number.ensures.taken

pub returns-in_err-number-clause-pushed : goal.returns-in_err-number-clause-pushed
returns-in_err-number-clause-pushed g c =
    let book = g.B.Book in
    let p = err_from_is_err_and c.from_residual.result c.from_residual.ensures.1 in
    c.loop-number.invariant.0 ∙ pushes_more book.pushed _ _ c.loop-number.number.value _ (search rules) (search rules) c.push.ensures _ c.in_err-number.ensures.taken ∙ (rw (p.1, p.2) refl)
