use Rattle.std.proofs.Common.{refl, ◌∙◌, rules}
use Rattle.std.proofs.lemmas.Result.{err_from_is_err_and}
use Rattle.rules.specs.GroupFilling.{filling}
use Rattle.rulefile.proofs.RuleLaws.{group_first, group_broken, group_ended}
use Rattle.rulefile.proofs.books.read_group.Goals as goal

pub returns-in_err-first-clause-read : goal.returns-in_err-first-clause-read
returns-in_err-first-clause-read c =
    let p = err_from_is_err_and c.from_residual-in_err-first.result c.from_residual-in_err-first.ensures.1 in
    group_first (filling c.args.book.now) _ _ _ _ c.in_ok-limit.ensures.taken _ c.in_err-first.ensures.taken ∙ (rw (p.1, p.2) refl)

pub returns-in_err-push_literals-clause-read : goal.returns-in_err-push_literals-clause-read
returns-in_err-push_literals-clause-read c =
    let p = err_from_is_err_and c.from_residual-in_err-push_literals.result c.from_residual-in_err-push_literals.ensures.1 in
    let b = filling c.args.book.now in
    let pushed = c.in_err-push_literals.ensures in
    group_first b _ _ _ _ c.in_ok-limit.ensures.taken _ c.in_ok-first.ensures.taken ∙ group_broken _ b _ _ _ pushed.pushed ∙ (rw (p.1, p.2) refl)

pub returns-clause-read : goal.returns-clause-read
returns-clause-read c =
    let b = filling c.args.book.now in
    let pushed = c.in_ok-push_literals.ensures in
    group_first b _ _ _ _ c.in_ok-limit.ensures.taken _ c.in_ok-first.ensures.taken
    ∙ group_ended _ b c.requires _ _ _ _ pushed.pushed _ c.end.ensures.answer _ c.end.ensures.after _ (search rules)
