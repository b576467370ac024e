use Rattle.std.proofs.Common.{rules}
use Rattle.rules.specs.ClauseFilling.{filling}
use Rattle.rulefile.proofs.RuleLaws.{clause_ended}
use Rattle.rulefile.proofs.books.read_clause.Goals as goal

pub returns-clause-read : goal.returns-clause-read
returns-clause-read c =
    let pushed = c.in_ok-push_literals.ensures in
    clause_ended (filling c.args.book.now) c.requires _ _ _ _ pushed.pushed _ c.end.ensures.answer _ c.end.ensures.after _ (search rules)
