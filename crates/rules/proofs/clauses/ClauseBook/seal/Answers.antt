use Rattle.std.proofs.Common.{◌≡◌, true, sym, subst}
use Rattle.std.specs.List.{list_all}
use Rattle.rules.specs.Sources.{Lawful}
use Rattle.rules.specs.Books.{clause_book, clause_fits}
use Rattle.rules.specs.RowBuffers.{content}
use Rattle.rules.proofs.ClauseLaws.{clause_book_lawful}
use Rattle.rules.proofs.clauses.ClauseBook.seal.Goals as goal

pub invariant_of-result : goal.invariant_of-result
invariant_of-result c =
    let b = c.args.self in
    let n = b.buffer.variables in
    let e = sym c.into_rows.ensures.rows in
    record {
      ends = c.into_rows.ensures.ends;
      fits = subst (λ rs. list_all (clause_fits n) rs ≡ true) e b.fit;
      lawful = subst (λ rs. Lawful (clause_book n rs)) e (clause_book_lawful n (content b.buffer).standing b.fit);
    }
