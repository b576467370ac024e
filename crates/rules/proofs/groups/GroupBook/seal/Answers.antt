use Rattle.std.proofs.Common.{◌≡◌, true, map, sym, subst}
use Rattle.std.specs.List.{list_all}
use Rattle.rules.specs.Sources.{Lawful}
use Rattle.rules.specs.Books.{group_book}
use Rattle.rules.specs.GroupRows.{as_group, group_row_fits}
use Rattle.rules.specs.RowBuffers.{content}
use Rattle.rules.proofs.GroupLaws.{group_book_lawful, rows_fit}
use Rattle.rules.proofs.groups.GroupBook.seal.Goals as goal

pub invariant_of-result : goal.invariant_of-result
invariant_of-result c =
    let b = c.args.self in
    let n = b.buffer.variables in
    let all = (content b.buffer).standing in
    let e = sym c.into_rows.ensures.rows in
    record {
      ends = c.into_rows.ensures.ends;
      fits = subst (λ rs. list_all (group_row_fits n) rs ≡ true) e b.fit;
      lawful = subst (λ rs. Lawful (group_book n (map as_group rs))) e (group_book_lawful n (map as_group all) (rows_fit n all b.fit));
      few = b.buffer.few;
    }
