-- What a sealed book of clauses means.
use Rattle.std.specs.Prelude.{List, ℤ, Some, None, Option}
use Rattle.std.specs.Borrow.{Bor}
use Rattle.rules.specs.Sources.{Answer, Answer.silent, Answer.tells, Meaning}
use Rattle.rules.specs.Books.{clause_book}
use Rattle.rules.specs.Rows.{rows}
use Rattle.rules.specs.declared.clauses.SealedClauses.{SealedClauses}

abbrev pub sealed_clauses : SealedClauses → Meaning
sealed_clauses b = clause_book b.variables (rows b.words.now)

-- the clause that was found, as an answer
abbrev pub row_answer : Option (Bor (List ℤ)) → Answer
row_answer None = silent
row_answer (Some clause) = tells clause.now
