use Rattle.std.proofs.Common.{◌≡◌, true, take}
use Rattle.rules.specs.Clauses.{status}
use Rattle.rules.specs.Rows.{ended, rows}
use Rattle.rules.specs.Sources.{true_in}
use Rattle.rules.specs.Values.{kind_of}
use Rattle.rules.specs.ClauseTelling.{sealed_clauses, row_answer}
use Rattle.rules.proofs.ClauseTells.{clause_told}
use Rattle.rules.proofs.clauses.SealedClauses.first_asserting.Given as goal

-- what is found so far and the clauses still to come give the answer
abbrev pub invariant-clauses : goal.invariant-clauses
invariant-clauses l = record {
  ended : ended l.row-iterator.rest.now ≡ true;
  answer : clause_told l.valuation (row_answer l.found) (rows l.row-iterator.rest.now) ≡ (sealed_clauses l.self).answer l.valuation;
}

-- the literals so far have this status
abbrev pub invariant-loop-literal : goal.invariant-loop-literal
invariant-loop-literal l = l.status ≡ kind_of (status (true_in l.valuation) (take l.literal-index l.clause))
