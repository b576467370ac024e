use Rattle.std.proofs.Common.{◌≡◌, rules}
use Rattle.rulefile.specs.Words.{seen_in}
use Rattle.rulefile.specs.Outcomes.{books, outcome, told}
use Rattle.rules.specs.ClauseFilling as C
use Rattle.rules.specs.GroupFilling as G
use Rattle.rulefile.proofs.Theorem.{judged}
use Rattle.rulefile.proofs.FindingLaws.{found}
use Rattle.rulefile.proofs.books.read.Goals as goal

pub returns-in_err-variables-clause-judged : goal.returns-in_err-variables-clause-judged
returns-in_err-variables-clause-judged c =
    let e : told c.from_residual.result (books c.reset.new.self c.reset-2.new.self) ≡ outcome (C.filling c.args.clauses.now).size (G.filling c.args.groups.now).size (seen_in c.args.text.now) = search rules in
    judged c.from_residual.result _ _ _ _ e

pub returns-clause-judged : goal.returns-clause-judged
returns-clause-judged c =
    let e : told c.read_rest.result (books c.read_rest.new.clauses c.read_rest.new.groups) ≡ outcome (C.filling c.args.clauses.now).size (G.filling c.args.groups.now).size (seen_in c.args.text.now) = search rules in
    judged c.read_rest.result _ _ _ _ e

pub returns-in_err-variables-clause-found : goal.returns-in_err-variables-clause-found
returns-in_err-variables-clause-found c =
    let e : told c.from_residual.result (books c.reset.new.self c.reset-2.new.self) ≡ outcome (C.filling c.args.clauses.now).size (G.filling c.args.groups.now).size (seen_in c.args.text.now) = search rules in
    found c.args.text.now c.from_residual.result _ _ _ e

pub returns-clause-found : goal.returns-clause-found
returns-clause-found c =
    let e : told c.read_rest.result (books c.read_rest.new.clauses c.read_rest.new.groups) ≡ outcome (C.filling c.args.clauses.now).size (G.filling c.args.groups.now).size (seen_in c.args.text.now) = search rules in
    found c.args.text.now c.read_rest.result _ _ _ e
