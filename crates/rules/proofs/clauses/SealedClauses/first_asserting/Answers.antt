use Rattle.std.proofs.Common.{◌≡◌, ◌-◌, length, get_or, take, pos, sym, refl, ap, ◌∙◌, take_all, w32, rules}
use Rattle.std.proofs.lemmas.Fn.{always_returns_same}
use Rattle.std.proofs.lemmas.Int.{to_z-of_z}
use Rattle.rules.specs.Rows.{is_zero, rows}
use Rattle.rules.specs.Clauses.{status}
use Rattle.rules.specs.Sources.{true_in}
use Rattle.rules.specs.Values.{value_in, kind_of}
use Rattle.rules.specs.ClauseTelling.{row_answer}
use Rattle.rules.proofs.RowLaws.{first_row}
use Rattle.rules.proofs.Valuations.{one_true}
use Rattle.rules.proofs.Values.{status_next, status_left}
use Rattle.rules.proofs.ClauseTells.{clause_told, clause_hit, clause_unit, clause_other}
use Rattle.rules.proofs.clauses.SealedClauses.first_asserting.Goals as goal
use Rattle.rules.proofs.clauses.SealedClauses.first_asserting.Goals.{else-loop-literal-test, then-loop-literal-test+then-eq}

pub loop-literal-preserved : goal.loop-literal-preserved
loop-literal-preserved c =
    let row = c.args.valuation.now in
    let C = take (length c.in-Some.row.now - 1) c.in-Some.row.now in
    status_next (true_in row) (one_true row) C c.loop-literal.literal-index c.loop-literal-test.true c.loop-literal.invariant
    (c.value_of.ensures ∙ ap (value_in (true_in row)) (to_z-of_z w32 (get_or C c.loop-literal.literal-index (pos 0)) (search rules))) c.with-status.ensures

pub clauses-preserved-in-Unit : goal.clauses-preserved-in-Unit
clauses-preserved-in-Unit c =
    let v = c.args.valuation.now in
    let s = c.in-Some.ensures.steps in
    let C = take (length c.in-Some.row.now - 1) c.in-Some.row.now in
    let first = first_row _ _ _ s.1.0 s.0 s.1.1 (s.1.2 is_zero (always_returns_same _ _ _ (λ a r f' k. (search rules, refl)))).1 s.2 c.clauses.invariant.ended in
    let is : c.loop-literal-test.status ≡ kind_of (status (true_in v) C) = elim c.loop-literal-test.branch [
      | else-loop-literal-test w ↦ w.status-is ∙ c.loop-literal.invariant ∙ ap (λ D. kind_of (status (true_in v) D)) (take_all c.loop-literal.literal-index C w.loop-literal-test.false)
      | then-loop-literal-test+then-eq w ↦
          status_left (true_in v) (one_true v) C c.loop-literal.literal-index w.loop-literal-test.true c.loop-literal.invariant
          (w.value_of.ensures ∙ ap (value_in (true_in v)) (to_z-of_z w32 (get_or C c.loop-literal.literal-index (pos 0)) (search rules))) (w.status-is ∙ w.with-status.ensures) (search rules)
    ] in
    let rest = rows c.next.new.self.rest.now in
    let all = ap (clause_told v (row_answer c.clauses.found)) (sym first.0) ∙ c.clauses.invariant.answer in
    record {
      ended = first.1;
      answer = ap (λ o. clause_told v (row_answer o) rest) c.or-found.ensures ∙ clause_unit v c.clauses.found _ c.loop-literal-test.status is rest c.in-Unit.is ∙ all;
    }

pub clauses-preserved : goal.clauses-preserved
clauses-preserved c =
    let v = c.args.valuation.now in
    let s = c.in-Some.ensures.steps in
    let C = take (length c.in-Some.row.now - 1) c.in-Some.row.now in
    let first = first_row _ _ _ s.1.0 s.0 s.1.1 (s.1.2 is_zero (always_returns_same _ _ _ (λ a r f' k. (search rules, refl)))).1 s.2 c.clauses.invariant.ended in
    let is : c.loop-literal-test.status ≡ kind_of (status (true_in v) C) = elim c.loop-literal-test.branch [
      | else-loop-literal-test w ↦ w.status-is ∙ c.loop-literal.invariant ∙ ap (λ D. kind_of (status (true_in v) D)) (take_all c.loop-literal.literal-index C w.loop-literal-test.false)
      | then-loop-literal-test+then-eq w ↦
          status_left (true_in v) (one_true v) C c.loop-literal.literal-index w.loop-literal-test.true c.loop-literal.invariant
          (w.value_of.ensures ∙ ap (value_in (true_in v)) (to_z-of_z w32 (get_or C c.loop-literal.literal-index (pos 0)) (search rules))) (w.status-is ∙ w.with-status.ensures) (search rules)
    ] in
    let all = ap (clause_told v (row_answer c.clauses.found)) (sym first.0) ∙ c.clauses.invariant.answer in
    record { ended = first.1; answer = clause_other v (row_answer c.clauses.found) C c.loop-literal-test.status is (rows c.next.new.self.rest.now) c.in-Other.is ∙ all }

pub returns-in-Falsified : goal.returns-in-Falsified
returns-in-Falsified c =
    let v = c.args.valuation.now in
    let s = c.in-Some.ensures.steps in
    let C = take (length c.in-Some.row.now - 1) c.in-Some.row.now in
    let first = first_row _ _ _ s.1.0 s.0 s.1.1 (s.1.2 is_zero (always_returns_same _ _ _ (λ a r f' k. (search rules, refl)))).1 s.2 c.clauses.invariant.ended in
    let is : c.loop-literal-test.status ≡ kind_of (status (true_in v) C) = elim c.loop-literal-test.branch [
      | else-loop-literal-test w ↦ w.status-is ∙ c.loop-literal.invariant ∙ ap (λ D. kind_of (status (true_in v) D)) (take_all c.loop-literal.literal-index C w.loop-literal-test.false)
      | then-loop-literal-test+then-eq w ↦
          status_left (true_in v) (one_true v) C c.loop-literal.literal-index w.loop-literal-test.true c.loop-literal.invariant
          (w.value_of.ensures ∙ ap (value_in (true_in v)) (to_z-of_z w32 (get_or C c.loop-literal.literal-index (pos 0)) (search rules))) (w.status-is ∙ w.with-status.ensures) (search rules)
    ] in
    let all = ap (clause_told v (row_answer c.clauses.found)) (sym first.0) ∙ c.clauses.invariant.answer in
    clause_hit v (row_answer c.clauses.found) C c.loop-literal-test.status is (rows c.next.new.self.rest.now) c.in-Falsified.is ∙ all
