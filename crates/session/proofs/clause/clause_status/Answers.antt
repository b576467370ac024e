use Rattle.std.proofs.Common.{ap, ◌∙◌, get_or, pos, w32, rules}
use Rattle.std.proofs.lemmas.Int.{to_z-of_z}
use Rattle.rules.specs.Sources.{true_in}
use Rattle.rules.specs.Values.{value_in}
use Rattle.rules.proofs.Values.{status_next, status_left}
use Rattle.rules.proofs.Valuations.{one_true}
use Rattle.session.proofs.clause.clause_status.Goals as goal

pub loop-literal-preserved : goal.loop-literal-preserved
loop-literal-preserved c =
    let row = c.args.values.now in
    let C = c.args.clause.now in
    let i = c.loop-literal.literal-index in
    status_next (true_in row) (one_true row) C i c.loop-literal-test.true c.loop-literal.invariant
    (c.value_of.ensures ∙ ap (value_in (true_in row)) (to_z-of_z w32 (get_or C i (pos 0)) (search rules))) c.with-status.ensures

pub returns-then-eq : goal.returns-then-eq
returns-then-eq c =
    let row = c.args.values.now in
    let C = c.args.clause.now in
    let i = c.loop-literal.literal-index in
    status_left (true_in row) (one_true row) C i c.loop-literal-test.true c.loop-literal.invariant
    (c.value_of.ensures ∙ ap (value_in (true_in row)) (to_z-of_z w32 (get_or C i (pos 0)) (search rules))) c.with-status.ensures (search rules)
