use Rattle.std.proofs.Common.{◌≡◌, take}
use Rattle.rules.specs.Clauses.{status}
use Rattle.rules.specs.Sources.{true_in}
use Rattle.rules.specs.Values.{kind_of}
use Rattle.session.proofs.clause.clause_status.Given as goal

-- the literals so far have this status
abbrev pub invariant-loop-literal : goal.invariant-loop-literal
invariant-loop-literal l = l.status ≡ kind_of (status (true_in l.values) (take l.literal-index l.clause))
