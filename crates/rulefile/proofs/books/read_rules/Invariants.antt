use Rattle.std.proofs.Common.{◌≡◌, length}
use Rattle.rules.specs.ClauseFilling as C
use Rattle.rules.specs.GroupFilling as G
use Rattle.rulefile.specs.Ahead.{ahead}
use Rattle.rulefile.specs.Outcomes.{rules_in, between, books, fresh, filled, SameSizes}
use Rattle.rulefile.proofs.books.read_rules.Given as goal

abbrev pub invariant-loop-start : goal.invariant-loop-start
invariant-loop-start l = record {
  clauses : C.clean (C.filling l.clauses) ≡ C.filling l.clauses;
  groups : G.clean (G.filling l.groups) ≡ G.filling l.groups;
  read : filled (fresh l.fn.variables (C.filling l.fn.clauses).size (G.filling l.fn.groups).size) (rules_in l.fn.count between (ahead l.fn.reader)) ≡ filled (books l.clauses l.groups) (rules_in l.left between (ahead l.reader));
  sized : SameSizes l.fn.clauses l.clauses l.fn.groups l.groups;
}

abbrev pub decreases-loop-start : goal.decreases-loop-start
decreases-loop-start l = length (ahead l.reader)
