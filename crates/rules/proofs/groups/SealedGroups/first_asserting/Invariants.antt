use Rattle.std.proofs.Common.{◌≡◌, true, map}
use Rattle.std.specs.List.{list_all}
use Rattle.rules.specs.Rows.{ended, rows}
use Rattle.rules.specs.Sources.{true_in}
use Rattle.rules.specs.GroupRows.{as_group, group_row_fits}
use Rattle.rules.specs.GroupTelling.{sealed_groups, group_answer}
use Rattle.rules.proofs.GroupTells.{group_told}
use Rattle.rules.proofs.groups.SealedGroups.first_asserting.Given as goal

-- what is found so far and the groups still to come give the answer
abbrev pub invariant-loop-words : goal.invariant-loop-words
invariant-loop-words l = record {
  ended : ended l.words-iterator.rest.now ≡ true;
  fits : list_all (group_row_fits l.self.variables) (rows l.words-iterator.rest.now) ≡ true;
  answer : group_told l.valuation (group_answer (true_in l.valuation) l.found) (map as_group (rows l.words-iterator.rest.now)) ≡ (sealed_groups l.self).answer l.valuation;
}
