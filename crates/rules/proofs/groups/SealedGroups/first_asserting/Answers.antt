use Rattle.std.proofs.Common.{◌≡◌, ◌-◌, true, ◌∷◌, map, length, take, sym, refl, ap, ◌∙◌, rules}
use Rattle.std.specs.List.{list_all}
use Rattle.std.proofs.lemmas.Fn.{always_returns_same}
use Rattle.rules.specs.Books.{Group}
use Rattle.rules.specs.Rows.{is_zero, ended, rows}
use Rattle.rules.specs.Sources.{true_in}
use Rattle.rules.specs.GroupRows.{as_group, group_row_fits}
use Rattle.rules.specs.GroupTelling.{group_in, group_answer}
use Rattle.rules.proofs.RowLaws.{first_row}
use Rattle.rules.proofs.GroupTells.{group_told, group_over, group_tight, group_other, fits_few, first_fits}
use Rattle.rules.proofs.groups.SealedGroups.first_asserting.Goals as goal
use Rattle.rules.proofs.groups.SealedGroups.first_asserting.Goals.{In-Some}

-- the words of a turn are the first row of those still to come, with its 0, and what follows them has ended
first : (c : In-Some) → (rows c.loop-words.words-iterator.rest.now ≡ take (length c.in-Some.words.now - 1) c.in-Some.words.now ∷ rows c.next.new.self.rest.now) × (ended c.next.new.self.rest.now ≡ true)
first c =
    let s = c.in-Some.ensures.steps in
    first_row _ _ _ s.1.0 s.0 s.1.1 (s.1.2 is_zero (always_returns_same _ _ _ (λ a r f' k. (search rules, refl)))).1 s.2 c.loop-words.invariant.ended

-- and that row fits, as do the others
fits : (c : In-Some) → let n = c.args.self.now.variables in
    (group_row_fits n (take (length c.in-Some.words.now - 1) c.in-Some.words.now) ≡ true) × (list_all (group_row_fits n) (rows c.next.new.self.rest.now) ≡ true)
fits c = first_fits c.args.self.now.variables _ _ _ (first c).0 c.loop-words.invariant.fits

pub of-group-requires : goal.of-group-requires
of-group-requires c =
    let i = (goal.at.of-group-requires c).In-Some in
    fits_few c.args.self.now.variables (take (length c.in-Some.words.now - 1) c.in-Some.words.now) c.args.self.now.few (fits i).0

pub loop-words-preserved-in-Unit : goal.loop-words-preserved-in-Unit
loop-words-preserved-in-Unit c =
    let v = c.args.valuation.now in
    let i = (goal.at.loop-words-preserved-in-Unit c).In-Some in
    let rest = map as_group (rows c.next.new.self.rest.now) in
    let found = group_answer (true_in v) c.loop-words.found in
    record {
      ended = (first i).1;
      fits = (fits i).1;
      answer = ap (λ o. group_told v (group_answer (true_in v) o) rest) c.or-found.ensures ∙ group_tight v c.loop-words.found c.of-group.result rest (sym c.status.ensures ∙ c.in-Unit.is)
          ∙ ap (λ (G : Group). group_told v found (G ∷ rest)) c.of-group.ensures ∙ ap (λ k. group_told v found (map as_group k)) (sym (first i).0) ∙ c.loop-words.invariant.answer;
    }

pub loop-words-preserved : goal.loop-words-preserved
loop-words-preserved c =
    let v = c.args.valuation.now in
    let i = (goal.at.loop-words-preserved c).In-Some in
    let rest = map as_group (rows c.next.new.self.rest.now) in
    let found = group_answer (true_in v) c.loop-words.found in
    record {
      ended = (first i).1;
      fits = (fits i).1;
      answer = group_other v found (group_in c.of-group.result) rest (sym c.status.ensures ∙ c.in-Other.is)
          ∙ ap (λ (G : Group). group_told v found (G ∷ rest)) c.of-group.ensures ∙ ap (λ k. group_told v found (map as_group k)) (sym (first i).0) ∙ c.loop-words.invariant.answer;
    }

pub returns-in-Falsified : goal.returns-in-Falsified
returns-in-Falsified c =
    let v = c.args.valuation.now in
    let i = (goal.at.returns-in-Falsified c).In-Some in
    let rest = map as_group (rows c.next.new.self.rest.now) in
    let found = group_answer (true_in v) c.loop-words.found in
    group_over v found (group_in c.of-group.result) rest (sym c.status.ensures ∙ c.in-Falsified.is)
    ∙ ap (λ (G : Group). group_told v found (G ∷ rest)) c.of-group.ensures ∙ ap (λ k. group_told v found (map as_group k)) (sym (first i).0) ∙ c.loop-words.invariant.answer
