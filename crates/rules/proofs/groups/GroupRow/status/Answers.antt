use Rattle.std.proofs.Common.{◌≡◌, true, false, length, ℤ, filter, sym, ◌∙◌, rules}
use borrow.Author.Tests.{tests}
use Rattle.std.proofs.lemmas.Iterator.{YieldsList-from_slice}
use Rattle.std.proofs.lemmas.Iterator.Consumers.{YieldsList-at, YieldsList-from_filter, count_from_yields_List}
use Rattle.std.proofs.lemmas.Iterator.Search.{any_from_yields_List}
use Rattle.rules.specs.Sources.{true_in}
use Rattle.rules.specs.GroupTelling.{group_in, is_value}
use Rattle.rules.specs.Values.{value_in}
use Rattle.rules.specs.declared.literal.Value.TheVariants.{True, Unassigned}
use Rattle.rules.proofs.GroupTells.{stands_over, stands_below, stands_at}
use Rattle.rules.proofs.groups.GroupRow.status.Goals as goal
use Rattle.rules.proofs.groups.GroupRow.status.Goals.{After-count-holding, else-holding-self-2-via-then-holding-self-2+else-any, else-holding-self-2-via-else-holding-self-2}

-- how many of the literals are true
counted : (c : After-count-holding) → c.count-holding.result ≡ length (filter (λ l. is_value True (value_in (true_in c.args.valuation.now) l)) c.args.self.now.literals.now)
counted c =
    let ls = c.args.self.now.literals.now in
    let p = λ (l : ℤ). is_value True (value_in (true_in c.args.valuation.now) l) in
    count_from_yields_List _ c.count-holding.result c.count-holding.ensures.ran (
    YieldsList-from_filter _ p (YieldsList-at c.filter.ensures.source (YieldsList-from_slice ls c.iter.ensures.rest)) c.filter.ensures.closure (λ x b q k. search (rules, tests)))

pub returns-then-holding-self : goal.returns-then-holding-self
returns-then-holding-self c =
    let e = counted (goal.at.returns-then-holding-self c).After-count-holding in
    stands_over (true_in c.args.valuation.now) (group_in c.args.self.now) c.count-holding.result e c.if-holding-self.true

pub returns-then-any : goal.returns-then-any
returns-then-any c =
    let ls = c.args.self.now.literals.now in
    let f = true_in c.args.valuation.now in
    stands_at f (group_in c.args.self.now) c.count-holding.result (counted (goal.at.returns-then-any c).After-count-holding) true c.if-holding-self-2.true (sym c.if-any.true
    ∙ any_from_yields_List (λ l. is_value Unassigned (value_in f l)) _ _ _ c.any.ensures.ran (YieldsList-from_slice ls c.iter-then-holding-self-2.ensures.rest) (λ x b q k. search (rules, tests)))

pub returns-else-holding-self-2 : goal.returns-else-holding-self-2
returns-else-holding-self-2 c =
    let ls = c.args.self.now.literals.now in
    let f = true_in c.args.valuation.now in
    let G = group_in c.args.self.now in
    let n = c.count-holding.result in
    let e = counted (goal.at.returns-else-holding-self-2 c).After-count-holding in
    elim c.else-holding-self-2.branch [
      | else-holding-self-2-via-then-holding-self-2+else-any w ↦ stands_at f G n e false w.if-holding-self-2.true (sym w.if-any.false
          ∙ any_from_yields_List (λ l. is_value Unassigned (value_in f l)) _ _ _ w.any.ensures.ran (YieldsList-from_slice ls w.iter-then-holding-self-2.ensures.rest) (λ x b q k. search (rules, tests)))
      | else-holding-self-2-via-else-holding-self-2 w ↦ stands_below f G n e c.if-holding-self.false w.if-holding-self-2.false
    ]
