use Rattle.std.proofs.Common.{◌≡◌, [], ◌∷◌, ◌++◌, sym, subst, rules}
use Rattle.weights.specs.Choosing.{Choice, by_weight, offered}
use Rattle.weights.proofs.Choosing.{choice_offered}
use Rattle.weights.proofs.chooser.Chooser.offer.Goals as goal

pub returns-clause-choice : goal.returns-clause-choice
returns-clause-choice g c = λ row h.
    let at_most = by_weight g.W.Order.at_most in
    let laws = g.met.W.Order in
    let x = c.args.candidate in
    let step : c.match-earlier.kept ≡ offered at_most c.args.self.now.kept x = search rules in
    subst (Choice at_most (row ++ (x ∷ []))) (sym step) (choice_offered at_most (λ x y. laws.total x.weight y.weight) (λ x y z. laws.chain x.weight y.weight z.weight) row _ x h)
