use Rattle.weights.specs.Choosing.{by_weight}
use Rattle.weights.proofs.Choosing.{choice_unique}
use Rattle.weights.proofs.chooser.Chooser.chosen.Goals as goal

pub returns-clause-only : goal.returns-clause-only
returns-clause-only g c = λ row other. choice_unique (by_weight g.W.Order.at_most) row _ other
