-- What of the weights a search sees: chunks by their members, and how two of them compare.
use Rattle.std.specs.Prelude.{Bool, List}
pub use Rattle.weights.specs.declared.weigher.Member.{Member}
pub use Rattle.weights.specs.declared.weigher.Standing.{Standing}
pub use Rattle.weights.specs.declared.weigher.Standing.TheVariants.{Assumed, Decided, Implied}
pub use Rattle.weights.specs.Orders.{Total, Chain}
pub use Rattle.weights.specs.declared.scales.Plain.{Plain}
pub use Rattle.weights.specs.Scales.{plain, plain_at_most, plain_plus}
pub use Rattle.weights.specs.Weighing.{total_weight}

-- Whether the one chunk weighs at most as much as the other, each given by its members in trail order.
abbrev pub Weighing : Type 0
Weighing = List Member → List Member → Bool

-- what the order of a scale gives: any two compare, and at most carries over a chain of three
abbrev pub Fair : Weighing → Type 0
Fair at_most = Total at_most × Chain at_most
