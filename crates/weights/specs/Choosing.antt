use Rattle.std.specs.Prelude.{◌≡◌, Bool, true, false, cond, List, [], ◌∷◌, ◌++◌, Some, None, All, Option}
use Rattle.weights.specs.declared.chooser.Candidate.{Candidate}

-- candidates compare by weight
abbrev pub by_weight : {W : Type 0} → (W → W → Bool) → Candidate W → Candidate W → Bool
by_weight at_most x y = at_most x.weight y.weight

-- x is the first least of row: it stands there, it is at most each, and none that stands before it is at most it
pub record FirstLeast {X : Type 0} (at_most : X → X → Bool) (row : List X) (x : X) : Type 0 where
  pub before : List X
  pub after : List X
  pub stands : row ≡ before ++ (x ∷ after)
  pub least : All (λ y. at_most x y ≡ true) row
  pub first : All (λ y. at_most y x ≡ false) before

-- the choice from row: its first least, and nothing where row is empty
abbrev pub Choice : {X : Type 0} → (X → X → Bool) → List X → Option X → Type 0
Choice at_most row None = row ≡ []
Choice at_most row (Some x) = FirstLeast at_most row x

-- what is kept once x is offered too: the earlier one where that is at most x
abbrev pub offered : {X : Type 0} → (X → X → Bool) → Option X → X → Option X
offered at_most None x = Some x
offered at_most (Some kept) x = cond (at_most kept x) (Some kept) (Some x)
