use Rattle.std.specs.Prelude.{◌≡◌, Bool, true, false}

-- of any two values one is at most the other
abbrev pub Total : {X : Type 0} → (X → X → Bool) → Type 0
Total {X} at_most = (x y : X) → at_most x y ≡ false → at_most y x ≡ true

-- at most carries over a chain of three
abbrev pub Chain : {X : Type 0} → (X → X → Bool) → Type 0
Chain {X} at_most = (x y z : X) → at_most x y ≡ true → at_most y z ≡ true → at_most x z ≡ true
