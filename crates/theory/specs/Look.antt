-- Where a search stands, and what a look finds there.
use Rattle.std.specs.Prelude.{◌≡◌, ℕ, Bool, true, false, List, ◌∷◌, ℤ, Some, None, All, Option}
use Rattle.rules.specs.Clauses.{status, is_falsified, is_unit}
use Rattle.rules.specs.Sources.{Answer.silent, Answer.tells, Meaning}
use Rattle.theory.specs.Trail.{Trail, on, valuation}

-- The assumptions, the trail, and the learned clauses in the filled slots, in slot order.
pub record Position : Type 0 where
  pub assumptions : List ℤ
  pub trail : Trail
  pub slots : List (List ℤ)

-- the first of a list that passes a test
pub data First {A : Type 0} (test : A → Bool) : List A → A → Type 0 where
  here : {x : A} {xs : List A} → test x ≡ true → First test (x ∷ xs) x
  later : {y : A} {x : A} {xs : List A} → test y ≡ false → First test xs x → First test (y ∷ xs) x

-- none of a list passes a test
abbrev pub NonePass : {A : Type 0} → (A → Bool) → List A → Type 0
NonePass test xs = All (λ x. test x ≡ false) xs

abbrev pub falsified_on : Trail → List ℤ → Bool
falsified_on t C = is_falsified (status (on t) C)

abbrev pub unit_on : Trail → List ℤ → Bool
unit_on t C = is_unit (status (on t) C)

-- Question the source. If it is silent, take the first falsified slot in slot order, else the first unit slot.
pub data Look (n : ℕ) (m : Meaning) (p : Position) : Option (List ℤ) → Type 0 where
  told : {C : List ℤ} → m.answer (valuation n p.trail) ≡ tells C → Look n m p (Some C)
  falsified_slot : {C : List ℤ} → m.answer (valuation n p.trail) ≡ silent
      → First (falsified_on p.trail) p.slots C → Look n m p (Some C)
  unit_slot : {C : List ℤ} → m.answer (valuation n p.trail) ≡ silent
      → NonePass (falsified_on p.trail) p.slots → First (unit_on p.trail) p.slots C → Look n m p (Some C)
  no_clause : m.answer (valuation n p.trail) ≡ silent
      → NonePass (falsified_on p.trail) p.slots → NonePass (unit_on p.trail) p.slots → Look n m p None
