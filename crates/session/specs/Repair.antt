-- The repair of a conflict, from one position to the next.
use Rattle.std.specs.Prelude.{◌≡◌, ℕ, Bool, true, List, ℤ, neg_ℤ}
use Rattle.rules.specs.Literals.{has}
use Rattle.theory.specs.Chunks.{in_chunk}
use Rattle.theory.specs.Look.{Position}
use Rattle.theory.specs.Conflict.{Analysed, repaired}

-- The clause C is analysed for the chunk of d, and the one literal left that touched it is placed.
pub record Repairs (n L : ℕ) (p : Position) (C : List ℤ) (d : ℤ) (p' : Position) : Type 0 where
  pub placed : ℤ
  pub left : ℤ → Bool
  pub analysed : Analysed (in_chunk d p.trail) p.trail (has C) left
  pub is_left : left placed ≡ true
  pub touched : in_chunk d p.trail (neg_ℤ placed) ≡ true
  pub leads : p' ≡ repaired n L p d placed left
