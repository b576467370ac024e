-- An analysis on the words: its set of literals is held by variable, in the scratch bytes.
use Rattle.std.specs.Prelude.{ℕ, ◌+◌, Bool, true, false, cond, not, ◌&&◌, List, [], ◌∷◌, ℤ, neg_ℤ, ◌==◌, nat_eq, slice_index}
use Rattle.rules.specs.Literals.{any_pass}
use Rattle.theory.specs.Trail.{Entry, Trail, literal, on}
use Rattle.theory.specs.Conflict.{resolvable}
use Rattle.theory.proofs.Analysis.{resolved_at}
use Rattle.session.specs.Words.{index_of}

-- whether the bytes hold the variable of index x
abbrev pub held : List ℕ → ℕ → Bool
held bytes x = not (slice_index bytes x == 0)

-- the literals that are false on the trail and whose variable is held
abbrev pub set_of : Trail → (ℕ → Bool) → ℤ → Bool
set_of t B m = on t (neg_ℤ m) && B (index_of m)

-- whether a list names the variable of index x
abbrev pub names_index : List ℤ → ℕ → Bool
names_index C x = any_pass (λ m. nat_eq x (index_of m)) C

abbrev pub one : Bool → ℕ
one true = 1
one false = 0

-- how many variables of the trail are marked and held
abbrev pub both_count : (ℕ → Bool) → (ℕ → Bool) → Trail → ℕ
both_count K B [] = 0
both_count K B (e ∷ t) = one (K (index_of (literal e)) && B (index_of (literal e))) + both_count K B t

-- what an analysis makes of its set at an entry, where it goes on
abbrev pub analysed_at : (ℤ → Bool) → Entry → (ℤ → Bool) → ℤ → Bool
analysed_at member e S = cond (resolvable member S (literal e)) (resolved_at e S) S
