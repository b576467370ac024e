-- Which assumption is missing, and which literal is decided next.
use Rattle.std.specs.Prelude.{◌≡◌, ℕ, ◌<◌, true, false, List, ℤ, pos, Some, None, Option}
use Rattle.theory.specs.Trail.{Trail, free, Complete}
use Rattle.theory.specs.Look.{First, NonePass}
use Rattle.session.specs.Words.{word_at}

-- the assumption of a number, if there is one
abbrev pub assumption_at : List ℤ → Option ℕ → Option ℤ
assumption_at ws None = None
assumption_at ws (Some i) = Some (word_at ws i)

-- Which literal is decided next: the list's first whose variable is in 1 to n and unassigned, or else the lowest unassigned variable, made true.
pub data Decides (n : ℕ) (t : Trail) (preferences : List ℤ) : Option ℤ → Type 0 where
  preferred : (l : ℤ) → First (free n t) preferences l → Decides n t preferences (Some l)
  lowest : (v : ℕ) → NonePass (free n t) preferences → free n t (pos v) ≡ true → ((i : ℕ) → i < v → free n t (pos i) ≡ false) → Decides n t preferences (Some (pos v))
  complete : NonePass (free n t) preferences → Complete n t → Decides n t preferences None
