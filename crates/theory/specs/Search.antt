-- What a look leads to: the end of the search, or one step.
use Rattle.std.specs.Prelude.{◌≡◌, ℕ, ◌<◌, Bool, true, false, not, List, [], ◌∷◌, length, ℤ, pos, neg_ℤ, Some, None, filter}
use Rattle.rules.specs.Literals.{has}
use Rattle.rules.specs.Clauses.{Status.falsified, Status.unit, status}
use Rattle.rules.specs.Sources.{Meaning}
use Rattle.theory.specs.Weighing.{Weighing}
use Rattle.theory.specs.Trail.{Entry, Entry.assumed, Entry.decided, Entry.implied, Trail, on, free, Complete, assumed_literals, decided_literals}
use Rattle.theory.specs.Chunks.{in_chunk, touches, chunk}
use Rattle.theory.specs.Look.{Position, First, NonePass, Look}
use Rattle.theory.specs.Conflict.{Chosen, Analysed, others_of, repaired}

-- What a run is given: the source to question, the preference list, and how chunks compare by weight.
pub record Guide : Type 0 where
  pub source : Meaning
  pub preferences : List ℤ
  pub weighing : Weighing

-- still_open: no run was granted yet
pub data Verdict : Type 0 where
  still_open : Verdict
  paused : Verdict
  model : Verdict
  refuted : Verdict

-- A search has ended once a run gave Model or Refuted.
abbrev pub ended : Verdict → Bool
ended still_open = false
ended paused = false
ended model = true
ended refuted = true

-- whether an assumption is not true
abbrev pub missing : Trail → ℤ → Bool
missing t a = not (on t a)

-- How a look ends the search: with which verdict, and which assumptions are named.
pub data Ends (n : ℕ) (m : Meaning) (p : Position) : Verdict → List ℤ → Type 0 where
  -- a falsified clause touches no decided literal's chunk; named are the assumed literals whose chunks it touches
  contradicts : (C : List ℤ) → Look n m p (Some C) → status (on p.trail) C ≡ falsified
      → ((d : ℤ) → has (decided_literals p.trail) d ≡ true → touches p.trail d C ≡ false)
      → Ends n m p refuted (filter (λ r. touches p.trail r C) (assumed_literals p.trail))
  -- no clause, and the first assumption not true is false; named are it and the assumed literals whose chunks hold its negation
  denies : (a : ℤ) → Look n m p None → First (missing p.trail) p.assumptions a → on p.trail (neg_ℤ a) ≡ true
      → Ends n m p refuted (a ∷ filter (λ r. in_chunk r p.trail (neg_ℤ a)) (assumed_literals p.trail))
  -- no clause, all assumptions are true, and no variable is unassigned
  completes : Look n m p None → NonePass (missing p.trail) p.assumptions → Complete n p.trail → Ends n m p model []

pub data Kind : Type 0 where
  assuming : Kind
  deciding : Kind
  implying : Kind
  conflicting : Kind

-- one literal more
abbrev pub placed : Position → Entry → Position
placed p e = record { assumptions = p.assumptions; trail = e ∷ p.trail; slots = p.slots }

-- One step: its kind, how many literals it undid, and where it leads.
pub data Step (n L : ℕ) (g : Guide) (p : Position) : Kind → ℕ → Position → Type 0 where
  -- another falsified clause: the chosen chunk is undone, and the literal that touched it is placed
  conflict : (C : List ℤ) (d u : ℤ) (S : ℤ → Bool) → Look n g.source p (Some C) → status (on p.trail) C ≡ falsified
      → Chosen L g.weighing p C d → Analysed (in_chunk d p.trail) p.trail (has C) S
      → S u ≡ true → in_chunk d p.trail (neg_ℤ u) ≡ true
      → Step n L g p conflicting (length (chunk p.trail d)) (repaired n L p d u S)
  -- a unit clause: its unassigned literal is placed with that clause as its reason
  imply : (C : List ℤ) (l : ℤ) → Look n g.source p (Some C) → status (on p.trail) C ≡ unit l
      → Step n L g p implying 0 (placed p (implied l (others_of l C)))
  -- no clause, and the first assumption not true is unassigned
  assume : (a : ℤ) → Look n g.source p None → First (missing p.trail) p.assumptions a → on p.trail (neg_ℤ a) ≡ false
      → Step n L g p assuming 0 (placed p (assumed a))
  -- no clause, and all assumptions are true: the list's first literal whose variable is in 1 to n and unassigned
  prefer : (l : ℤ) → Look n g.source p None → NonePass (missing p.trail) p.assumptions → First (free n p.trail) g.preferences l
      → Step n L g p deciding 0 (placed p (decided l))
  -- the list has none: the lowest unassigned variable, made true
  lowest : (v : ℕ) → Look n g.source p None → NonePass (missing p.trail) p.assumptions → NonePass (free n p.trail) g.preferences
      → free n p.trail (pos v) ≡ true → ((i : ℕ) → i < v → free n p.trail (pos i) ≡ false)
      → Step n L g p deciding 0 (placed p (decided (pos v)))
