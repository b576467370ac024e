-- Laws over whole runs and whole lists of calls.
use Rattle.std.specs.Prelude.{◌≡◌, ℕ, ◌+◌, ◌≤◌, true, List, ◌∷◌, length}
use Rattle.rules.specs.Sources.{Meaning}
use Rattle.theory.specs.Search.{Guide, Verdict.paused, ended}
use Rattle.theory.specs.Run.{Search, Report, added, Run}
use Rattle.theory.specs.Calls.{State, State.searching}
use Rattle.theory.specs.Events.{undone_literals, Event, Grant, standing_assumptions, granted_runs, EachRun, reported_steps}
use Rattle.theory.specs.Promise.{History, LawfulRuns, OneSource, Holds, step_bound}

-- A run of limit a and then one of limit b, with all else alike, come to one run of limit a + b with the reports added.
abbrev pub RunsJoin : Type 0
RunsJoin = (n L : ℕ) (g : Guide) (a b : ℕ) (q q₁ q₂ : Search) (r₁ r₂ : Report)
    → Run n L g a q r₁ q₁ → Run n L g b q₁ r₂ q₂ → Run n L g (a + b) q (added r₁ r₂) q₂

-- A run that gives Paused has used its limit exactly.
abbrev pub PausedAtLimit : Type 0
PausedAtLimit = (n L : ℕ) (g : Guide) (limit : ℕ) (q q' : Search) (r : Report) → Run n L g limit q r q' → r.verdict ≡ paused → r.steps ≡ limit

-- A granted run whose limit is the bound on steps, or more, ends the search.
abbrev pub LongRunsEnd : Type 0
LongRunsEnd = (n L : ℕ) (h : List Event) (q q' : Search) → History n L h (searching q) → (g : Guide) (limit : ℕ) (r : Report) → Run n L g limit q r q' → g.source.count ≡ n
    → LawfulRuns (record { limit = limit; guide = g; report = r } ∷ granted_runs h) → step_bound n L ≤ limit → ended q'.verdict ≡ true

-- Two searches of one source under the same assumptions that have both ended gave the same verdict, whatever their slots,
-- weighers, preference lists, limits and earlier calls.
abbrev pub VerdictsAgree : Type 0
VerdictsAgree = (n L L' : ℕ) (h h' : List Event) (s s' : State) → History n L h s → History n L' h' s' → (q q' : Search) → Holds q s → Holds q' s'
    → (m : Meaning) → OneSource n (granted_runs h) m → OneSource n (granted_runs h') m → standing_assumptions h ≡ standing_assumptions h'
    → ended q.verdict ≡ true → ended q'.verdict ≡ true → q.verdict ≡ q'.verdict

-- A run's steps are those of the four kinds, and at most its limit.
pub record Counted (g : Grant) : Type 0 where
  pub by_kind : g.report.steps ≡ g.report.assumed + g.report.decided + g.report.implied + g.report.conflicts
  pub within_limit : g.report.steps ≤ g.limit

abbrev pub RunsCounted : Type 0
RunsCounted = (n L : ℕ) (h : List Event) (s : State) → History n L h s → EachRun (λ g before. Counted g) h

-- Each step of a search placed a literal, which still stands or was undone.
abbrev pub StepsPlaced : Type 0
StepsPlaced = (n L : ℕ) (h : List Event) (s : State) → History n L h s → (q : Search) → Holds q s
    → length q.position.trail + undone_literals (granted_runs h) ≡ reported_steps (granted_runs h)
