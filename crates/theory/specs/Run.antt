-- A run: steps up to a limit, and the report.
use Rattle.std.specs.Prelude.{◌≡◌, ℕ, suc, ◌+◌, true, false, List, [], ℤ}
use Rattle.theory.specs.Look.{Position}
use Rattle.theory.specs.Search.{Guide, Verdict, Verdict.paused, ended, Ends, Kind, Kind.assuming, Kind.deciding, Kind.implying, Kind.conflicting, Step}

-- A search: where it stands, the verdict of its last granted run, and the named assumptions where that is Refuted.
pub record Search : Type 0 where
  pub position : Position
  pub verdict : Verdict
  pub named : List ℤ

-- A run's report: its verdict, its steps in all and by kind, and how many literals its conflict steps undid.
pub record Report : Type 0 where
  pub verdict : Verdict
  pub steps : ℕ
  pub assumed : ℕ
  pub decided : ℕ
  pub implied : ℕ
  pub conflicts : ℕ
  pub undone : ℕ

abbrev pub no_steps : Verdict → Report
no_steps v = record { verdict = v; steps = 0; assumed = 0; decided = 0; implied = 0; conflicts = 0; undone = 0 }

-- a step of some kind that undid so many literals, as a report; its verdict is that of what follows
abbrev pub one_step : Kind → ℕ → Report
one_step assuming u = record { verdict = paused; steps = 1; assumed = 1; decided = 0; implied = 0; conflicts = 0; undone = u }
one_step deciding u = record { verdict = paused; steps = 1; assumed = 0; decided = 1; implied = 0; conflicts = 0; undone = u }
one_step implying u = record { verdict = paused; steps = 1; assumed = 0; decided = 0; implied = 1; conflicts = 0; undone = u }
one_step conflicting u = record { verdict = paused; steps = 1; assumed = 0; decided = 0; implied = 0; conflicts = 1; undone = u }

-- two reports added, one after the other: the later verdict counts
abbrev pub added : Report → Report → Report
added a b = record {
  verdict = b.verdict;
  steps = a.steps + b.steps;
  assumed = a.assumed + b.assumed;
  decided = a.decided + b.decided;
  implied = a.implied + b.implied;
  conflicts = a.conflicts + b.conflicts;
  undone = a.undone + b.undone;
}

-- Look; if the search ends, give that verdict; if the limit is used up, give Paused; else take one step and go on.
pub data Goes (n L : ℕ) (g : Guide) : ℕ → Position → Report → Search → Type 0 where
  ends : {limit : ℕ} {p : Position} (v : Verdict) (ns : List ℤ) → Ends n g.source p v ns
      → Goes n L g limit p (no_steps v) (record { position = p; verdict = v; named = ns })
  pauses : {p : Position} → ((v : Verdict) (ns : List ℤ) → Ends n g.source p v ns → ⊥)
      → Goes n L g 0 p (no_steps paused) (record { position = p; verdict = paused; named = [] })
  steps : {limit : ℕ} {p : Position} {r : Report} {q : Search} (k : Kind) (u : ℕ) (p' : Position) → Step n L g p k u p'
      → Goes n L g limit p' r q → Goes n L g (suc limit) p (added (one_step k u) r) q

-- A run of a search that has ended gives its verdict again, with no step.
pub data Run (n L : ℕ) (g : Guide) : ℕ → Search → Report → Search → Type 0 where
  again : {limit : ℕ} {q : Search} → ended q.verdict ≡ true → Run n L g limit q (no_steps q.verdict) q
  goes : {limit : ℕ} {q : Search} {r : Report} {q' : Search} → ended q.verdict ≡ false
      → Goes n L g limit q.position r q' → Run n L g limit q r q'

-- a position that steps lead to
pub data Leads (n L : ℕ) (g : Guide) (p : Position) : Position → Type 0 where
  start : Leads n L g p p
  along : {p₁ : Position} {k : Kind} {undone : ℕ} {p₂ : Position} → Leads n L g p p₁ → Step n L g p₁ k undone p₂ → Leads n L g p p₂
