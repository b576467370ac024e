-- What a list of calls with their answers says: the assumptions that stand, and the granted runs of the search under way.
use Rattle.std.specs.Prelude.{ℕ, cond, List, [], ◌∷◌, ◌++◌, ℤ, sum_by}
use Rattle.theory.specs.Search.{Guide, Verdict, Verdict.still_open, ended}
use Rattle.theory.specs.Run.{Report}
use Rattle.theory.specs.Calls.{Call, Call.assume, Call.clear, Call.begin, Call.close, Call.run, Call.settle, Call.verdict, Call.value, Call.named, Call.reopen, Reply, Reply.done, Reply.reported, Reply.found, Reply.said, Reply.refused}

-- a call and its answer
pub record Event : Type 0 where
  pub call : Call
  pub reply : Reply

-- A granted run: what it took, and what it gave.
pub record Grant : Type 0 where
  pub limit : ℕ
  pub guide : Guide
  pub report : Report

-- What counts of an event: a literal joined the assumptions, they were cleared, a search began, a run was granted, or none of these.
pub data View : Type 0 where
  joined : ℤ → View
  cleared : View
  began : View
  ran : Grant → View
  other : View

abbrev pub view_assume : ℤ → Reply → View
view_assume l done = joined l
view_assume l (reported r) = other
view_assume l (found v) = other
view_assume l (said b) = other
view_assume l (refused number) = other

abbrev pub view_run : ℕ → Guide → Reply → View
view_run limit g done = other
view_run limit g (reported r) = ran (record { limit = limit; guide = g; report = r })
view_run limit g (found v) = other
view_run limit g (said b) = other
view_run limit g (refused number) = other

abbrev pub view_call : Call → Reply → View
view_call (assume l) a = view_assume l a
view_call clear a = cleared
view_call begin a = began
view_call close a = other
view_call (run limit g scratch) a = view_run limit g a
view_call settle a = other
view_call verdict a = other
view_call (value v) a = other
view_call (named l) a = other
view_call reopen a = other

abbrev pub view : Event → View
view e = view_call e.call e.reply

-- Events are listed the newest first. The assumptions that stand by them:
abbrev pub assumptions_after : View → List ℤ → List ℤ
assumptions_after (joined l) gs = gs ++ (l ∷ [])
assumptions_after cleared gs = []
assumptions_after began gs = gs
assumptions_after (ran g) gs = gs
assumptions_after other gs = gs

abbrev pub standing_assumptions : List Event → List ℤ
standing_assumptions [] = []
standing_assumptions (e ∷ h) = assumptions_after (view e) (standing_assumptions h)

-- the granted runs since the latest begin, the newest first
abbrev pub runs_after : View → List Grant → List Grant
runs_after (joined l) gs = gs
runs_after cleared gs = gs
runs_after began gs = []
runs_after (ran g) gs = g ∷ gs
runs_after other gs = gs

abbrev pub granted_runs : List Event → List Grant
granted_runs [] = []
granted_runs (e ∷ h) = runs_after (view e) (granted_runs h)

-- the verdict that granted runs of a search leave
abbrev pub latest_verdict : List Grant → Verdict
latest_verdict [] = still_open
latest_verdict (g ∷ gs) = g.report.verdict

-- those of them that looked: where the search has ended, a run looks at nothing
abbrev pub looking : List Grant → List Grant
looking [] = []
looking (g ∷ gs) = cond (ended (latest_verdict gs)) (looking gs) (g ∷ looking gs)

-- what they reported in all: the steps, and the literals undone
abbrev pub reported_steps : List Grant → ℕ
reported_steps gs = sum_by (λ g. g.report.steps) gs

abbrev pub undone_literals : List Grant → ℕ
undone_literals gs = sum_by (λ g. g.report.undone) gs

-- P holds of the run that an event was, if it was one
abbrev pub of_run : View → (Grant → Type 0) → Type 0
of_run (joined l) P = Unit {0}
of_run cleared P = Unit {0}
of_run began P = Unit {0}
of_run (ran g) P = P g
of_run other P = Unit {0}

-- P holds of each granted run and the events before it
abbrev pub EachRun : (Grant → List Event → Type 0) → List Event → Type 0
EachRun P [] = Unit {0}
EachRun P (e ∷ h) = of_run (view e) (λ g. P g h) × EachRun P h
