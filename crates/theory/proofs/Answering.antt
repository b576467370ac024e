-- There is an end or a step at every position, and an answer to every call that a state takes.
use Rattle.std.proofs.Common.{◌≡◌, ℕ, ◌*◌, ◌⊎◌, List, [], ◌∷◌, ◌++◌, length, ℤ, pos, sym, refl, ap, inl, inr}
use mathlib.Core.Bool.{false≢true}
use Rattle.std.proofs.lemmas.Bool.{cases_Bool, cases_lt, cases_eq}
use Rattle.rules.specs.Literals.{in_range, has}
use Rattle.rules.specs.Sources.{makes, assignment, Lawful}
use Rattle.theory.specs.Weighing.{Fair}
use Rattle.theory.specs.Trail.{on}
use Rattle.theory.specs.Look.{Position}
use Rattle.theory.specs.Search.{Guide, Verdict, Verdict.still_open, Verdict.paused, Verdict.model, Verdict.refuted, ended, Ends, Kind, Step}
use Rattle.theory.specs.Run.{Search}
use Rattle.theory.specs.Calls.{Call, Call.assume, Call.run, Call.value, Call.named, Reply, Reply.done, Reply.reported, Reply.found, Reply.said, Reply.refused, State, State.idle, State.searching, State.settled, State.closed, begun, Next, Next.assumes, Next.assumes_outside, Next.assumes_full, Next.clears, Next.begins, Next.closes, Next.runs, Next.runs_other, Next.runs_short, Next.settles, Next.finds, Next.values, Next.values_without, Next.values_outside, Next.names, Next.names_without, Next.names_outside, Next.reopens}
use Rattle.theory.specs.Events.{Event, standing_assumptions, granted_runs}
use Rattle.theory.specs.Promise.{LawfulRuns}
use Rattle.theory.specs.Determined.{Takes, Takes.assumes, Takes.clears, Takes.begins, Takes.closes, Takes.runs, Takes.settles, Takes.finds, Takes.values, Takes.names, Takes.reopens, CallsAnswered, EndOrStepThere}
use Rattle.theory.proofs.Invariant.{Orderly}
use Rattle.theory.proofs.Ends.{model_refuted}
use Rattle.theory.proofs.Histories.{lawful_at, KeptState, history_kept}
use Rattle.theory.proofs.Compute.{Turn, Turn.stops, Turn.goes_on, turn, Meets, turn_meets, running, running_runs}

is_model : (v : Verdict) → (v ≡ model) ⊎ (v ≡ model → ⊥)
is_model still_open = inr (λ e. false≢true (ap ended e))
is_model paused = inr (λ e. false≢true (ap ended e))
is_model model = inl refl
is_model refuted = inr (λ e. model_refuted (sym e))

is_refuted : (v : Verdict) → (v ≡ refuted) ⊎ (v ≡ refuted → ⊥)
is_refuted still_open = inr (λ e. false≢true (ap ended e))
is_refuted paused = inr (λ e. false≢true (ap ended e))
is_refuted model = inr model_refuted
is_refuted refuted = inl refl

module _ (n L : ℕ) where
  assume_answered : (ls : List ℤ) (l : ℤ) → (a : Reply) × (s' : State) × Next n L (idle ls) (assume l) a s'
  assume_answered ls l = elim (cases_Bool (in_range n l)) [
    | inr r ↦ (refused 2, idle ls, assumes_outside l r)
    | inl r ↦ elim (cases_lt (length ls) (2 * n)) [ inl f ↦ (done, idle (ls ++ (l ∷ [])), assumes l r f) | inr f ↦ (refused 3, idle ls, assumes_full l r f) ]
  ]

  run_answered : (q : Search) → Orderly n L q.position → (limit : ℕ) (g : Guide) (scratch : ℕ) → Lawful g.source → Fair g.weighing
      → (a : Reply) × (s' : State) × Next n L (searching q) (run limit g scratch) a s'
  run_answered q o limit g scratch law fair = elim (cases_eq g.source.count n) [
    | inr f ↦ (refused 4, searching q, runs_other limit g scratch f)
    | inl e ↦ elim (cases_lt scratch n) [
      | inl f ↦ (refused 5, searching q, runs_short limit g scratch e f)
      | inr f ↦ (
        reported (running n L g limit q).report,
        searching (running n L g limit q).search,
        runs limit g scratch (running n L g limit q).report e f (running_runs n L g (lawful_at n g.source e law) fair limit q o),
      )
    ]
  ]

  value_answered : (q : Search) (v : ℕ) → (a : Reply) × (s' : State) × Next n L (settled q) (value v) a s'
  value_answered q v = elim (is_model q.verdict) [
    | inr m ↦ (refused 6, settled q, values_without v m)
    | inl m ↦ elim (cases_Bool (in_range n (pos v)))
        [ inl r ↦ (said (makes (assignment n (on q.position.trail)) (pos v)), settled q, values v m r) | inr r ↦ (refused 2, settled q, values_outside v m r) ]
  ]

  named_answered : (q : Search) (l : ℤ) → (a : Reply) × (s' : State) × Next n L (settled q) (named l) a s'
  named_answered q l = elim (is_refuted q.verdict) [
    | inr m ↦ (refused 7, settled q, names_without l m)
    | inl m ↦ elim (cases_Bool (in_range n l)) [ inl r ↦ (said (has q.named l), settled q, names l m r) | inr r ↦ (refused 2, settled q, names_outside l m r) ]
  ]

  call_answered : (h : List Event) → LawfulRuns (granted_runs h) → {s : State} {c : Call} → KeptState n L (granted_runs h) (standing_assumptions h) s → Takes s c
      → ((limit : ℕ) (g : Guide) (scratch : ℕ) → c ≡ run limit g scratch → Lawful g.source × Fair g.weighing) → (a : Reply) × (s' : State) × Next n L s c a s'
  call_answered h law k (assumes {ls} l) given = assume_answered ls l
  call_answered h law k clears given = (done, idle [], clears)
  call_answered h law k (begins {ls}) given = (done, searching (begun ls), begins)
  call_answered h law k closes given = (done, closed, closes)
  call_answered h law k (runs {q} limit g scratch) given = let x = given limit g scratch refl in run_answered q (k.orderly law).0 limit g scratch x.0 x.1
  call_answered h law k (settles {q}) given = (done, settled q, settles)
  call_answered h law k (finds {q}) given = (found q.verdict, settled q, finds)
  call_answered h law k (values {q} v) given = value_answered q v
  call_answered h law k (names {q} l) given = named_answered q l
  call_answered h law k (reopens {q}) given = (done, idle q.position.assumptions, reopens)

pub end_or_step_there : EndOrStepThere
end_or_step_there n L g p law fair w = by (turn n L g p) (turn_meets n L g p law fair w)
  where
    by : (T : Turn) → Meets n L g p T → ((v : Verdict) × (ns : List ℤ) × Ends n g.source p v ns) ⊎ ((k : Kind) × (u : ℕ) × (p' : Position) × Step n L g p k u p')
    by (stops v ns) e = inl (v, ns, e)
    by (goes_on k u p') st = inr (k, u, p', st)

pub calls_answered : CallsAnswered
calls_answered n L h s p law c t given = call_answered n L h law (history_kept n L p) t given
