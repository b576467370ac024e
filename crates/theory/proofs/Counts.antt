-- What a run's report counts, and what a run leaves as it was.
use Rattle.std.proofs.Common.{◌≡◌, ℕ, ◌+◌, ◌≤◌, length, refl, ◌∙◌, arith}
use Rattle.theory.specs.Look.{Position}
use Rattle.theory.specs.Search.{Guide, Kind, Step, Step.conflict, Step.imply, Step.assume, Step.prefer, Step.lowest}
use Rattle.theory.specs.Run.{Search, Report, Goes, Goes.ends, Goes.pauses, Goes.steps, Run, Run.again, Run.goes}
use Rattle.theory.specs.Laws.{Counted}
use Rattle.theory.proofs.Repairing.{chunk_kept}
use Rattle.theory.proofs.Ends.{Sums, one_step_counts}

module _ (n L : ℕ) (g : Guide) where
  -- a step places one literal more than it undoes
  step_placed : (p : Position) {k : Kind} {u : ℕ} {p' : Position} → Step n L g p k u p' → length p'.trail + u ≡ length p.trail + 1
  step_placed p (conflict C d u S lk fa ch an su tu) = let a = chunk_kept p.trail d in omega arith
  step_placed p (imply C l lk st) = omega arith
  step_placed p (assume a lk f z) = omega arith
  step_placed p (prefer l lk al f) = omega arith
  step_placed p (lowest v lk al nf f low) = omega arith

  step_assumptions : (p : Position) {k : Kind} {u : ℕ} {p' : Position} → Step n L g p k u p' → p'.assumptions ≡ p.assumptions
  step_assumptions p (conflict C d u S lk fa ch an su tu) = refl
  step_assumptions p (imply C l lk st) = refl
  step_assumptions p (assume a lk f z) = refl
  step_assumptions p (prefer l lk al f) = refl
  step_assumptions p (lowest v lk al nf f low) = refl

  goes_counted : {limit : ℕ} {p : Position} {r : Report} {q : Search} → Goes n L g limit p r q → Sums r × (r.steps ≤ limit)
  goes_counted (ends v ns e) = (refl, omega arith)
  goes_counted (pauses h) = (refl, omega arith)
  goes_counted (steps {r = r} k u p' st go) =
      let a = goes_counted go in let s = one_step_counts k u in let b = s.2 in let c = s.0 in let d = a.0 in let e = a.1 in
      (omega arith, omega arith)

  pub run_counted : {limit : ℕ} {q : Search} {r : Report} {q' : Search} → Run n L g limit q r q' → Counted (record { limit = limit; guide = g; report = r })
  run_counted (again e) = record { by_kind = refl; within_limit = omega arith }
  run_counted (goes e go) = let a = goes_counted go in record { by_kind = a.0; within_limit = a.1 }

  goes_placed : {limit : ℕ} {p : Position} {r : Report} {q : Search} → Goes n L g limit p r q → length q.position.trail + r.undone ≡ length p.trail + r.steps
  goes_placed (ends v ns e) = refl
  goes_placed (pauses h) = refl
  goes_placed (steps {p = p} {r = r} k u p' st go) =
      let a = goes_placed go in let b = step_placed p st in let c = one_step_counts k u in let c0 = c.0 in let c1 = c.1 in
      omega arith

  pub run_placed : {limit : ℕ} {q : Search} {r : Report} {q' : Search} → Run n L g limit q r q' → length q'.position.trail + r.undone ≡ length q.position.trail + r.steps
  run_placed (again e) = refl
  run_placed (goes e go) = goes_placed go

  goes_kept : {limit : ℕ} {p : Position} {r : Report} {q : Search} → Goes n L g limit p r q → (q.position.assumptions ≡ p.assumptions) × (r.verdict ≡ q.verdict)
  goes_kept (ends v ns e) = (refl, refl)
  goes_kept (pauses h) = (refl, refl)
  goes_kept (steps {p = p} k u p' st go) = let a = goes_kept go in (a.0 ∙ step_assumptions p st, a.1)

  -- the assumptions stay, and the verdict reported is the one left
  pub run_kept : {limit : ℕ} {q : Search} {r : Report} {q' : Search} → Run n L g limit q r q' → (q'.position.assumptions ≡ q.position.assumptions) × (r.verdict ≡ q'.verdict)
  run_kept (again e) = (refl, refl)
  run_kept (goes e go) = goes_kept go
