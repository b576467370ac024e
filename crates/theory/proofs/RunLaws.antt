-- Runs join, a paused run used its limit, a long run ends, and verdicts agree.
use Rattle.std.proofs.Common.{◌≡◌, ℕ, suc, ◌+◌, true, false, ◌⊎◌, List, ◌∷◌, ℤ, sym, refl, ap, ◌∙◌, subst, inl, inr, add-zero, add_assoc, zero-add, arith}
use mathlib.Core.Bool.{false≢true}
use Rattle.std.proofs.lemmas.Bool.{both_ways}
use Rattle.rules.specs.Sources.{Meaning}
use Rattle.std.proofs.lemmas.List.Sums.{sum_by-cons}
use Rattle.theory.specs.Look.{Position}
use Rattle.theory.specs.Search.{Guide, Verdict, Verdict.still_open, Verdict.paused, Verdict.model, Verdict.refuted, ended, Ends, Ends.contradicts, Ends.denies, Ends.completes}
use Rattle.theory.specs.Run.{Search, Report, no_steps, one_step, added, Goes, Goes.ends, Goes.pauses, Goes.steps, Run, Run.again, Run.goes}
use Rattle.theory.specs.Calls.{Call.run, Reply.reported, State.searching, Next.runs}
use Rattle.theory.specs.Events.{Event, Grant, granted_runs}
use Rattle.theory.specs.Promise.{Judged, History.more}
use Rattle.theory.specs.Laws.{LongRunsEnd, RunsJoin, PausedAtLimit, VerdictsAgree}
use Rattle.theory.proofs.Ends.{one_step_counts, model_refuted}
use Rattle.theory.proofs.Counts.{run_kept}
use Rattle.theory.proofs.Theorem.{promise_kept}

-- reports added: nothing before, nothing after, and in any grouping
pub none_added : (v : Verdict) (r : Report) → added (no_steps v) r ≡ r
none_added v r = λ i. record {
  verdict = r.verdict;
  steps = zero-add r.steps i;
  assumed = zero-add r.assumed i;
  decided = zero-add r.decided i;
  implied = zero-add r.implied i;
  conflicts = zero-add r.conflicts i;
  undone = zero-add r.undone i;
}

pub added_none : (r : Report) (v : Verdict) → v ≡ r.verdict → added r (no_steps v) ≡ r
added_none r v e = λ i. record {
  verdict = e i;
  steps = add-zero r.steps i;
  assumed = add-zero r.assumed i;
  decided = add-zero r.decided i;
  implied = add-zero r.implied i;
  conflicts = add-zero r.conflicts i;
  undone = add-zero r.undone i;
}

pub added_assoc : (a b c : Report) → added a (added b c) ≡ added (added a b) c
added_assoc a b c = sym (λ i. record {
  verdict = c.verdict;
  steps = add_assoc a.steps b.steps c.steps i;
  assumed = add_assoc a.assumed b.assumed c.assumed i;
  decided = add_assoc a.decided b.decided c.decided i;
  implied = add_assoc a.implied b.implied c.implied i;
  conflicts = add_assoc a.conflicts b.conflicts c.conflicts i;
  undone = add_assoc a.undone b.undone c.undone i;
})

end_ended : (n : ℕ) (m : Meaning) (p : Position) {v : Verdict} {ns : List ℤ} → Ends n m p v ns → ended v ≡ true
end_ended n m p (contradicts C lk fa nd) = refl
end_ended n m p (denies a lk fi h) = refl
end_ended n m p (completes lk al c) = refl

module _ (n L : ℕ) (g : Guide) where
  longer : (a b : ℕ) (p : Position) (r : Report) (q : Search) → Goes n L g (suc (a + b)) p r q → Goes n L g (suc a + b) p r q
  longer a b p r q = subst (λ k. Goes n L g k p r q) (omega arith)

  -- a run that ended goes the same way under a longer limit
  ended_longer : (b : ℕ) {a : ℕ} {p : Position} {r : Report} {q : Search} → Goes n L g a p r q → ended q.verdict ≡ true → Goes n L g (a + b) p r q
  ended_longer b (ends v ns e) h = ends v ns e
  ended_longer b (pauses x) h = absurd (false≢true h)
  ended_longer b (steps {limit} {p} {r} {q} k u p' st go) h = longer limit b p (added (one_step k u) r) q (steps k u p' st (ended_longer b go h))

  goes_join : (b : ℕ) (r₂ : Report) (q₂ : Search) {a : ℕ} {p : Position} {r₁ : Report} {q₁ : Search}
      → Goes n L g a p r₁ q₁ → ended q₁.verdict ≡ false → Goes n L g b q₁.position r₂ q₂
      → Goes n L g (a + b) p (added r₁ r₂) q₂
  goes_join b r₂ q₂ (ends {p = p} v ns e) h go₂ = absurd (both_ways (ended v) h (end_ended n g.source p e))
  goes_join b r₂ q₂ (pauses {p} x) h go₂ = subst (λ k. Goes n L g k p (added (no_steps paused) r₂) q₂) (sym (zero-add b)) (subst (λ r. Goes n L g b p r q₂) (sym (none_added paused r₂)) go₂)
  goes_join b r₂ q₂ (steps {limit} {p} {r} {q} k u p' st go) h go₂ =
      longer limit b p (added (added (one_step k u) r) r₂) q₂
      (subst (λ x. Goes n L g (suc (limit + b)) p x q₂) (added_assoc (one_step k u) r r₂) (steps k u p' st (goes_join b r₂ q₂ go h go₂)))

  run_join : (b : ℕ) {a : ℕ} {q q₁ q₂ : Search} {r₁ r₂ : Report} → Run n L g a q r₁ q₁ → Run n L g b q₁ r₂ q₂ → Run n L g (a + b) q (added r₁ r₂) q₂
  run_join b (again e) (again e') = again e
  run_join b (again {q = q} e) (goes e' go) = absurd (both_ways (ended q.verdict) e' e)
  run_join b (goes {limit = a} {q = q} {r = r₁} {q' = q₁} e go) (again e') =
      subst (λ r. Run n L g (a + b) q r q₁) (sym (added_none r₁ q₁.verdict (sym (run_kept n L g (goes {q = q} e go)).1))) (goes e (ended_longer b go e'))
  run_join b (goes e go) (goes {r = r₂} {q' = q₂} e' go') = goes e (goes_join b r₂ q₂ go e' go')

  goes_paused : {limit : ℕ} {p : Position} {r : Report} {q : Search} → Goes n L g limit p r q → r.verdict ≡ paused → r.steps ≡ limit
  goes_paused (ends {p = p} v ns e) h = absurd (false≢true (sym (ap ended h) ∙ end_ended n g.source p e))
  goes_paused (pauses x) h = refl
  goes_paused (steps {limit} {r = r} k u p' st go) h = let a = goes_paused go h in let b = (one_step_counts k u).0 in omega arith

pub runs_join : RunsJoin
runs_join n L g a b q q₁ q₂ r₁ r₂ x y = run_join n L g b x y

pub paused_at_limit : PausedAtLimit
paused_at_limit n L g limit q q' r x h = at x h
  where
    at : {limit : ℕ} {q : Search} {r : Report} {q' : Search} → Run n L g limit q r q' → r.verdict ≡ paused → r.steps ≡ limit
    at (again e) h = absurd (false≢true (sym (ap ended h) ∙ e))
    at (goes e go) h = goes_paused n L g go h

-- a run gives Paused, or it ended the search
goes_verdict : (n L : ℕ) (g : Guide) {limit : ℕ} {p : Position} {r : Report} {q : Search} → Goes n L g limit p r q → (r.verdict ≡ paused) ⊎ (ended r.verdict ≡ true)
goes_verdict n L g (ends {p = p} v ns e) = inr (end_ended n g.source p e)
goes_verdict n L g (pauses h) = inl refl
goes_verdict n L g (steps k u p' st go) = goes_verdict n L g go

pub run_verdict : (n L : ℕ) (g : Guide) {limit : ℕ} {q : Search} {r : Report} {q' : Search} → Run n L g limit q r q' → (r.verdict ≡ paused) ⊎ (ended r.verdict ≡ true)
run_verdict n L g (again e) = inr e
run_verdict n L g (goes e go) = goes_verdict n L g go

pub long_runs_end : LongRunsEnd
long_runs_end n L h q q' p g limit r x count law bound =
    let gr : Grant = record { limit = limit; guide = g; report = r } in
    let e : Event = record { call = run limit g n; reply = reported r } in
    let few = (promise_kept n L (e ∷ h) (searching q') (more p (runs limit g n r count (omega arith) x))).steps law in
    let more-steps = sum_by-cons (λ y. y.report.steps) gr (granted_runs h) in
    elim (run_verdict n L g x) [
      | inl v ↦ let used = paused_at_limit n L g limit q q' r x v in let z : ⊥ = omega arith in absurd z
      | inr v ↦ sym (ap ended (run_kept n L g x).1) ∙ v
    ]

ended_cases : (v : Verdict) → ended v ≡ true → (v ≡ model) ⊎ (v ≡ refuted)
ended_cases still_open h = absurd (false≢true h)
ended_cases paused h = absurd (false≢true h)
ended_cases model h = inl refl
ended_cases refuted h = inr refl

judged_agree : (n : ℕ) (m : Meaning) (gs : List ℤ) (q q' : Search) → Judged n m gs q → Judged n m gs q'
    → ended q.verdict ≡ true → ended q'.verdict ≡ true → q.verdict ≡ q'.verdict
judged_agree n m gs q q' j j' e e' = elim (ended_cases q.verdict e) [
  | inr r ↦ r ∙ sym (j'.refuted_when e' (j.refuted_so r))
  | inl r ↦ elim (ended_cases q'.verdict e')
      [ inl r' ↦ r ∙ sym r' | inr r' ↦ absurd (model_refuted (sym r ∙ j.refuted_when e (j'.refuted_so r'))) ]
]

pub verdicts_agree : VerdictsAgree
verdicts_agree n L L' h h' s s' p p' q q' hs hs' m one one' same e e' =
    judged_agree n m _ q q' ((promise_kept n L h s p).verdicts q hs m one) (subst (λ gs. Judged n m gs q') (sym same) ((promise_kept n L' h' s' p').verdicts q' hs' m one')) e e'
