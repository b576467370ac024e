-- A run: when it is refused, and what follows where it is granted.
use Rattle.std.proofs.Common.{◌≡◌, ℕ, ◌<◌, ◌≤◌, true, false, Some, None, sym, refl, subst}
use Rattle.std.proofs.lemmas.Bool.{eq-eqb, ne_eqb, lt-ltb, le-ltb}
use Rattle.rules.specs.Sources.{Lawful}
use Rattle.theory.specs.Search.{Guide, ended}
use Rattle.theory.specs.Run.{Search as Searched, Report as RunReport, no_steps, Goes, Run, Run.again, Run.goes}
use Rattle.theory.specs.Calls.{Call.run, Reply.reported, Reply.refused, State.searching, Next.runs, Next.runs_other, Next.runs_short}
use Rattle.session.specs.Reports.{verdict_of, has_ended}
use Rattle.session.specs.Sessions.{Promised, run_refusal}
use Rattle.session.specs.declared.report.Verdict.{Verdict}
use Rattle.session.specs.declared.report.Verdict.TheVariants.{Open, Paused, Model, Refuted}
use Rattle.session.specs.declared.report.Refusal.TheVariants.{OtherCount, ShortScratch}
use Rattle.session.proofs.Promising.{promised}

-- a source of another count is refused
pub other_count : (n count bytes : ℕ) → (count ≡ n → ⊥) → run_refusal n count bytes ≡ Some OtherCount
other_count n count bytes h = rw (ne_eqb count n h)

-- where the count fits, a scratch of fewer bytes is refused
pub short_scratch : (n count bytes : ℕ) → count ≡ n → bytes < n → run_refusal n count bytes ≡ Some ShortScratch
short_scratch n count bytes e h = rw (eq-eqb count n e, lt-ltb bytes n h)

-- where both fit, nothing is refused
pub no_refusal : (n count bytes : ℕ) → count ≡ n → n ≤ bytes → run_refusal n count bytes ≡ None
no_refusal n count bytes e h = rw (eq-eqb count n e, le-ltb bytes n h)

ended_is : (v : Verdict) → ended (verdict_of v) ≡ has_ended v
ended_is Open = refl
ended_is Paused = refl
ended_is Model = refl
ended_is Refuted = refl

module _ (n L limit : ℕ) (g : Guide) (bytes : ℕ) (q : Searched) where
  pub other_promised : (g.source.count ≡ n → ⊥) → Promised n L (searching q) (run limit g bytes) (refused 4) (searching q)
  other_promised h = promised n L (searching q) (run limit g bytes) (refused 4) (searching q) tt (runs_other limit g bytes h)

  pub short_promised : g.source.count ≡ n → bytes < n → Promised n L (searching q) (run limit g bytes) (refused 5) (searching q)
  short_promised e h = promised n L (searching q) (run limit g bytes) (refused 5) (searching q) tt (runs_short limit g bytes e h)

  module _ (law : Lawful g.source) (e : g.source.count ≡ n) (room : n ≤ bytes) where
    granted : (r : RunReport) (q' : Searched) → Run n L g limit q r q' → Promised n L (searching q) (run limit g bytes) (reported r) (searching q')
    granted r q' x = promised n L (searching q) (run limit g bytes) (reported r) (searching q') law (runs limit g bytes r e room x)

    pub again_promised : (v : Verdict) → q.verdict ≡ verdict_of v → has_ended v ≡ true → (r : RunReport) → r ≡ no_steps q.verdict → Promised n L (searching q) (run limit g bytes) (reported r) (searching q)
    again_promised v is h r i = granted r q (subst (λ x. Run n L g limit q x q) (sym i) (again (subst (λ x. ended x ≡ true) (sym is) (subst (λ b. b ≡ true) (sym (ended_is v)) h))))

    pub goes_promised : (v : Verdict) → q.verdict ≡ verdict_of v → has_ended v ≡ false → (r : RunReport) (q' : Searched) → Goes n L g limit q.position r q' → Promised n L (searching q) (run limit g bytes) (reported r) (searching q')
    goes_promised v is h r q' x = granted r q' (goes (subst (λ y. ended y ≡ false) (sym is) (subst (λ b. b ≡ false) (sym (ended_is v)) h)) x)
