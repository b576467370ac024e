-- Each rule determines its result.
use Rattle.std.proofs.Common.{◌≡◌, ℕ, suc, ◌<◌, Bool, true, false, List, ◌∷◌, length, ℤ, pos, negsuc, neg_ℤ, filter, sym, refl, ap, ◌∙◌, subst, inl, inr, arith}
use mathlib.Core.Bool.{false≢true}
use Rattle.std.proofs.lemmas.Bool.{both_ways, cases_lt}
use Rattle.rules.specs.Literals.{var, has}
use Rattle.rules.specs.Clauses.{Status.falsified, Status.unit, status, is_unit}
use Rattle.rules.specs.Sources.{Meaning}
use Rattle.theory.specs.Trail.{Entry.assumed, Entry.decided, Entry.implied, Trail, on, free, assumed_literals}
use Rattle.theory.specs.Chunks.{in_chunk, touches, chunk}
use Rattle.theory.specs.Look.{Position}
use Rattle.theory.specs.Conflict.{Chosen, resolvable, Analysed, Analysed.stops, Analysed.passes, Analysed.replaces, others_of, repaired}
use Rattle.theory.specs.Search.{Guide, Verdict, ended, missing, Ends, Ends.contradicts, Ends.denies, Ends.completes, placed, Kind, Step, Step.conflict, Step.imply, Step.assume, Step.prefer, Step.lowest}
use Rattle.theory.specs.Run.{Search, Report, no_steps, one_step, added, Goes, Goes.ends, Goes.pauses, Goes.steps, Run, Run.again, Run.goes}
use Rattle.theory.specs.Determined.{ChunkDecided, LookDetermined, ChoiceDetermined, AnalysisDetermined, EndDetermined, StepDetermined, EndOrStep, RunDetermined}
use Rattle.theory.proofs.Trails.{free_parts, parts_free, decided_on, place_one}
use Rattle.theory.proofs.Chunks.{test_chunk, chunk_test}
use Rattle.theory.proofs.Analysis.{analysed_one}
use Rattle.theory.proofs.Invariant.{first_passes}
use Rattle.theory.proofs.Looking.{first_one, first_none, look_one, look_same, look_apart}

pub chunk_decided : ChunkDecided
chunk_decided n t w d x = (chunk_test n t w d, test_chunk d t x)

pub look_determined : LookDetermined
look_determined n m p f f' a b = look_one n m p a b

pub choice_determined : ChoiceDetermined
choice_determined L w p C c d x y =
    let a = x.ties d y.allowed (y.least c x.allowed) in
    let b = y.ties c x.allowed (x.least d y.allowed) in
    place_one p.trail c d (decided_on p.trail c x.allowed.touched.decision) (decided_on p.trail d y.allowed.touched.decision) (omega arith)

analysis_one : (member : ℤ → Bool) {t : Trail} {S R R' : ℤ → Bool} → Analysed member t S R → Analysed member t S R' → R ≡ R'
analysis_one member (stops o) (stops o') = refl
analysis_one member (stops o) (passes m r a) = absurd (m o)
analysis_one member (stops o) (replaces m r a) = absurd (m o)
analysis_one member (passes m r a) (stops o) = absurd (m o)
analysis_one member (passes m r a) (passes m' r' a') = analysis_one member a a'
analysis_one member (passes {S = S} m r a) (replaces {l} m' r' a') = absurd (both_ways (resolvable member S l) r r')
analysis_one member (replaces m r a) (stops o) = absurd (m o)
analysis_one member (replaces {l} {S = S} m r a) (passes m' r' a') = absurd (both_ways (resolvable member S l) r' r)
analysis_one member (replaces m r a) (replaces m' r' a') = analysis_one member a a'

pub analysis_determined : AnalysisDetermined
analysis_determined member t S R R' a a' = analysis_one member a a'

falsified_unit : (f : ℤ → Bool) (C C' : List ℤ) (l : ℤ) → C ≡ C' → status f C ≡ falsified → status f C' ≡ unit l → ⊥
falsified_unit f C C' l e a b = false≢true (ap is_unit (sym a ∙ ap (status f) e ∙ b))

-- a free literal has a free variable
free_variable : (n : ℕ) (t : Trail) (l : ℤ) → free n t l ≡ true → free n t (pos (var l)) ≡ true
free_variable n t (pos v) h = h
free_variable n t (negsuc v) h = let r = free_parts n t (negsuc v) h in parts_free n t (pos (suc v)) r.0 r.2 r.1

-- THE ENDS

module _ (n : ℕ) (m : Meaning) (p : Position) where
  end_one : {v v' : Verdict} {ns ns' : List ℤ} → Ends n m p v ns → Ends n m p v' ns' → (v ≡ v') × (ns ≡ ns')
  end_one (contradicts C lk fa nd) (contradicts C' lk' fa' nd') = (refl, ap (λ K. filter (λ r. touches p.trail r K) (assumed_literals p.trail)) (look_same n m p lk lk'))
  end_one (contradicts C lk fa nd) (denies a lk' f h) = absurd (look_apart n m p lk lk')
  end_one (contradicts C lk fa nd) (completes lk' al c) = absurd (look_apart n m p lk lk')
  end_one (denies a lk f h) (contradicts C lk' fa nd) = absurd (look_apart n m p lk' lk)
  end_one (denies a lk f h) (denies a' lk' f' h') =
      (refl, ap (λ x. x ∷ filter (λ r. in_chunk r p.trail (neg_ℤ x)) (assumed_literals p.trail)) (first_one (missing p.trail) f f'))
  end_one (denies a lk f h) (completes lk' al c) = absurd (first_none (missing p.trail) f al)
  end_one (completes lk al c) (contradicts C lk' fa nd) = absurd (look_apart n m p lk' lk)
  end_one (completes lk al c) (denies a lk' f h) = absurd (first_none (missing p.trail) f al)
  end_one (completes lk al c) (completes lk' al' c') = (refl, refl)

pub end_determined : EndDetermined
end_determined n m p v v' ns ns' a b = end_one n m p a b

-- THE STEPS

module _ (n L : ℕ) (g : Guide) (p : Position) where
  conflict_one : (C C' : List ℤ) (d d' u u' : ℤ) (S S' : ℤ → Bool) → C ≡ C' → Chosen L g.weighing p C d → Chosen L g.weighing p C' d'
      → Analysed (in_chunk d p.trail) p.trail (has C) S → Analysed (in_chunk d' p.trail) p.trail (has C') S'
      → S u ≡ true → S' u' ≡ true → in_chunk d p.trail (neg_ℤ u) ≡ true → in_chunk d' p.trail (neg_ℤ u') ≡ true
      → (length (chunk p.trail d) ≡ length (chunk p.trail d')) × (repaired n L p d u S ≡ repaired n L p d' u' S')
  conflict_one C C' d d' u u' S S' eC ch ch' an an' su su' tu tu' =
      let ed : d ≡ d' = choice_determined L g.weighing p C d d' ch (subst (λ K. Chosen L g.weighing p K d') (sym eC) ch') in
      let an'' : Analysed (in_chunk d p.trail) p.trail (has C) S' =
      subst (λ x. Analysed (in_chunk x p.trail) p.trail (has C) S') (sym ed) (subst (λ K. Analysed (in_chunk d' p.trail) p.trail (has K) S') (sym eC) an') in
      let eS : S ≡ S' = analysis_one (in_chunk d p.trail) an an'' in
      let eu : u ≡ u' = analysed_one (in_chunk d p.trail) an u u' su tu (subst (λ R. R u' ≡ true) (sym eS) su') (subst (λ x. in_chunk x p.trail (neg_ℤ u') ≡ true) (sym ed) tu') in
      (ap (λ x. length (chunk p.trail x)) ed, λ i. repaired n L p (ed i) (eu i) (eS i))

  lowest_one : (v v' : ℕ) → free n p.trail (pos v) ≡ true → free n p.trail (pos v') ≡ true
      → ((i : ℕ) → i < v → free n p.trail (pos i) ≡ false) → ((i : ℕ) → i < v' → free n p.trail (pos i) ≡ false) → v ≡ v'
  lowest_one v v' f f' low low' = elim (cases_lt v v') [
    | inl a ↦ absurd (both_ways (free n p.trail (pos v)) (low' v a) f)
    | inr a ↦ elim (cases_lt v' v) [ inl b ↦ absurd (both_ways (free n p.trail (pos v')) (low v' b) f') | inr b ↦ omega arith ]
  ]

  step_one : {k k' : Kind} {u u' : ℕ} {p₁ p₂ : Position} → Step n L g p k u p₁ → Step n L g p k' u' p₂ → (k ≡ k') × (u ≡ u') × (p₁ ≡ p₂)
  step_one (conflict C d u S lk fa ch an su tu) (conflict C' d' u' S' lk' fa' ch' an' su' tu') =
      let r = conflict_one C C' d d' u u' S S' (look_same n g.source p lk lk') ch ch' an an' su su' tu tu' in (refl, r.0, r.1)
  step_one (conflict C d u S lk fa ch an su tu) (imply C' l lk' st) = absurd (falsified_unit (on p.trail) C C' l (look_same n g.source p lk lk') fa st)
  step_one (conflict C d u S lk fa ch an su tu) (assume a lk' f z) = absurd (look_apart n g.source p lk lk')
  step_one (conflict C d u S lk fa ch an su tu) (prefer l lk' al f) = absurd (look_apart n g.source p lk lk')
  step_one (conflict C d u S lk fa ch an su tu) (lowest v lk' al nf f low) = absurd (look_apart n g.source p lk lk')
  step_one (imply C l lk st) (conflict C' d u S lk' fa ch an su tu) = absurd (falsified_unit (on p.trail) C' C l (look_same n g.source p lk' lk) fa st)
  step_one (imply C l lk st) (imply C' l' lk' st') =
      let eC : C ≡ C' = look_same n g.source p lk lk' in
      let e : unit l ≡ unit l' = sym st ∙ ap (status (on p.trail)) eC ∙ st' in
      let el : l ≡ l' = cc in
      (refl, refl, λ i. placed p (implied (el i) (others_of (el i) (eC i))))
  step_one (imply C l lk st) (assume a lk' f z) = absurd (look_apart n g.source p lk lk')
  step_one (imply C l lk st) (prefer l' lk' al f) = absurd (look_apart n g.source p lk lk')
  step_one (imply C l lk st) (lowest v lk' al nf f low) = absurd (look_apart n g.source p lk lk')
  step_one (assume a lk f z) (conflict C d u S lk' fa ch an su tu) = absurd (look_apart n g.source p lk' lk)
  step_one (assume a lk f z) (imply C l lk' st) = absurd (look_apart n g.source p lk' lk)
  step_one (assume a lk f z) (assume a' lk' f' z') = (refl, refl, ap (λ x. placed p (assumed x)) (first_one (missing p.trail) f f'))
  step_one (assume a lk f z) (prefer l lk' al f') = absurd (first_none (missing p.trail) f al)
  step_one (assume a lk f z) (lowest v lk' al nf f' low) = absurd (first_none (missing p.trail) f al)
  step_one (prefer l lk al f) (conflict C d u S lk' fa ch an su tu) = absurd (look_apart n g.source p lk' lk)
  step_one (prefer l lk al f) (imply C l' lk' st) = absurd (look_apart n g.source p lk' lk)
  step_one (prefer l lk al f) (assume a lk' f' z) = absurd (first_none (missing p.trail) f' al)
  step_one (prefer l lk al f) (prefer l' lk' al' f') = (refl, refl, ap (λ x. placed p (decided x)) (first_one (free n p.trail) f f'))
  step_one (prefer l lk al f) (lowest v lk' al' nf f' low) = absurd (first_none (free n p.trail) f nf)
  step_one (lowest v lk al nf f low) (conflict C d u S lk' fa ch an su tu) = absurd (look_apart n g.source p lk' lk)
  step_one (lowest v lk al nf f low) (imply C l lk' st) = absurd (look_apart n g.source p lk' lk)
  step_one (lowest v lk al nf f low) (assume a lk' f' z) = absurd (first_none (missing p.trail) f' al)
  step_one (lowest v lk al nf f low) (prefer l lk' al' f') = absurd (first_none (free n p.trail) f' nf)
  step_one (lowest v lk al nf f low) (lowest v' lk' al' nf' f' low') = (refl, refl, ap (λ x. placed p (decided (pos x))) (lowest_one v v' f f' low low'))

  pub end_or_step : {v : Verdict} {ns : List ℤ} {k : Kind} {u : ℕ} {p' : Position} → Ends n g.source p v ns → Step n L g p k u p' → ⊥
  end_or_step (contradicts C lk fa nd) (conflict C' d u S lk' fa' ch an su tu) =
      both_ways (touches p.trail d C) (nd d ch.allowed.touched.decision) (subst (λ K. touches p.trail d K ≡ true) (look_same n g.source p lk' lk) ch.allowed.touched.touching)
  end_or_step (contradicts C lk fa nd) (imply C' l lk' st) = falsified_unit (on p.trail) C C' l (look_same n g.source p lk lk') fa st
  end_or_step (contradicts C lk fa nd) (assume a lk' f z) = look_apart n g.source p lk lk'
  end_or_step (contradicts C lk fa nd) (prefer l lk' al f) = look_apart n g.source p lk lk'
  end_or_step (contradicts C lk fa nd) (lowest v lk' al nf f low) = look_apart n g.source p lk lk'
  end_or_step (denies a lk f h) (conflict C d u S lk' fa ch an su tu) = look_apart n g.source p lk' lk
  end_or_step (denies a lk f h) (imply C l lk' st) = look_apart n g.source p lk' lk
  end_or_step (denies a lk f h) (assume a' lk' f' z) = both_ways (on p.trail (neg_ℤ a)) (subst (λ x. on p.trail (neg_ℤ x) ≡ false) (first_one (missing p.trail) f' f) z) h
  end_or_step (denies a lk f h) (prefer l lk' al f') = first_none (missing p.trail) f al
  end_or_step (denies a lk f h) (lowest v lk' al nf f' low) = first_none (missing p.trail) f al
  end_or_step (completes lk al c) (conflict C d u S lk' fa ch an su tu) = look_apart n g.source p lk' lk
  end_or_step (completes lk al c) (imply C l lk' st) = look_apart n g.source p lk' lk
  end_or_step (completes lk al c) (assume a lk' f z) = first_none (missing p.trail) f al
  end_or_step (completes lk al c) (prefer l lk' al' f) =
      both_ways (free n p.trail (pos (var l))) (c (var l)) (free_variable n p.trail l (first_passes (free n p.trail) f))
  end_or_step (completes lk al c) (lowest v lk' al' nf f low) = both_ways (free n p.trail (pos v)) (c v) f

pub step_determined : StepDetermined
step_determined n L g p k k' u u' p₁ p₂ a b = step_one n L g p a b

pub end_or_step_only : EndOrStep
end_or_step_only n L g p p' v ns k u a b = end_or_step n L g p a b

-- RUNS

module _ (n L : ℕ) (g : Guide) where
  goes_one : {limit : ℕ} {p : Position} {r r' : Report} {q q' : Search} → Goes n L g limit p r q → Goes n L g limit p r' q' → (r ≡ r') × (q ≡ q')
  goes_one (ends {p = p} v ns e) (ends v' ns' e') =
      let a = end_one n g.source p e e' in let ev = a.0 in let en = a.1 in
      (ap no_steps ev, λ i. record { position = p; verdict = ev i; named = en i })
  goes_one (ends v ns e) (pauses h) = absurd (h v ns e)
  goes_one (ends {p = p} v ns e) (steps k u p' st go) = absurd (end_or_step n L g p e st)
  goes_one (pauses h) (ends v ns e) = absurd (h v ns e)
  goes_one (pauses h) (pauses h') = (refl, refl)
  goes_one (steps {p = p} k u p' st go) (ends v ns e) = absurd (end_or_step n L g p e st)
  goes_one (steps {limit} {p} {r} {q} k u p₁ st go) (steps {r = r'} {q = q'} k' u' p₂ st' go') =
      let a = step_one n L g p st st' in let ek = a.0 in let eu = a.1 in
      let b = goes_one go (subst (λ x. Goes n L g limit x r' q') (sym a.2) go') in let er = b.0 in
      (λ i. added (one_step (ek i) (eu i)) (er i), b.1)

  pub run_one : {limit : ℕ} {q : Search} {r r' : Report} {q₁ q₂ : Search} → Run n L g limit q r q₁ → Run n L g limit q r' q₂ → (r ≡ r') × (q₁ ≡ q₂)
  run_one (again e) (again e') = (refl, refl)
  run_one (again {q = q} e) (goes e' go) = absurd (both_ways (ended q.verdict) e' e)
  run_one (goes {q = q} e go) (again e') = absurd (both_ways (ended q.verdict) e e')
  run_one (goes e go) (goes e' go') = goes_one go go'

pub run_determined : RunDetermined
run_determined n L g limit q q₁ q₂ r₁ r₂ a b = run_one n L g a b
