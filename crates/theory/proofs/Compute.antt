-- A step and a run as functions, and that they go as the rules say.
use Rattle.std.proofs.Common.{◌≡◌, ℕ, zero, suc, ◌+◌, ◌<◌, ◌≤◌, Bool, true, false, cond, List, [], ◌∷◌, length, ℤ, pos, neg_ℤ, Some, None, filter, Option, sym, refl, ap, ◌∙◌, subst, inl, inr, arith}
use Rattle.std.specs.List.{find}
use Rattle.std.specs.Option.{unwrap_or}
use mathlib.Core.Bool.{false≢true}
use Rattle.std.proofs.lemmas.Bool.{cond_both, both_ways, cases_Bool, cases_eq, cases_lt}
use Rattle.rules.specs.Literals.{has}
use Rattle.rules.specs.Clauses.{Status, Status.falsified, Status.unit, Status.other, status, is_falsified, is_unit}
use Rattle.rules.specs.Sources.{LawfulAt}
use Rattle.rules.proofs.Literals.{range_bounds, all_has}
use Rattle.rules.proofs.Statuses.{falsified_all}
use Rattle.theory.specs.Weighing.{Fair}
use Rattle.theory.specs.Trail.{Entry.assumed, Entry.decided, Entry.implied, Trail, on, free, assumed_literals, WellFormed}
use Rattle.theory.specs.Chunks.{in_chunk, touches, chunk}
use Rattle.theory.specs.Look.{Position, Look}
use Rattle.theory.specs.Conflict.{learned, others_of, repaired}
use Rattle.theory.specs.Search.{Guide, Verdict, Verdict.still_open, Verdict.paused, Verdict.model, Verdict.refuted, ended, missing, Ends, Ends.contradicts, Ends.denies, Ends.completes, placed, Kind, Kind.assuming, Kind.deciding, Kind.implying, Kind.conflicting, Step, Step.conflict, Step.imply, Step.assume, Step.prefer, Step.lowest}
use Rattle.theory.specs.Run.{Search, Report, no_steps, one_step, added, Goes, Goes.ends, Goes.pauses, Goes.steps, Run, Run.again, Run.goes}
use Rattle.theory.proofs.Trails.{free_parts}
use Rattle.theory.proofs.Analysis.{analyse, analyse_analysed, one_touching}
use Rattle.theory.proofs.Invariant.{Orderly, first_passes, first_has, look_asserts}
use Rattle.theory.proofs.Repairing.{learned_all, learned_in}
use Rattle.theory.proofs.Steps.{step_advances}
use Rattle.theory.proofs.Looking.{first_finds, Finds, look, look_looks}
use Rattle.theory.proofs.Uniqueness.{end_or_step}
use Rattle.theory.proofs.Choice.{choice, Chooses, choice_chooses}

-- what a look leads to: an end, or a step
pub data Turn : Type 0 where
  stops : Verdict → List ℤ → Turn
  goes_on : Kind → ℕ → Position → Turn

-- the first of a list that passes a test, of a list where one does
abbrev pub picked : (ℤ → Bool) → List ℤ → ℤ
picked test xs = unwrap_or (find test xs) (pos 0)

-- what the analysis of C leaves for the chunk of d, and its literal that touches the chunk
abbrev pub left_over : Trail → ℤ → List ℤ → ℤ → Bool
left_over t d C = analyse (in_chunk d t) t (has C)

abbrev pub turned : ℕ → Trail → ℤ → List ℤ → ℤ
turned n t d C = picked (λ x. in_chunk d t (neg_ℤ x)) (learned n (left_over t d C))

abbrev pub by_choice : ℕ → ℕ → Position → List ℤ → Option ℤ → Turn
by_choice n L p C None = stops refuted (filter (λ r. touches p.trail r C) (assumed_literals p.trail))
by_choice n L p C (Some d) = goes_on conflicting (length (chunk p.trail d)) (repaired n L p d (turned n p.trail d C) (left_over p.trail d C))

-- a clause of another status is told by no lawful source
abbrev pub by_status : ℕ → ℕ → Guide → Position → List ℤ → Status → Turn
by_status n L g p C falsified = by_choice n L p C (choice L g.weighing p C)
by_status n L g p C (unit l) = goes_on implying 0 (placed p (implied l (others_of l C)))
by_status n L g p C other = stops still_open []

-- the lowest that passes a test, of c numbers from k + 1 on
abbrev pub lowest_of : (ℕ → Bool) → ℕ → ℕ → Option ℕ
lowest_of test k zero = None
lowest_of test k (suc c) = cond (test (suc k)) (Some (suc k)) (lowest_of test (suc k) c)

abbrev pub by_lowest : Position → Option ℕ → Turn
by_lowest p None = stops model []
by_lowest p (Some v) = goes_on deciding 0 (placed p (decided (pos v)))

abbrev pub by_preference : ℕ → Position → Option ℤ → Turn
by_preference n p None = by_lowest p (lowest_of (λ v. free n p.trail (pos v)) 0 n)
by_preference n p (Some l) = goes_on deciding 0 (placed p (decided l))

abbrev pub by_assumption : ℕ → Guide → Position → Option ℤ → Turn
by_assumption n g p None = by_preference n p (find (free n p.trail) g.preferences)
by_assumption n g p (Some a) = cond (on p.trail (neg_ℤ a))
    (stops refuted (a ∷ filter (λ r. in_chunk r p.trail (neg_ℤ a)) (assumed_literals p.trail)))
    (goes_on assuming 0 (placed p (assumed a)))

abbrev pub by_look : ℕ → ℕ → Guide → Position → Option (List ℤ) → Turn
by_look n L g p None = by_assumption n g p (find (missing p.trail) p.assumptions)
by_look n L g p (Some C) = by_status n L g p C (status (on p.trail) C)

abbrev pub turn : ℕ → ℕ → Guide → Position → Turn
turn n L g p = by_look n L g p (look n g.source p)

-- a run
pub record Outcome : Type 0 where
  pub report : Report
  pub search : Search

abbrev pub given : Position → Verdict → List ℤ → Outcome
given p v ns = record { report = no_steps v; search = record { position = p; verdict = v; named = ns } }

abbrev pub counted : Kind → ℕ → Outcome → Outcome
counted k u o = record { report = added (one_step k u) o.report; search = o.search }

abbrev pub at_limit : Position → Turn → Outcome
at_limit p (stops v ns) = given p v ns
at_limit p (goes_on k u p') = given p paused []

abbrev pub below_limit : Position → (Position → Outcome) → Turn → Outcome
below_limit p rest (stops v ns) = given p v ns
below_limit p rest (goes_on k u p') = counted k u (rest p')

abbrev pub going : ℕ → ℕ → Guide → ℕ → Position → Outcome
going n L g zero p = at_limit p (turn n L g p)
going n L g (suc limit) p = below_limit p (going n L g limit) (turn n L g p)

abbrev pub running : ℕ → ℕ → Guide → ℕ → Search → Outcome
running n L g limit q = cond (ended q.verdict) (record { report = no_steps q.verdict; search = q }) (going n L g limit q.position)

-- THE FUNCTIONS GO AS THE RULES SAY

picked_passes : (test : ℤ → Bool) (xs : List ℤ) (x : ℤ) → has xs x ≡ true → test x ≡ true → (has xs (picked test xs) ≡ true) × (test (picked test xs) ≡ true)
picked_passes test xs x h e = by (find test xs) (first_finds test xs)
  where
    by : (o : Option ℤ) → Finds test xs o → (has xs (unwrap_or o (pos 0)) ≡ true) × (test (unwrap_or o (pos 0)) ≡ true)
    by None f = absurd (both_ways (test x) (all_has (λ y. test y ≡ false) xs f x h) e)
    by (Some y) f = (first_has test f, first_passes test f)

-- the lowest of the numbers up to n, or none
abbrev Lowest : (ℕ → Bool) → ℕ → Option ℕ → Type 0
Lowest test b (Some v) = (test v ≡ true) × ((i : ℕ) → i < v → test i ≡ false)
Lowest test b None = (i : ℕ) → i < b → test i ≡ false

lowest_finds : (test : ℕ → Bool) (k c : ℕ) → ((i : ℕ) → i < suc k → test i ≡ false) → Lowest test (suc (k + c)) (lowest_of test k c)
lowest_finds test k zero h = λ i z. h i (omega arith)
lowest_finds test k (suc c) h = elim (cases_Bool (test (suc k))) [
  | inl p ↦ rw p (p, h)
  | inr p ↦ rw p (subst (λ b. Lowest test b (lowest_of test (suc k) c)) (omega arith)
      (lowest_finds test (suc k) c (λ i z. elim (cases_eq i (suc k)) [ inl e ↦ subst (λ j. test j ≡ false) (sym e) p | inr e ↦ h i (omega arith) ])))
]

pub free_outside : (n : ℕ) (t : Trail) (v : ℕ) → (1 ≤ v → v ≤ n → ⊥) → free n t (pos v) ≡ false
free_outside n t v h = elim (cases_Bool (free n t (pos v)))
    [ inl p ↦ let r = range_bounds n (pos v) (free_parts n t (pos v) p).0 in absurd (h r.0 r.1) | inr p ↦ p ]

-- what a turn says is an end or a step of the rules
abbrev pub Meets : ℕ → ℕ → Guide → Position → Turn → Type 0
Meets n L g p (stops v ns) = Ends n g.source p v ns
Meets n L g p (goes_on k u p') = Step n L g p k u p'

module _ (n L : ℕ) (g : Guide) (p : Position) (law : LawfulAt n g.source) (fair : Fair g.weighing) (w : WellFormed n p.trail) where
  choice_meets : (C : List ℤ) → Look n g.source p (Some C) → status (on p.trail) C ≡ falsified
      → (o : Option ℤ) → Chooses L g.weighing p C o → Meets n L g p (by_choice n L p C o)
  choice_meets C lk fa None e = contradicts C lk fa (λ d h. elim (cases_Bool (touches p.trail d C))
      [ inl z ↦ absurd (e d (record { decision = h; touching = z })) | inr z ↦ z ])
  choice_meets C lk fa (Some d) ch =
      let tch = ch.allowed.touched in
      let an = analyse_analysed n p.trail w d C (falsified_all (on p.trail) C fa) in
      let u = one_touching n p.trail w d C tch.touching an in
      let r = picked_passes (λ x. in_chunk d p.trail (neg_ℤ x)) (learned n (left_over p.trail d C)) u.0 (learned_all n p.trail w C fa d tch (left_over p.trail d C) an u.0 u.1) u.2 in
      conflict C d (turned n p.trail d C) (left_over p.trail d C) lk fa ch an (learned_in n p.trail w C fa d tch (left_over p.trail d C) an (turned n p.trail d C) r.0) r.1

  status_meets : (C : List ℤ) → Look n g.source p (Some C) → (s : Status) → status (on p.trail) C ≡ s → Meets n L g p (by_status n L g p C s)
  status_meets C lk falsified e = choice_meets C lk e (choice L g.weighing p C) (choice_chooses n L g.weighing fair p w C)
  status_meets C lk (unit l) e = imply C l lk e
  status_meets C lk other e = elim (look_asserts n g.source p law w lk) [
    | inl f ↦ absurd (false≢true (ap is_falsified (sym e ∙ f)))
    | inr f ↦ absurd (false≢true (ap is_unit (sym e ∙ f.1)))
  ]

  lowest_meets : Look n g.source p None → Finds (missing p.trail) p.assumptions None → Finds (free n p.trail) g.preferences None
      → (o : Option ℕ) → Lowest (λ v. free n p.trail (pos v)) (suc n) o → Meets n L g p (by_lowest p o)
  lowest_meets lk al nf (Some v) h = lowest v lk al nf h.0 h.1
  lowest_meets lk al nf None h = completes lk al (λ v. elim (cases_lt v (suc n)) [ inl z ↦ h v z | inr z ↦ free_outside n p.trail v (λ a b. omega arith) ])

  preference_meets : Look n g.source p None → Finds (missing p.trail) p.assumptions None
      → (o : Option ℤ) → Finds (free n p.trail) g.preferences o → Meets n L g p (by_preference n p o)
  preference_meets lk al (Some l) f = prefer l lk al f
  preference_meets lk al None f = lowest_meets lk al f (lowest_of (λ v. free n p.trail (pos v)) 0 n)
      (subst (λ b. Lowest (λ v. free n p.trail (pos v)) b (lowest_of (λ v. free n p.trail (pos v)) 0 n)) (omega arith)
      (lowest_finds (λ v. free n p.trail (pos v)) 0 n (λ i z. free_outside n p.trail i (λ a b. omega arith))))

  assumption_meets : Look n g.source p None → (o : Option ℤ) → Finds (missing p.trail) p.assumptions o → Meets n L g p (by_assumption n g p o)
  assumption_meets lk (Some a) f = cond_both (on p.trail (neg_ℤ a))
      (stops refuted (a ∷ filter (λ r. in_chunk r p.trail (neg_ℤ a)) (assumed_literals p.trail))) (goes_on assuming 0 (placed p (assumed a))) (Meets n L g p)
      (λ h. denies a lk f h) (λ h. assume a lk f h)
  assumption_meets lk None f = preference_meets lk f (find (free n p.trail) g.preferences) (first_finds (free n p.trail) g.preferences)

  look_meets : (o : Option (List ℤ)) → Look n g.source p o → Meets n L g p (by_look n L g p o)
  look_meets (Some C) lk = status_meets C lk (status (on p.trail) C) refl
  look_meets None lk = assumption_meets lk (find (missing p.trail) p.assumptions) (first_finds (missing p.trail) p.assumptions)

  pub turn_meets : Meets n L g p (turn n L g p)
  turn_meets = look_meets (look n g.source p) (look_looks n g.source p)

module _ (n L : ℕ) (g : Guide) (law : LawfulAt n g.source) (fair : Fair g.weighing) where
  pub going_goes : (limit : ℕ) (p : Position) → Orderly n L p → Goes n L g limit p (going n L g limit p).report (going n L g limit p).search
  going_goes zero p o = by (turn n L g p) (turn_meets n L g p law fair o.formed)
    where
      by : (T : Turn) → Meets n L g p T → Goes n L g 0 p (at_limit p T).report (at_limit p T).search
      by (stops v ns) e = ends v ns e
      by (goes_on k u p') st = pauses (λ v ns e. end_or_step n L g p e st)
  going_goes (suc limit) p o = by (going_goes limit) (turn n L g p) (turn_meets n L g p law fair o.formed)
    where
      by : ((p' : Position) → Orderly n L p' → Goes n L g limit p' (going n L g limit p').report (going n L g limit p').search)
          → (T : Turn) → Meets n L g p T → Goes n L g (suc limit) p (below_limit p (going n L g limit) T).report (below_limit p (going n L g limit) T).search
      by ih (stops v ns) e = ends v ns e
      by ih (goes_on k u p') st = steps k u p' st (ih p' (step_advances n L g p law o st).orderly)

  pub running_runs : (limit : ℕ) (q : Search) → Orderly n L q.position → Run n L g limit q (running n L g limit q).report (running n L g limit q).search
  running_runs limit q o = cond_both (ended q.verdict) (record { report = no_steps q.verdict; search = q }) (going n L g limit q.position) (λ x. Run n L g limit q x.report x.search)
      (λ e. again e) (λ e. goes e (going_goes limit q.position o))
