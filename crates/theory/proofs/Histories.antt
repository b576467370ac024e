-- What holds of every state that a list of calls leads to.
use Rattle.std.proofs.Common.{◌≡◌, ℕ, suc, ◌+◌, ◌*◌, ◌^◌, ◌<◌, ◌≤◌, Bool, true, false, cond, List, [], ◌∷◌, ◌++◌, length, ℤ, All, sym, refl, ap, ◌∙◌, subst, inl, arith}
use mathlib.Core.Bool.{false≢true}
use Rattle.std.proofs.lemmas.List.Elements.{All-nil, All-head, All-tail, All-push, All-weaker}
use Rattle.std.proofs.lemmas.List.Sums.{sum_by-cons}
use Rattle.std.proofs.lemmas.Bool.{cond-false}
use Rattle.rules.specs.Literals.{in_range}
use Rattle.rules.specs.Sources.{Meaning, LawfulAt, Lawful}
use Rattle.theory.specs.Search.{ended}
use Rattle.theory.specs.Run.{Search, Goes, Run, Run.again, Run.goes}
use Rattle.theory.specs.Calls.{Call, Reply, State, State.idle, State.searching, State.settled, State.closed, begun, Next, Next.assumes, Next.assumes_outside, Next.assumes_full, Next.clears, Next.begins, Next.closes, Next.runs, Next.runs_other, Next.runs_short, Next.settles, Next.finds, Next.values, Next.values_without, Next.values_outside, Next.names, Next.names_without, Next.names_outside, Next.reopens}
use Rattle.theory.specs.Events.{Event, Grant, assumptions_after, runs_after, view_call, standing_assumptions, granted_runs, latest_verdict, looking, reported_steps, undone_literals}
use Rattle.theory.specs.Promise.{History, History.opening, History.more, LawfulRuns, OneSource, Judged, step_bound}
use Rattle.theory.proofs.Invariant.{InRange, Orderly, Sound, potential, potential_most}
use Rattle.theory.proofs.Ends.{open_judged, goes_orderly, goes_judged}
use Rattle.theory.proofs.Counts.{run_placed, run_kept}

pub lawful_at : (n : ℕ) (m : Meaning) → m.count ≡ n → Lawful m → LawfulAt n m
lawful_at n m e l = subst (λ k. LawfulAt k m) e l

-- THE RUNS THAT LOOKED

-- what holds of each of them held of each before the latest run,
pub looking_before : (P : Grant → Type 0) (g : Grant) (gs : List Grant) → All P (looking (g ∷ gs)) → All P (looking gs)
looking_before P g gs h = by (ended (latest_verdict gs)) h
  where
    by : (b : Bool) → All P (cond b (looking gs) (g ∷ looking gs)) → All P (looking gs)
    by true k = k
    by false k = All-tail P g (looking gs) k

-- and holds of that run itself if the search had not ended
pub looking_now : (P : Grant → Type 0) (g : Grant) (gs : List Grant) → ended (latest_verdict gs) ≡ false → All P (looking (g ∷ gs)) → P g
looking_now P g gs e h = let k : All P (g ∷ looking gs) = subst (All P) (cond-false (ended (latest_verdict gs)) (looking gs) (g ∷ looking gs) e) h in All-head P g (looking gs) k

source_lawful : (n : ℕ) (gs : List Grant) (m : Meaning) → OneSource n gs m → LawfulRuns gs
source_lawful n gs m one = All-weaker (λ g. g.guide.source ≡ m) (λ g. Lawful g.guide.source) (λ g e. subst Lawful (sym e) one.lawful) (looking gs) one.unchanged

source_before : (n : ℕ) (g : Grant) (gs : List Grant) (m : Meaning) → OneSource n (g ∷ gs) m → OneSource n gs m
source_before n g gs m one = record { counts = one.counts; lawful = one.lawful; unchanged = looking_before (λ x. x.guide.source ≡ m) g gs one.unchanged }

-- WHAT HOLDS OF EVERY STATE

-- of a search, with its granted runs and the assumptions that stand
pub record Kept (n L : ℕ) (gs : List Grant) (assumptions : List ℤ) (q : Search) : Type 0 where
  pub ranged : InRange n q.position.assumptions
  pub began : q.position.assumptions ≡ assumptions
  pub gave : q.verdict ≡ latest_verdict gs
  pub placed : length q.position.trail + undone_literals gs ≡ reported_steps gs
  pub orderly : LawfulRuns gs → Orderly n L q.position × (reported_steps gs ≤ potential n q.position)
  pub judged : (m : Meaning) → OneSource n gs m → Sound n m q.position × Judged n m q.position.assumptions q

abbrev Bounded : ℕ → ℕ → List Grant → Type 0
Bounded n L gs = LawfulRuns gs → reported_steps gs < step_bound n L

abbrev pub KeptState : ℕ → ℕ → List Grant → List ℤ → State → Type 0
KeptState n L gs assumptions (idle ls) = InRange n ls × (ls ≡ assumptions) × Bounded n L gs
KeptState n L gs assumptions (searching q) = Kept n L gs assumptions q
KeptState n L gs assumptions (settled q) = Kept n L gs assumptions q
KeptState n L gs assumptions closed = Bounded n L gs

bound_is : (n L : ℕ) → step_bound n L ≡ suc L * suc n ^ suc n
bound_is n L = let a : L + 1 ≡ suc L = omega arith in let b : n + 1 ≡ suc n = omega arith in rw (a, b) refl

kept_bounded : (n L : ℕ) (gs : List Grant) (assumptions : List ℤ) (q : Search) → Kept n L gs assumptions q → Bounded n L gs
kept_bounded n L gs assumptions q k law =
    let a = k.orderly law in
    let b = potential_most n L q.position a.0 in
    let c = a.1 in
    rw (bound_is n L) (omega arith)

pub begun_orderly : (n L : ℕ) (assumptions : List ℤ) → InRange n assumptions → Orderly n L (begun assumptions).position
begun_orderly n L assumptions r = record { formed = tt; few = omega arith; ranged = r; slots_ranged = All-nil (InRange n); early = inl refl; rooted = λ x h. absurd (false≢true h) }

begun_kept : (n L : ℕ) (assumptions : List ℤ) → InRange n assumptions → Kept n L [] assumptions (begun assumptions)
begun_kept n L assumptions r = record {
  ranged = r;
  began = refl;
  gave = refl;
  placed = refl;
  orderly = λ _. (begun_orderly n L assumptions r, omega arith);
  judged = λ m _. (record { reasons = tt; slots = All-nil _ }, open_judged n m assumptions (begun assumptions) refl);
}

-- a granted run
module _ (n L : ℕ) (gs : List Grant) (assumptions : List ℤ) (q q' : Search) (g : Grant) (count : g.guide.source.count ≡ n) (k : Kept n L gs assumptions q) where
  orderly_before : LawfulRuns (g ∷ gs) → Orderly n L q.position × (reported_steps gs ≤ potential n q.position)
  orderly_before law = k.orderly (looking_before (λ x. Lawful x.guide.source) g gs law)

  steps_more : reported_steps (g ∷ gs) ≡ g.report.steps + reported_steps gs
  steps_more = sum_by-cons (λ x. x.report.steps) g gs

  ran_kept : Run n L g.guide g.limit q g.report q'
      → (LawfulRuns (g ∷ gs) → Orderly n L q'.position × (reported_steps (g ∷ gs) ≤ potential n q'.position))
      → ((m : Meaning) → OneSource n (g ∷ gs) m → Sound n m q'.position × Judged n m q'.position.assumptions q') → Kept n L (g ∷ gs) assumptions q'
  ran_kept r o j =
      let kept = run_kept n L g.guide r in
      let a = steps_more in let b = sum_by-cons (λ x. x.report.undone) g gs in let c = k.placed in let d = run_placed n L g.guide r in
      record {
        ranged = subst (InRange n) (sym kept.0) k.ranged;
        began = kept.0 ∙ k.began;
        gave = sym kept.1;
        placed = omega arith;
        orderly = o;
        judged = j;
      }

  -- of a search that has ended
  again_kept : q' ≡ q → g.report.steps ≡ 0 → Run n L g.guide g.limit q g.report q' → Kept n L (g ∷ gs) assumptions q'
  again_kept same zero r = ran_kept r
      (λ law.
      let o = orderly_before law in let a = steps_more in let b = o.1 in
      subst (λ y. Orderly n L y.position × (reported_steps (g ∷ gs) ≤ potential n y.position)) (sym same) (o.0, omega arith))
      (λ m one. subst (λ y. Sound n m y.position × Judged n m y.position.assumptions y) (sym same) (k.judged m (source_before n g gs m one)))

  -- of a search that has not
  goes_kept : ended q.verdict ≡ false → Goes n L g.guide g.limit q.position g.report q' → Kept n L (g ∷ gs) assumptions q'
  goes_kept e go = ran_kept (goes e go)
      (λ law.
      let o = orderly_before law in
      let r = goes_orderly n L g.guide (lawful_at n g.guide.source count (looking_now (λ x. Lawful x.guide.source) g gs still law)) go o.0 in
      let a = steps_more in let b = o.1 in let c = r.1 in
      (r.0, omega arith))
      (λ m one.
      let is : g.guide.source ≡ m = looking_now (λ x. x.guide.source ≡ m) g gs still one.unchanged in
      let law = lawful_at n g.guide.source count (subst Lawful (sym is) one.lawful) in
      let o = orderly_before (source_lawful n (g ∷ gs) m one) in
      let s : Sound n g.guide.source q.position = subst (λ x. Sound n x q.position) (sym is) (k.judged m (source_before n g gs m one)).0 in
      subst (λ x. Sound n x q'.position × Judged n x q'.position.assumptions q') is (goes_judged n L g.guide law go o.0 s))
    where
      still : ended (latest_verdict gs) ≡ false
      still = sym (ap ended k.gave) ∙ e

next_kept : (n L : ℕ) (gs : List Grant) (assumptions : List ℤ) {s : State} {c : Call} {a : Reply} {s' : State} → Next n L s c a s' → KeptState n L gs assumptions s
    → KeptState n L (runs_after (view_call c a) gs) (assumptions_after (view_call c a) assumptions) s'
next_kept n L gs st (assumes {ls} l r f) k = (All-push (λ x. in_range n x ≡ true) ls l k.0 r, ap (λ ks. ks ++ (l ∷ [])) k.1, k.2)
next_kept n L gs st (assumes_outside l r) k = k
next_kept n L gs st (assumes_full l r f) k = k
next_kept n L gs st clears k = (All-nil (λ l. in_range n l ≡ true), refl, k.2)
next_kept n L gs st (begins {ls}) k = subst (λ ks. Kept n L [] ks (begun ls)) k.1 (begun_kept n L ls k.0)
next_kept n L gs st closes k = k.2
next_kept n L gs st (runs limit g scratch r count f (again {q = q} e)) k = again_kept n L gs st q q (record { limit = limit; guide = g; report = r }) count k refl refl (again e)
next_kept n L gs st (runs limit g scratch r count f (goes {q = q} {q' = q'} e go)) k = goes_kept n L gs st q q' (record { limit = limit; guide = g; report = r }) count k e go
next_kept n L gs st (runs_other limit g scratch f) k = k
next_kept n L gs st (runs_short limit g scratch e f) k = k
next_kept n L gs st settles k = k
next_kept n L gs st finds k = k
next_kept n L gs st (values v a b) k = k
next_kept n L gs st (values_without v a) k = k
next_kept n L gs st (values_outside v a b) k = k
next_kept n L gs st (names l a b) k = k
next_kept n L gs st (names_without l a) k = k
next_kept n L gs st (names_outside l a b) k = k
next_kept n L gs st (reopens {q}) k = (k.ranged, k.began, kept_bounded n L gs st q k)

pub history_kept : (n L : ℕ) {h : List Event} {s : State} → History n L h s → KeptState n L (granted_runs h) (standing_assumptions h) s
history_kept n L opening =
    let none = All-nil (λ l. in_range n l ≡ true) in (none, refl, λ _. let a = potential_most n L (begun []).position (begun_orderly n L [] none) in rw (bound_is n L) (omega arith))
history_kept n L (more {h} p x) = next_kept n L (granted_runs h) (standing_assumptions h) x (history_kept n L p)

pub state_bounded : (n L : ℕ) (gs : List Grant) (assumptions : List ℤ) (s : State) → KeptState n L gs assumptions s → LawfulRuns gs → reported_steps gs < step_bound n L
state_bounded n L gs st (idle ls) k = k.2
state_bounded n L gs st (searching q) k = kept_bounded n L gs st q k
state_bounded n L gs st (settled q) k = kept_bounded n L gs st q k
state_bounded n L gs st closed k = k
