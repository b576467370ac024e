-- Every session keeps the promise; and the counts of every session.
use Rattle.std.proofs.Common.{◌≡◌, ℕ, Bool, true, false, List, [], ◌∷◌, ◌++◌, ℤ, pos, sym, refl, ap, ◌∙◌, subst, append-nil}
use mathlib.Core.Bool.{false≢true}
use Rattle.std.proofs.lemmas.Bool.{cond_both}
use Rattle.rules.specs.Clauses.{is_falsified}
use Rattle.rules.specs.Sources.{LawfulAt, Lawful}
use Rattle.theory.specs.Trail.{Entry.assumed, Entry.decided, Entry.implied}
use Rattle.theory.specs.Look.{Position}
use Rattle.theory.specs.Conflict.{others_of, learned, written, slot_empty}
use Rattle.theory.specs.Search.{Kind.assuming, Kind.deciding, Kind.implying, Kind.conflicting, Guide, ended, Kind, Step, Step.conflict, Step.imply, Step.assume, Step.prefer, Step.lowest}
use Rattle.theory.specs.Run.{Search, Report, Run, Leads, Leads.start, Leads.along}
use Rattle.theory.specs.Calls.{Call, Reply, State, Next, Next.assumes, Next.assumes_outside, Next.assumes_full, Next.clears, Next.begins, Next.closes, Next.runs, Next.runs_other, Next.runs_short, Next.settles, Next.finds, Next.values, Next.values_without, Next.values_outside, Next.names, Next.names_without, Next.names_outside, Next.reopens}
use Rattle.theory.specs.Events.{Event, Grant, view_call, standing_assumptions, granted_runs, latest_verdict, of_run, EachRun}
use Rattle.theory.specs.Promise.{History, History.opening, History.more, Judged, Holds, Holds.under_way, Holds.at_rest, Undid, Added, Repaired, PromiseKept, PromiseKeptBefore}
use Rattle.theory.specs.Laws.{Counted, RunsCounted, StepsPlaced}
use Rattle.theory.proofs.Invariant.{Orderly}
use Rattle.theory.proofs.Steps.{step_advances}
use Rattle.theory.proofs.Repairing.{chunk_kept}
use Rattle.theory.proofs.Counts.{run_counted}
use Rattle.theory.proofs.Histories.{lawful_at, looking_before, looking_now, Kept, KeptState, history_kept, state_bounded}

-- what holds of each granted run holds of the run that a call was, if it was one
ran : (n L : ℕ) (P : Grant → Type 0)
    → ((limit : ℕ) (g : Guide) (r : Report) (q q' : Search) → g.source.count ≡ n → Run n L g limit q r q' → P (record { limit = limit; guide = g; report = r }))
    → {s : State} {c : Call} {a : Reply} {s' : State} → Next n L s c a s' → of_run (view_call c a) P
ran n L P h (runs {q} {q'} limit g scratch r count f x) = h limit g r q q' count x
ran n L P h (assumes l r f) = tt
ran n L P h (assumes_outside l r) = tt
ran n L P h (assumes_full l r f) = tt
ran n L P h clears = tt
ran n L P h begins = tt
ran n L P h closes = tt
ran n L P h (runs_other limit g scratch f) = tt
ran n L P h (runs_short limit g scratch e f) = tt
ran n L P h settles = tt
ran n L P h finds = tt
ran n L P h (values v a b) = tt
ran n L P h (values_without v a) = tt
ran n L P h (values_outside v a b) = tt
ran n L P h (names l a b) = tt
ran n L P h (names_without l a) = tt
ran n L P h (names_outside l a b) = tt
ran n L P h reopens = tt

each_run : (n L : ℕ) (P : Grant → List Event → Type 0)
    → ((before : List Event) (limit : ℕ) (g : Guide) (r : Report) (q q' : Search) → g.source.count ≡ n → Run n L g limit q r q' → P (record { limit = limit; guide = g; report = r }) before)
    → {h : List Event} {s : State} → History n L h s → EachRun P h
each_run n L P k opening = tt
each_run n L P k (more {h} p x) = (ran n L (λ g. P g h) (k h) x, each_run n L P k p)

-- REPAIR

abbrev is_conflict : Kind → Bool
is_conflict assuming = false
is_conflict deciding = false
is_conflict implying = false
is_conflict conflicting = true

-- filled slots stay as they were
slots_stay : (L : ℕ) (slots : List (List ℤ)) (C : List ℤ) → (more : List (List ℤ)) × (written L slots C ≡ slots ++ more)
slots_stay L slots C = cond_both (slot_empty L slots) (slots ++ (C ∷ [])) slots (λ k. (more : List (List ℤ)) × (k ≡ slots ++ more)) (λ _. (C ∷ [], refl)) (λ _. ([], sym (append-nil slots)))

step_undid : (n L : ℕ) (g : Guide) (p : Position) {k : Kind} {u : ℕ} {p' : Position} → Step n L g p k u p' → k ≡ conflicting → Undid n L g p p' u
step_undid n L g p (conflict C d u S lk fa ch an su tu) e =
    record { clause = C; looked = (lk, ap is_falsified fa); decision = d; allowed = ch.allowed; least = ch.least; rest = (u, others_of u (learned n S), refl); many = chunk_kept p.trail d; slots = slots_stay L p.slots (learned n S) }
step_undid n L g p (imply C l lk st) e = absurd (false≢true (ap is_conflict e))
step_undid n L g p (assume a lk f z) e = absurd (false≢true (ap is_conflict e))
step_undid n L g p (prefer l lk al f) e = absurd (false≢true (ap is_conflict e))
step_undid n L g p (lowest v lk al nf f low) e = absurd (false≢true (ap is_conflict e))

step_added : (n L : ℕ) (g : Guide) (p : Position) {k : Kind} {u : ℕ} {p' : Position} → Step n L g p k u p' → (k ≡ conflicting → ⊥) → Added p p' u
step_added n L g p (conflict C d u S lk fa ch an su tu) h = absurd (h refl)
step_added n L g p (imply C l lk st) h = ((implied l (others_of l C), refl), refl, refl)
step_added n L g p (assume a lk f z) h = ((assumed a, refl), refl, refl)
step_added n L g p (prefer l lk al f) h = ((decided l, refl), refl, refl)
step_added n L g p (lowest v lk al nf f low) h = ((decided (pos v), refl), refl, refl)

leads_orderly : (n L : ℕ) (g : Guide) (p : Position) → LawfulAt n g.source → Orderly n L p → {p' : Position} → Leads n L g p p' → Orderly n L p'
leads_orderly n L g p law o start = o
leads_orderly n L g p law o (along {p₁} l st) = (step_advances n L g p₁ law (leads_orderly n L g p law o l) st).orderly

run_repaired : (n L : ℕ) (before : List Event) (limit : ℕ) (g : Guide) (r : Report) → g.source.count ≡ n → Repaired n L (record { limit = limit; guide = g; report = r }) before
run_repaired n L before limit g r count law q past open-still p l =
    let gr : Grant = record { limit = limit; guide = g; report = r } in
    let kept : Kept n L (granted_runs before) (standing_assumptions before) q = history_kept n L past in
    let still : ended (latest_verdict (granted_runs before)) ≡ false = sym (ap ended kept.gave) ∙ open-still in
    let lawful = lawful_at n g.source count (looking_now (λ x. Lawful x.guide.source) gr (granted_runs before) still law) in
    let o = (kept.orderly (looking_before (λ x. Lawful x.guide.source) gr (granted_runs before) law)).0 in
    ((λ p' k u st. (step_undid n L g p st, step_added n L g p st)), (leads_orderly n L g q.position lawful o l).formed)

-- THE PROMISE

held : (n L : ℕ) (gs : List Grant) (assumptions : List ℤ) {q : Search} {s : State} → Holds q s → KeptState n L gs assumptions s → Kept n L gs assumptions q
held n L gs assumptions under_way k = k
held n L gs assumptions at_rest k = k

pub promise_kept : PromiseKept
promise_kept n L h s p =
    let kept = history_kept n L p in
    record {
      assumptions = λ q hs. (held n L (granted_runs h) (standing_assumptions h) hs kept).began;
      verdict = λ q hs. (held n L (granted_runs h) (standing_assumptions h) hs kept).gave;
      verdicts = λ q hs m one.
          let k = held n L (granted_runs h) (standing_assumptions h) hs kept in
          subst (λ gs. Judged n m gs q) k.began (k.judged m one).1;
      steps = state_bounded n L (granted_runs h) (standing_assumptions h) s kept;
      repair = each_run n L (Repaired n L) (λ before limit g r q q' count x. run_repaired n L before limit g r count) p;
    }

past : (n L : ℕ) (later h : List Event) (s : State) → History n L (later ++ h) s → (s' : State) × History n L h s'
past n L [] h s p = (s, p)
past n L (e ∷ later) h s p = last n L e (later ++ h) p (past n L later h)
  where
    last : (n L : ℕ) (e : Event) (h' : List Event) {s : State} → History n L (e ∷ h') s
        → ((s₁ : State) → History n L h' s₁ → (s' : State) × History n L h s') → (s' : State) × History n L h s'
    last n L e h' (more {s = s₁} p x) f = f s₁ p

pub promise_kept_before : PromiseKeptBefore
promise_kept_before n L later h s p = let r = past n L later h s p in (r.0, r.1, promise_kept n L h r.0 r.1)

-- COUNTS

pub runs_counted : RunsCounted
runs_counted n L h s p = each_run n L (λ g before. Counted g) (λ before limit g r q q' count x. run_counted n L g x) p

pub steps_placed : StepsPlaced
steps_placed n L h s p q hs = (held n L (granted_runs h) (standing_assumptions h) hs (history_kept n L p)).placed
