-- The promise of a session, for every list of calls.
use Rattle.std.specs.Prelude.{◌≡◌, ℕ, ◌+◌, ◌*◌, ◌^◌, ◌<◌, Bool, true, false, List, [], ◌∷◌, ◌++◌, length, ℤ, Some, All, ◌≢◌}
use Rattle.rules.specs.Literals.{has}
use Rattle.rules.specs.Sources.{makes, assignment, Meaning, Lawful}
use Rattle.theory.specs.Trail.{Entry, Entry.implied, on, WellFormed}
use Rattle.theory.specs.Chunks.{chunk, without_chunk}
use Rattle.theory.specs.Look.{Position, falsified_on, Look}
use Rattle.theory.specs.Conflict.{Allowed}
use Rattle.theory.specs.Search.{Guide, Verdict.model, Verdict.refuted, ended, Kind, Kind.conflicting, Step}
use Rattle.theory.specs.Run.{Search, Leads}
use Rattle.theory.specs.Calls.{State, State.idle, State.searching, State.settled, Next}
use Rattle.theory.specs.Events.{Event, Grant, standing_assumptions, granted_runs, latest_verdict, looking, reported_steps, EachRun}

-- The calls of a session of n variables and L slots from its opening on, the newest first, and the state that they led to.
pub data History (n L : ℕ) : List Event → State → Type 0 where
  opening : History n L [] (idle [])
  more : {h : List Event} {s : State} {e : Event} {s' : State} → History n L h s → Next n L s e.call e.reply s' → History n L (e ∷ h) s'

-- PREMISES. Those of a search's granted runs that looked questioned lawful sources; they questioned one unchanged lawful source.
abbrev pub LawfulRuns : List Grant → Type 0
LawfulRuns gs = All (λ g. Lawful g.guide.source) (looking gs)

pub record OneSource (n : ℕ) (gs : List Grant) (m : Meaning) : Type 0 where
  pub counts : m.count ≡ n
  pub lawful : Lawful m
  pub unchanged : All (λ g. g.guide.source ≡ m) (looking gs)

-- VERDICTS. An admitted assignment makes all of some literals true; none does.
abbrev pub Fulfils : ℕ → Meaning → List ℤ → List Bool → Type 0
Fulfils n m ls bs = (length bs ≡ n) × (m.admits bs ≡ true) × All (λ l. makes bs l ≡ true) ls

abbrev pub Impossible : ℕ → Meaning → List ℤ → Type 0
Impossible n m ls = (bs : List Bool) → Fulfils n m ls bs → ⊥

-- A search that has ended gave Refuted exactly when no admitted assignment makes all assumptions true, and then none makes all
-- named ones true; otherwise Model, and the trail's assignment, by which values are answered, is admitted and makes them all true.
pub record Judged (n : ℕ) (m : Meaning) (assumptions : List ℤ) (q : Search) : Type 0 where
  pub refuted_so : q.verdict ≡ refuted → Impossible n m assumptions
  pub refuted_when : ended q.verdict ≡ true → Impossible n m assumptions → q.verdict ≡ refuted
  pub named_so : q.verdict ≡ refuted → Impossible n m q.named
  pub named_assumed : q.verdict ≡ refuted → All (λ l. has assumptions l ≡ true) q.named
  pub model_so : q.verdict ≡ model → Fulfils n m assumptions (assignment n (on q.position.trail))

-- the search of a state, under way or settled
pub data Holds (q : Search) : State → Type 0 where
  under_way : Holds q (searching q)
  at_rest : Holds q (settled q)

-- STEPS. What the runs of a search reported adds up to less than this.
abbrev pub step_bound : ℕ → ℕ → ℕ
step_bound n L = (L + 1) * (n + 1) ^ (n + 1)

-- REPAIR. A conflict step undid one allowed chunk and nothing else, at most as heavy as every other allowed one, and placed a literal.
-- Filled slots stayed as they were.
pub record Undid (n L : ℕ) (g : Guide) (p p' : Position) (undone : ℕ) : Type 0 where
  pub clause : List ℤ
  pub looked : Look n g.source p (Some clause) × (falsified_on p.trail clause ≡ true)
  pub decision : ℤ
  pub allowed : Allowed L p clause decision
  pub least : (c : ℤ) → Allowed L p clause c → g.weighing (chunk p.trail decision) (chunk p.trail c) ≡ true
  pub rest : (l : ℤ) × (others : List ℤ) × (p'.trail ≡ implied l others ∷ without_chunk p.trail decision)
  pub many : undone + length (without_chunk p.trail decision) ≡ length p.trail
  pub slots : (more : List (List ℤ)) × (p'.slots ≡ p.slots ++ more)

-- Any other step undid nothing: it placed a literal.
abbrev pub Added : Position → Position → ℕ → Type 0
Added p p' undone = ((placed : Entry) × (p'.trail ≡ placed ∷ p.trail)) × (p'.slots ≡ p.slots) × (undone ≡ 0)

-- Each step from a position is so.
abbrev pub Careful : ℕ → ℕ → Guide → Position → Type 0
Careful n L g p = (p' : Position) (k : Kind) (undone : ℕ) → Step n L g p k undone p'
    → (k ≡ conflicting → Undid n L g p p' undone) × ((k ≢ conflicting) → Added p p' undone)

-- At each position of a granted run steps are careful, and implied literals have reasons whose other literals are false and stand earlier.
abbrev pub Repaired : ℕ → ℕ → Grant → List Event → Type 0
Repaired n L g before = LawfulRuns (g ∷ granted_runs before) → (q : Search) → History n L before (searching q) → ended q.verdict ≡ false
    → (p : Position) → Leads n L g.guide q.position p → Careful n L g.guide p × WellFormed n p.trail

-- THE PROMISE of the calls h and the state s that they led to.
pub record Promise (n L : ℕ) (h : List Event) (s : State) : Type 0 where
  pub assumptions : (q : Search) → Holds q s → q.position.assumptions ≡ standing_assumptions h
  pub verdict : (q : Search) → Holds q s → q.verdict ≡ latest_verdict (granted_runs h)
  pub verdicts : (q : Search) → Holds q s → (m : Meaning) → OneSource n (granted_runs h) m → Judged n m (standing_assumptions h) q
  pub steps : LawfulRuns (granted_runs h) → reported_steps (granted_runs h) < step_bound n L
  pub repair : EachRun (Repaired n L) h

-- Every session keeps it, and kept it at every earlier moment.
abbrev pub PromiseKept : Type 0
PromiseKept = (n L : ℕ) (h : List Event) (s : State) → History n L h s → Promise n L h s

abbrev pub PromiseKeptBefore : Type 0
PromiseKeptBefore = (n L : ℕ) (later h : List Event) (s : State) → History n L (later ++ h) s → (s' : State) × History n L h s' × Promise n L h s'
