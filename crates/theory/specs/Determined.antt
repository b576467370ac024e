-- Each rule determines its result, and every call that a state takes has an answer.
use Rattle.std.specs.Prelude.{◌≡◌, ℕ, Bool, true, ◌⊎◌, List, map, ℤ, Option}
use Rattle.rules.specs.Sources.{Meaning, LawfulAt, Lawful}
use Rattle.theory.specs.Weighing.{Weighing, Fair}
use Rattle.theory.specs.Trail.{Trail, WellFormed}
use Rattle.theory.specs.Chunks.{Chunk, in_chunk}
use Rattle.theory.specs.Look.{Position, Look}
use Rattle.theory.specs.Conflict.{Chosen, Analysed}
use Rattle.theory.specs.Search.{Guide, Verdict, Ends, Kind, Step}
use Rattle.theory.specs.Run.{Search, Report, Run}
use Rattle.theory.specs.Calls.{Call, Call.assume, Call.clear, Call.begin, Call.close, Call.run, Call.settle, Call.verdict, Call.value, Call.named, Call.reopen, Reply, State, State.idle, State.searching, State.settled, Next}
use Rattle.theory.specs.Events.{Event, granted_runs}
use Rattle.theory.specs.Promise.{History, LawfulRuns}

-- The chunk as a test decides the chunk as a relation.
abbrev pub ChunkDecided : Type 0
ChunkDecided = (n : ℕ) (t : Trail) → WellFormed n t → (d x : ℤ) → (Chunk t d x → in_chunk d t x ≡ true) × (in_chunk d t x ≡ true → Chunk t d x)

-- A look finds one clause or none, one chunk is chosen, the analysis leaves one set.
abbrev pub LookDetermined : Type 0
LookDetermined = (n : ℕ) (m : Meaning) (p : Position) (found found' : Option (List ℤ)) → Look n m p found → Look n m p found' → found ≡ found'

abbrev pub ChoiceDetermined : Type 0
ChoiceDetermined = (L : ℕ) (w : Weighing) (p : Position) (C : List ℤ) (c d : ℤ) → Chosen L w p C c → Chosen L w p C d → c ≡ d

abbrev pub AnalysisDetermined : Type 0
AnalysisDetermined = (member : ℤ → Bool) (t : Trail) (S R R' : ℤ → Bool) → Analysed member t S R → Analysed member t S R' → R ≡ R'

-- A position ends in one way or leads to one step, and not both.
abbrev pub EndDetermined : Type 0
EndDetermined = (n : ℕ) (m : Meaning) (p : Position) (v v' : Verdict) (ns ns' : List ℤ) → Ends n m p v ns → Ends n m p v' ns' → (v ≡ v') × (ns ≡ ns')

abbrev pub StepDetermined : Type 0
StepDetermined = (n L : ℕ) (g : Guide) (p : Position) (k k' : Kind) (u u' : ℕ) (p₁ p₂ : Position) → Step n L g p k u p₁ → Step n L g p k' u' p₂ → (k ≡ k') × (u ≡ u') × (p₁ ≡ p₂)

abbrev pub EndOrStep : Type 0
EndOrStep = (n L : ℕ) (g : Guide) (p p' : Position) (v : Verdict) (ns : List ℤ) (k : Kind) (u : ℕ) → Ends n g.source p v ns → Step n L g p k u p' → ⊥

-- On a well-formed trail, with a lawful source and a fair weighing, there is the one or the other.
abbrev pub EndOrStepThere : Type 0
EndOrStepThere = (n L : ℕ) (g : Guide) (p : Position) → LawfulAt n g.source → Fair g.weighing → WellFormed n p.trail
    → ((v : Verdict) × (ns : List ℤ) × Ends n g.source p v ns) ⊎ ((k : Kind) × (u : ℕ) × (p' : Position) × Step n L g p k u p')

-- A run has one report and leads to one search.
abbrev pub RunDetermined : Type 0
RunDetermined = (n L : ℕ) (g : Guide) (limit : ℕ) (q q₁ q₂ : Search) (r₁ r₂ : Report) → Run n L g limit q r₁ q₁ → Run n L g limit q r₂ q₂ → (r₁ ≡ r₂) × (q₁ ≡ q₂)

-- The calls alone determine what was answered and the state that they led to.
abbrev pub AnswersDetermined : Type 0
AnswersDetermined = (n L : ℕ) (h h' : List Event) (s s' : State) → History n L h s → History n L h' s' → map (λ e. e.call) h ≡ map (λ e. e.call) h' → (h ≡ h') × (s ≡ s')

-- the calls that a state takes
pub data Takes : State → Call → Type 0 where
  assumes : {ls : List ℤ} (l : ℤ) → Takes (idle ls) (assume l)
  clears : {ls : List ℤ} → Takes (idle ls) clear
  begins : {ls : List ℤ} → Takes (idle ls) begin
  closes : {ls : List ℤ} → Takes (idle ls) close
  runs : {q : Search} (limit : ℕ) (g : Guide) (scratch : ℕ) → Takes (searching q) (run limit g scratch)
  settles : {q : Search} → Takes (searching q) settle
  finds : {q : Search} → Takes (settled q) verdict
  values : {q : Search} (v : ℕ) → Takes (settled q) (value v)
  names : {q : Search} (l : ℤ) → Takes (settled q) (named l)
  reopens : {q : Search} → Takes (settled q) reopen

-- Each of them has an answer, where runs are given lawful sources and fair weighings.
abbrev pub CallsAnswered : Type 0
CallsAnswered = (n L : ℕ) (h : List Event) (s : State) → History n L h s → LawfulRuns (granted_runs h) → (c : Call) → Takes s c
    → ((limit : ℕ) (g : Guide) (scratch : ℕ) → c ≡ run limit g scratch → Lawful g.source × Fair g.weighing)
    → (a : Reply) × (s' : State) × Next n L s c a s'
