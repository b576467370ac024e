-- A session's states, what each stands for, and what is promised of each of its calls.
use Rattle.std.specs.Prelude.{ℕ, ◌*◌, ◌<◌, Bool, true, false, cond, ◌&&◌, List, ◌∷◌, length, replicate, ℤ, pos, Some, None, Ok, Err, Option, Result, ◌==◌, nat_le, nat_lt}
use Rattle.rules.specs.Literals.{in_range, has}
use Rattle.rules.specs.Sources.{makes, assignment, Lawful}
use Rattle.theory.specs.Trail.{on}
use Rattle.theory.specs.Calls.{Call, Reply, State, State.idle, State.searching, State.settled, Next}
use Rattle.theory.specs.Events.{Event, EachRun, granted_runs, reported_steps}
use Rattle.theory.specs.Promise.{History, Promise, step_bound}
use Rattle.session.specs.Words.{size}
use Rattle.session.specs.Decode.{assumptions_of}
use Rattle.session.specs.Searches.{search_in}
use Rattle.session.specs.declared.report.Verdict.{Verdict}
use Rattle.session.specs.declared.report.Verdict.TheVariants.{Open, Paused, Model, Refuted}
use Rattle.session.specs.declared.report.Refusal.{Refusal}
use Rattle.session.specs.declared.report.Refusal.TheVariants.{Unfit, NoVariable, Full, OtherCount, ShortScratch, NoModel, NotRefuted}
use Rattle.session.specs.declared.states.Idle.{Idle}
use Rattle.session.specs.declared.states.Search.{Search}
use Rattle.session.specs.declared.states.Settled.{Settled}

-- STATES

abbrev pub standing : Idle → List ℤ
standing s = assumptions_of s.assumptions s.words.now

abbrev pub idle_state : Idle → State
idle_state s = idle (standing s)

abbrev pub search_state : Search → State
search_state s = searching (search_in s.progress)

abbrev pub settled_state : Settled → State
settled_state s = settled (search_in s.progress)

-- THE PROMISE

-- A list of calls whose runs were given lawful sources, as every source is, and the state that it led to.
pub record Lived (n L : ℕ) (h : List Event) (s : State) : Type 0 where
  pub history : History n L h s
  pub lawful : EachRun (λ g before. Lawful g.guide.source) h

-- What is promised of a call of a session of n variables and L slots: it answers and leaves what the rules say; and whatever calls led to
-- the state that it was made in, these and this one led to the state that it leaves, and the whole promise holds there.
pub record Promised (n L : ℕ) (s : State) (call : Call) (reply : Reply) (s' : State) : Type 0 where
  pub next : Next n L s call reply s'
  pub lives : (h : List Event) → Lived n L h s → Lived n L (record { call = call; reply = reply } ∷ h) s'
  pub promise : (h : List Event) → Lived n L h s → Promise n L (record { call = call; reply = reply } ∷ h) s'
  pub steps : (h : List Event) → Lived n L h s → reported_steps (granted_runs (record { call = call; reply = reply } ∷ h)) < step_bound n L

-- ANSWERS

-- whether n variables and L slots fit into so many words, and what fits answers
abbrev pub fitting : ℕ → ℕ → ℕ → Bool
fitting n L words = nat_le n 1000 && (nat_le L 1000 && nat_le (size n L) words)

abbrev pub fit_answer : ℕ → ℕ → ℕ → Result (Unit {0}) Refusal
fit_answer n L words = cond (fitting n L words) (Ok tt) (Err Unfit)

-- 2: the literal is 0, or its variable is outside 1 to n. 3: 2n assumptions stand already.
abbrev pub assume_answer : ℕ → ℕ → ℤ → Result (Unit {0}) Refusal
assume_answer n count l = cond (in_range n l) (cond (nat_lt count (2 * n)) (Ok tt) (Err Full)) (Err NoVariable)

-- Why a run is refused. 4: the source's count is not n. 5: the scratch has fewer than n bytes.
abbrev pub run_refusal : ℕ → ℕ → ℕ → Option Refusal
run_refusal n count bytes = cond (count == n) (cond (nat_lt bytes n) (Some ShortScratch) None) (Some OtherCount)

-- what a run leaves of the scratch: 0 in every byte, or what was there where it is refused
abbrev pub scratch_after : Option Refusal → List ℕ → List ℕ
scratch_after None bytes = replicate (length bytes) 0
scratch_after (Some refusal) bytes = bytes

abbrev pub is_model : Verdict → Bool
is_model Open = false
is_model Paused = false
is_model Model = true
is_model Refuted = false

abbrev pub is_refuted : Verdict → Bool
is_refuted Open = false
is_refuted Paused = false
is_refuted Model = false
is_refuted Refuted = true

-- 6: the verdict is not Model. 2: the variable is outside 1 to n.
abbrev pub value_answer : Settled → ℕ → Result Bool Refusal
value_answer s v = cond (is_model s.progress.verdict)
    (cond (in_range s.progress.memory.layout.variables (pos v)) (Ok (makes (assignment s.progress.memory.layout.variables (on (search_in s.progress).position.trail)) (pos v))) (Err NoVariable)) (Err NoModel)

-- 7: the verdict is not Refuted. 2: the literal is 0, or its variable is outside 1 to n.
abbrev pub named_answer : Settled → ℤ → Result Bool Refusal
named_answer s l = cond (is_refuted s.progress.verdict) (cond (in_range s.progress.memory.layout.variables l) (Ok (has (search_in s.progress).named l)) (Err NoVariable)) (Err NotRefuted)
