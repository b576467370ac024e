-- The calls of a session: what each takes, answers and leaves.
use Rattle.std.specs.Prelude.{◌≡◌, ℕ, ◌*◌, ◌<◌, ◌≤◌, Bool, true, false, List, [], ◌∷◌, ◌++◌, length, ℤ, pos, ◌≢◌}
use Rattle.rules.specs.Literals.{in_range, has}
use Rattle.rules.specs.Sources.{makes, assignment}
use Rattle.theory.specs.Trail.{on}
use Rattle.theory.specs.Search.{Guide, Verdict, Verdict.still_open, Verdict.model, Verdict.refuted}
use Rattle.theory.specs.Run.{Search, Report, Run}

pub data Call : Type 0 where
  assume : ℤ → Call
  clear : Call
  begin : Call
  close : Call
  run : (limit : ℕ) (guide : Guide) (scratch : ℕ) → Call
  settle : Call
  verdict : Call
  value : ℕ → Call
  named : ℤ → Call
  reopen : Call

-- what a call answers; a refusal has its number
pub data Reply : Type 0 where
  done : Reply
  reported : Report → Reply
  found : Verdict → Reply
  said : Bool → Reply
  refused : ℕ → Reply

pub data State : Type 0 where
  idle : List ℤ → State
  searching : Search → State
  settled : Search → State
  closed : State

-- a search that was just begun: an empty trail and empty slots
abbrev pub begun : List ℤ → Search
begun assumptions = record { position = record { assumptions = assumptions; trail = []; slots = [] }; verdict = still_open; named = [] }

-- What each call answers and leaves, in a session of n variables and L slots.
pub data Next (n L : ℕ) : State → Call → Reply → State → Type 0 where
  assumes : {ls : List ℤ} (l : ℤ) → in_range n l ≡ true → length ls < 2 * n → Next n L (idle ls) (assume l) done (idle (ls ++ (l ∷ [])))
  -- 2: the literal is 0, or its variable is outside 1 to n
  assumes_outside : {ls : List ℤ} (l : ℤ) → in_range n l ≡ false → Next n L (idle ls) (assume l) (refused 2) (idle ls)
  -- 3: 2n assumptions stand already
  assumes_full : {ls : List ℤ} (l : ℤ) → in_range n l ≡ true → 2 * n ≤ length ls → Next n L (idle ls) (assume l) (refused 3) (idle ls)
  clears : {ls : List ℤ} → Next n L (idle ls) clear done (idle [])
  begins : {ls : List ℤ} → Next n L (idle ls) begin done (searching (begun ls))
  closes : {ls : List ℤ} → Next n L (idle ls) close done closed
  runs : {q q' : Search} (limit : ℕ) (g : Guide) (scratch : ℕ) (r : Report) → g.source.count ≡ n → n ≤ scratch → Run n L g limit q r q'
      → Next n L (searching q) (run limit g scratch) (reported r) (searching q')
  -- 4: the source's count is not n
  runs_other : {q : Search} (limit : ℕ) (g : Guide) (scratch : ℕ) → (g.source.count ≢ n)
      → Next n L (searching q) (run limit g scratch) (refused 4) (searching q)
  -- 5: the scratch has fewer than n bytes
  runs_short : {q : Search} (limit : ℕ) (g : Guide) (scratch : ℕ) → g.source.count ≡ n → scratch < n
      → Next n L (searching q) (run limit g scratch) (refused 5) (searching q)
  settles : {q : Search} → Next n L (searching q) settle done (settled q)
  finds : {q : Search} → Next n L (settled q) verdict (found q.verdict) (settled q)
  values : {q : Search} (v : ℕ) → q.verdict ≡ model → in_range n (pos v) ≡ true
      → Next n L (settled q) (value v) (said (makes (assignment n (on q.position.trail)) (pos v))) (settled q)
  -- 6: the verdict is not Model
  values_without : {q : Search} (v : ℕ) → (q.verdict ≢ model) → Next n L (settled q) (value v) (refused 6) (settled q)
  -- 2: the variable is outside 1 to n
  values_outside : {q : Search} (v : ℕ) → q.verdict ≡ model → in_range n (pos v) ≡ false → Next n L (settled q) (value v) (refused 2) (settled q)
  names : {q : Search} (l : ℤ) → q.verdict ≡ refuted → in_range n l ≡ true → Next n L (settled q) (named l) (said (has q.named l)) (settled q)
  -- 7: the verdict is not Refuted
  names_without : {q : Search} (l : ℤ) → (q.verdict ≢ refuted) → Next n L (settled q) (named l) (refused 7) (settled q)
  -- 2: the literal is 0, or its variable is outside 1 to n
  names_outside : {q : Search} (l : ℤ) → q.verdict ≡ refuted → in_range n l ≡ false → Next n L (settled q) (named l) (refused 2) (settled q)
  reopens : {q : Search} → Next n L (settled q) reopen done (idle q.position.assumptions)
