-- What the run of a search says of the printed lines.
use Rattle.std.proofs.Common.{◌≡◌, ℕ, ◌+◌, ◌*◌, ◌≤◌, true, nat_le, List, [], ℤ, refl, sym, ap, ◌∙◌, subst, arith}
use Rattle.std.proofs.lemmas.Nat.{mul-le}
use Rattle.std.proofs.lemmas.Bool.{le-leb}
use Rattle.rules.specs.Sources.{Meaning, assignment}
use Rattle.theory.specs.Trail.{on}
use Rattle.theory.specs.Search.{Guide, Verdict as Found, Verdict.still_open, Verdict.paused, Verdict.model, Verdict.refuted}
use Rattle.theory.specs.Run.{Search, Report, Run}
use Rattle.theory.specs.Calls.{Call.run, Reply.reported, State.searching, Next, Next.runs, begun}
use Rattle.theory.proofs.Counts.{run_kept}
use Rattle.session.specs.Sessions.{fitting}
use Rattle.session.specs.Words.{size}
use Rattle.answer.specs.Lines.{true_literals, answer_lines}
use Rattle.answer.specs.Searching.{standing_guide, Searched, searched}

-- 64 variables and 16 slots fit into the words
pub session_fits : (n : ℕ) → n ≤ 64 → fitting n 16 5584 ≡ true
session_fits n h =
    let rows : (n + 16) * (n + 1) ≤ 80 * 65 = mul-le (n + 16) (n + 1) 80 65 (omega arith) (omega arith) in
    let few : nat_le n 1000 ≡ true = le-leb n 1000 (omega arith) in
    let room : nat_le (size n 16) 5584 ≡ true = le-leb (size n 16) 5584 (omega arith) in
    rw (few, room) refl

-- a granted run is one by the rules
granted : {n L limit scratch : ℕ} {g : Guide} {q q' : Search} {r : Report} → Next n L (searching q) (run limit g scratch) (reported r) (searching q')
    → (g.source.count ≡ n) × Run n L g limit q r q'
granted (runs limit g scratch r c s x) = (c, x)

-- the literals count for a model only
lines_same : (v : Found) (ls ls' : List ℤ) (r : Report) → (v ≡ model → ls ≡ ls') → answer_lines v ls r ≡ answer_lines v ls' r
lines_same still_open ls ls' r h = refl
lines_same paused ls ls' r h = refl
lines_same model ls ls' r h = ap (λ k. answer_lines model k r) (h refl)
lines_same refuted ls ls' r h = refl

-- the lines of a granted run that leaves the verdict v, with the literals that are true after it
pub run_searched : (m : Meaning) (n L : ℕ) (q q' : Search) (r : Report) (v : Found) (ls : List ℤ) → L ≡ 16 → q ≡ begun [] → q'.verdict ≡ v
    → {scratch : ℕ} → Next n L (searching q) (run 1000000 (standing_guide m) scratch) (reported r) (searching q')
    → (v ≡ model → ls ≡ true_literals m.count (assignment m.count (on q'.position.trail))) → Searched m (answer_lines v ls r)
run_searched m n L q q' r v ls eL eq ev x h =
    let given = granted x in
    let ran : Run n L (standing_guide m) 1000000 q r q' = given.1 in
    let kept : r.verdict ≡ v = (run_kept n L (standing_guide m) ran).1 ∙ ev in
    let is : Run m.count 16 (standing_guide m) 1000000 (begun []) r q' = subst (λ k. Run k 16 (standing_guide m) 1000000 (begun []) r q') (sym given.0) (subst (λ k. Run n k (standing_guide m) 1000000 (begun []) r q') eL (subst (λ k. Run n L (standing_guide m) 1000000 k r q') eq ran)) in
    let all = true_literals m.count (assignment m.count (on q'.position.trail)) in
    subst (Searched m) (ap (λ k. answer_lines k all r) kept ∙ sym (lines_same v ls all r h)) (searched r q' is)
