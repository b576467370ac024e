use Rattle.std.proofs.Common.{◌≡◌, ℕ, ◌+◌, ◌<◌, ◌≤◌, true, false, [], pos, ◌+ℤ◌, Some, sym, subst, arith, rules, tests, w32, to_z, of_z}
use Rattle.std.specs.Option.{MatchOption}
use Rattle.std.proofs.lemmas.Iterator.{first_from_Range}
use Rattle.std.proofs.lemmas.Option.{MatchOption-at_some, MatchOption-at_none}
use Rattle.std.proofs.lemmas.Int.{ints}
use Rattle.session.specs.Decode.{trail_of, open_index}
use Rattle.session.specs.Deciding.{Decides}
use Rattle.session.proofs.Decisions.{lowest_open, none_open}
use Rattle.session.proofs.memory.Memory.lowest_free.Goals as goal
use Rattle.session.proofs.memory.Memory.lowest_free.Goals.{After-find}

-- the variable found, if there is one
found : (c : After-find) → MatchOption c.find.result
    ((x : ℕ) → 0 ≤ x → x < c.args.self.now.layout.variables → open_index c.args.self.now.layout.variables c.args.self.now.words.now x ≡ false)
    (λ x. (0 ≤ x) × (x < c.args.self.now.layout.variables) × (open_index c.args.self.now.layout.variables c.args.self.now.words.now x ≡ true)
    × ((y : ℕ) → 0 ≤ y → y < x → open_index c.args.self.now.layout.variables c.args.self.now.words.now y ≡ false))
found c =
    let Yes : ℕ → Type 0 = λ x. open_index c.args.self.now.layout.variables c.args.self.now.words.now x ≡ true in
    let No : ℕ → Type 0 = λ x. open_index c.args.self.now.layout.variables c.args.self.now.words.now x ≡ false in
    first_from_Range _ _ _ c.find.result Yes No c.find.ensures.ran (λ x q k. search (rules, tests)) (λ x q k. search (rules, tests))

pub returns-in_err-open : goal.returns-in_err-open
returns-in_err-open c =
    let n = c.args.self.now.layout.variables in
    let ws = c.args.self.now.words.now in
    let none = MatchOption-at_none _ _ c.in_err-open.was (found (goal.at.returns-in_err-open c).After-find) in
    subst (Decides n (trail_of n c.args.self.now.extent.trail ws) []) (sym c.from_residual.ensures) (none_open n _ c.args.self.now.extent.trail ws c.args.self.now.sound.coherent (λ x h. none x (omega arith) h))

pub overflow_cast-result : goal.overflow_cast-result
overflow_cast-result c =
    let lowest = MatchOption-at_some _ _ _ c.in_ok-open.was (found (goal.at.overflow_cast-result c).After-find) in
    let within = lowest.1 in
    omega (arith, ints)

pub overflow_add-result : goal.overflow_add-result
overflow_add-result c =
    let lowest = MatchOption-at_some _ _ _ c.in_ok-open.was (found (goal.at.overflow_add-result c).After-find) in
    let within = lowest.1 in
    omega (arith, ints)

pub returns : goal.returns
returns c =
    let n = c.args.self.now.layout.variables in
    let ws = c.args.self.now.words.now in
    let x = c.in_ok-open.open in
    let lowest = MatchOption-at_some _ _ _ c.in_ok-open.was (found (goal.at.returns c).After-find) in
    let within = lowest.1 in
    let e : pos (x + 1) ≡ to_z w32 (of_z w32 (to_z w32 x +ℤ pos 1)) = omega (arith, ints) in
    subst (λ l. Decides n (trail_of n c.args.self.now.extent.trail ws) [] (Some l)) e (lowest_open n _ c.args.self.now.extent.trail ws c.args.self.now.sound.coherent x within lowest.2 (λ y h. lowest.3 y (omega arith) h))
