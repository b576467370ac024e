-- What searching rules comes to, within the limits of `decide`.
use Rattle.std.specs.Prelude.{ℕ, Bool, List, []}
use Rattle.weights.specs.Weighing.{standing_weight}
use Rattle.weights.specs.Scales.{plain, plain_plus, plain_at_most}
use Rattle.rules.specs.Sources.{Meaning, assignment}
use Rattle.theory.specs.Trail.{on}
use Rattle.theory.specs.Search.{Guide}
use Rattle.theory.specs.Run.{Search, Report, Run}
use Rattle.theory.specs.Calls.{begun}
use Rattle.session.specs.Guides.{guided}
use Rattle.session.specs.Searches.{search_in}
use Rattle.session.specs.declared.states.Settled.{Settled}
use Rattle.answer.specs.Lines.{true_literals, answer_lines}

-- the rules, no preferred literals, and weights by standing
abbrev pub standing_guide : Meaning → Guide
standing_guide m = guided m [] plain_at_most (plain 0) plain_plus (λ member. standing_weight member.standing)

-- A search of the rules without assumptions, with 16 slots and at most 1,000,000 steps, and its lines.
pub data Searched (m : Meaning) : List ℕ → Type 0 where
  searched : (r : Report) (q : Search) → Run m.count 16 (standing_guide m) 1000000 (begun []) r q
      → Searched m (answer_lines r.verdict (true_literals m.count (assignment m.count (on q.position.trail))) r)

-- how many variables a settled search has, and the assignment of its trail
abbrev pub variables_of : Settled → ℕ
variables_of s = s.progress.memory.layout.variables

abbrev pub values_of : Settled → List Bool
values_of s = assignment (variables_of s) (on (search_in s.progress).position.trail)
