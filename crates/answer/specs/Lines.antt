-- The printed lines.
use Rattle.std.specs.Prelude.{ℕ, Bool, List, [], ◌∷◌, ◌++◌, map, ℤ, pos, neg_ℤ, codes, if◌then◌else◌}
use Rattle.std.specs.List.{flat_map, range_with_len}
use Rattle.std.specs.Fmt.{decimal, signed_decimal}
use Rattle.rules.specs.Sources.{makes}
use Rattle.theory.specs.Search.{Verdict, Verdict.still_open, Verdict.paused, Verdict.model, Verdict.refuted}
use Rattle.theory.specs.Run.{Report}
use Rattle.rulefile.specs.Faults.{Fault, fault_text}

-- a text as a line of its own
abbrev pub line : List ℕ → List ℕ
line text = text ++ (10 ∷ [])

-- a refused file: its fault
abbrev pub refusal_line : Fault → List ℕ
refusal_line f = line (codes "refused " ++ fault_text f)

-- a variable's literal that an assignment makes true, and these for the variables 1 to n
abbrev pub true_literal : List Bool → ℕ → ℤ
true_literal bs v = if makes bs (pos v) then pos v else neg_ℤ (pos v)

abbrev pub true_literals : ℕ → List Bool → List ℤ
true_literals n bs = map (true_literal bs) (range_with_len 1 n)

-- a literal with a space before it
abbrev pub value_text : ℤ → List ℕ
value_text l = codes " " ++ signed_decimal l

-- the values of all variables, and 0
abbrev pub values_text : List ℤ → List ℕ
values_text ls = codes "v" ++ (flat_map value_text ls ++ codes " 0")

-- the line of a verdict
abbrev pub verdict_line : Verdict → List ℕ
verdict_line still_open = line (codes "s UNKNOWN")
verdict_line paused = line (codes "s UNKNOWN")
verdict_line model = line (codes "s SATISFIABLE")
verdict_line refuted = line (codes "s UNSATISFIABLE")

-- the line of values, which only a model has, before others
abbrev pub with_values : Verdict → List ℤ → List ℕ → List ℕ
with_values still_open ls lines = lines
with_values paused ls lines = lines
with_values model ls lines = line (values_text ls) ++ lines
with_values refuted ls lines = lines

-- what a run reports: its steps, and what they were
abbrev pub kinds_text : Report → List ℕ
kinds_text r = codes " assumed " ++ (decimal r.assumed ++ (codes " decided " ++ (decimal r.decided ++ (codes " implied " ++ (decimal r.implied
    ++ (codes " conflicts " ++ (decimal r.conflicts ++ (codes " undone " ++ decimal r.undone))))))))

abbrev pub counts_text : Report → List ℕ
counts_text r = codes "c steps " ++ (decimal r.steps ++ kinds_text r)

-- a verdict, the literals that are true, and a run's report
abbrev pub answer_lines : Verdict → List ℤ → Report → List ℕ
answer_lines v ls r = verdict_line v ++ with_values v ls (line (counts_text r))
