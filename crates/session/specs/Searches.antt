-- The search that a session's words stand for.
use Rattle.std.specs.Prelude.{ℕ, Bool, false, List, [], ◌∷◌, ℤ, Some, None, filter, Option}
use Rattle.rules.specs.Literals.{same}
use Rattle.theory.specs.Trail.{assumed_literals}
use Rattle.theory.specs.Run.{Search}
use Rattle.session.specs.Words.{word_at}
use Rattle.session.specs.Decode.{marked}
use Rattle.session.specs.Reports.{verdict_of}
use Rattle.session.specs.InUse.{trail_at, position_at}
use Rattle.session.specs.declared.layout.Layout.{Layout}
use Rattle.session.specs.declared.layout.Extent.{Extent}
use Rattle.session.specs.declared.progress.Progress.{Progress}
use Rattle.session.specs.declared.report.Verdict.{Verdict}
use Rattle.session.specs.declared.report.Verdict.TheVariants.{Open, Paused, Model, Refuted}

-- The named assumptions of a refutation: the assumption found false, if there is one, and the marked assumed literals.
abbrev pub with_failed : List ℤ → Option ℕ → List ℤ → List ℤ
with_failed ws None ls = ls
with_failed ws (Some i) ls = word_at ws i ∷ ls

abbrev pub named_at : Layout → Extent → Option ℕ → List ℤ → List ℤ
named_at layout extent failed ws = with_failed ws failed (filter (marked layout.variables ws) (assumed_literals (trail_at layout extent ws)))

-- whether a literal is the assumption found false
abbrev pub failed_is : List ℤ → Option ℕ → ℤ → Bool
failed_is ws None l = false
failed_is ws (Some i) l = same l (word_at ws i)

-- only a refutation names
abbrev pub names_by : Verdict → List ℤ → List ℤ
names_by Open ls = []
names_by Paused ls = []
names_by Model ls = []
names_by Refuted ls = ls

abbrev pub search_at : Layout → Extent → Verdict → Option ℕ → List ℤ → Search
search_at layout extent verdict failed ws = record { position = position_at layout extent ws; verdict = verdict_of verdict; named = names_by verdict (named_at layout extent failed ws) }

-- the search that has come so far
abbrev pub search_in : Progress → Search
search_in p = search_at p.memory.layout p.memory.extent p.verdict p.failed p.memory.words.now
