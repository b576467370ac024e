use Rattle.std.proofs.Common.{◌≡◌, take, List, ℤ, [], sym, ap, ◌∙◌, subst, inl, inr, rules}
use Rattle.rules.specs.Sources.{assignment}
use Rattle.theory.specs.Trail.{on}
use Rattle.theory.specs.Search.{Verdict as Found, Verdict.still_open, Verdict.paused, Verdict.model, Verdict.refuted}
use Rattle.theory.specs.Calls.{Call.run, Reply.reported, State.searching, Next, begun}
use Rattle.session.specs.Reports.{verdict_of, report_of, reported_as}
use Rattle.session.specs.Searches.{search_in}
use Rattle.answer.specs.Lines.{true_literals, answer_lines}
use Rattle.answer.specs.Searching.{standing_guide, Searched}
use Rattle.answer.specs.Answers.{answer_text}
use Rattle.answer.proofs.Searches.{session_fits, run_searched}
use Rattle.answer.proofs.searching.search.Goals as goal
use Rattle.answer.proofs.searching.search.Goals.{in-Model, in-Refuted, in-Open}

pub returns : goal.returns
returns g c =
    let m = g.S.Source.meaning c.args.rules.now in
    let report = c.unwrap-report.result in
    let fits = session_fits m.count c.requires in
    let slots : c.begin-search.result.progress.memory.layout.slots ≡ 16 = search rules in
    let begins : search_in c.begin-search.result.progress ≡ begun [] = c.begin-search.ensures.search ∙ ap begun c.open.ensures.assumptions in
    let layout = c.begin-search.result.progress.memory.layout in
    let begun_as = search_in c.begin-search.result.progress in
    let settled = c.settle-settled.result.progress in
    let next = subst (λ r. Next layout.variables layout.slots (searching begun_as) (run 1000000 (standing_guide m) 64) (reported_as r) (searching (search_in c.run.new.self.progress)))
    c.unwrap-report.ensures c.run.ensures.promised.next in
    let ends = subst (λ p. Next layout.variables layout.slots (searching begun_as) (run 1000000 (standing_guide m) 64) (reported (report_of report)) (searching (search_in p)))
    (sym c.settle-settled.ensures.progress) next in
    let many : settled.memory.layout.variables ≡ m.count = search rules in
    let literals = true_literals m.count (assignment m.count (on (search_in settled).position.trail)) in
    let at : (v : Found) (ls : List ℤ) → verdict_of settled.verdict ≡ v → (v ≡ model → ls ≡ literals) → Searched m (answer_lines v ls (report_of report)) = λ v ls e h.
    run_searched m layout.variables layout.slots begun_as (search_in settled) (report_of report) v ls slots begins e ends h in
    elim c.match-verdict.branch [
      | in-Model w ↦
          let found = w.model_of.result in
          let counted = w.variables-in-Model.ensures in
          let values = subst (λ k. take found.count found.literals ≡ true_literals k (assignment m.count (on (search_in settled).position.trail))) counted
          (subst (λ k. take found.count found.literals ≡ true_literals w.variables-in-Model.result (assignment k (on (search_in settled).position.trail))) many w.model_of.ensures) in
          subst (λ a. Searched m (answer_text a)) (sym w.answer-is) (at model (take found.count found.literals) (search rules) (λ _. values))
      | in-Refuted w ↦ subst (λ a. Searched m (answer_text a)) (sym w.answer-is) (at refuted [] (search rules) (λ e. cc))
      | in-Open w ↦ subst (λ a. Searched m (answer_text a)) (sym w.answer-is) (elim w.in-Open.is [
        | inl is ↦ at still_open [] (ap verdict_of (sym c.verdict.ensures.answer ∙ is)) (λ e. cc)
        | inr is ↦ at paused [] (ap verdict_of (sym c.verdict.ensures.answer ∙ is)) (λ e. cc)
      ])
    ]
