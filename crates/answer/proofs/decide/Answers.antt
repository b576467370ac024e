use Rattle.std.proofs.Common.{rules, ◌≡◌, ◌≤◌, Ok, Err, sym, subst}
use Rattle.rules.specs.Sources.{Meaning, Lawful}
use Rattle.rules.specs.SourceLaws.{join_lawful}
use Rattle.rulefile.specs.Faults.{named}
use Rattle.rulefile.specs.Outcomes.{books}
use Rattle.answer.specs.Reading.{reading}
use Rattle.answer.specs.Searching.{Searched}
use Rattle.answer.specs.Answers.{answer_text}
use Rattle.answer.proofs.Readings.{reading_filled}
use Rattle.answer.proofs.Promising.{sealed_meaning, refusal_promised, search_promised}
use Rattle.answer.proofs.decide.Goals as goal

pub search-requires : goal.search-requires
search-requires c =
    let b = books c.read_rules.new.clauses c.read_rules.new.groups in
    let read : reading c.args.text.now ≡ Ok b = search rules in
    let filled = reading_filled c.args.text.now b read in
    let same = sealed_meaning b c.seal.ensures.variables c.seal.ensures.clauses c.seal-in-Ok.ensures.variables c.seal-in-Ok.ensures.groups in
    subst (λ (m : Meaning). m.count ≤ 64) (sym same) (subst (λ n. n ≤ 64) (sym filled.accepted.counts) filled.readable.few)

pub returns-in-Err : goal.returns-in-Err
returns-in-Err c = let read : reading c.args.text.now ≡ Err (named c.in-Err.fault) = search rules in refusal_promised c.args.text.now _ read

pub returns-in-Ok : goal.returns-in-Ok
returns-in-Ok c =
    let b = books c.read_rules.new.clauses c.read_rules.new.groups in
    let read : reading c.args.text.now ≡ Ok b = search rules in
    let same = sealed_meaning b c.seal.ensures.variables c.seal.ensures.clauses c.seal-in-Ok.ensures.variables c.seal-in-Ok.ensures.groups in
    let lawful = subst Lawful same (join_lawful _ _ c.seal.result.lawful c.seal-in-Ok.result.lawful) in
    search_promised c.args.text.now b (answer_text c.search.result) read lawful (subst (λ m. Searched m (answer_text c.search.result)) same c.search.ensures)
