use Rattle.std.proofs.Common.{◌≡◌, ℕ, rules}
use borrow.Author.Tests.{tests}
use Rattle.std.proofs.lemmas.Iterator.{first_from_Range}
use Rattle.rules.specs.Values.{value_in}
use Rattle.rules.specs.declared.literal.Value.TheVariants.{True}
use Rattle.theory.specs.Trail.{on}
use Rattle.theory.specs.Search.{missing}
use Rattle.session.specs.Words.{word_at}
use Rattle.session.specs.Decode.{trail_of}
use Rattle.session.proofs.Decisions.{first_word, true_there, true_not_there}
use Rattle.session.proofs.memory.Memory.first_missing.Goals as goal

pub returns-clause-first : goal.returns-clause-first
returns-clause-first c =
    let n = c.args.self.now.layout.variables in
    let ws = c.args.self.now.words.now in
    let t = trail_of n c.args.self.now.extent.trail ws in
    let Yes : ℕ → Type 0 = λ i. value_in (on t) (word_at ws i) ≡ True → ⊥ in
    let No : ℕ → Type 0 = λ i. value_in (on t) (word_at ws i) ≡ True in
    first_word (missing t) ws c.args.self.now.extent.assumptions Yes No c.find.result
    (λ i l h. true_not_there t (word_at ws i) h)
    (λ i l h. true_there t (word_at ws i) h)
    (first_from_Range _ _ _ c.find.result Yes No c.find.ensures.ran (λ x q k. search (rules, tests)) (λ x q k. search (rules, tests)))
