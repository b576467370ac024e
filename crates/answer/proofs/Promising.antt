-- The promise of a printed text.
use Rattle.std.proofs.Common.{◌≡◌, ℕ, List, [], ℤ, Ok, Err, sym, ap, ◌∙◌, subst}
use Rattle.rules.specs.Sources.{Meaning, Lawful, assignment, joined}
use Rattle.rules.specs.Books.{Group, clause_book, group_book}
use Rattle.theory.specs.Trail.{on}
use Rattle.theory.proofs.Uniqueness.{run_determined}
use Rattle.theory.specs.Run.{Search, Report}
use Rattle.theory.specs.Calls.{begun}
use Rattle.rulefile.specs.Faults.{Fault}
use Rattle.rulefile.specs.Outcomes.{Books}
use Rattle.rulefile.specs.Grammar.{meaning}
use Rattle.answer.specs.Lines.{refusal_line, true_literals, answer_lines}
use Rattle.answer.specs.Reading.{reading}
use Rattle.answer.specs.Searching.{standing_guide, Searched, searched}
use Rattle.answer.specs.Answers.{Printed, refused, answered, Promised}
use Rattle.answer.proofs.Readings.{reading_filled}
use Rattle.answer.proofs.Truth.{searched_truthful, refusal_truthful}

-- what books mean once they are sealed
pub sealed_meaning : (b : Books) {n k : ℕ} {Cs : List (List ℤ)} {Gs : List Group} → n ≡ b.clauses.variables → Cs ≡ b.clauses.clauses → k ≡ b.groups.variables → Gs ≡ b.groups.groups
    → joined (clause_book n Cs) (group_book k Gs) ≡ meaning b
sealed_meaning b en eC ek eG = λ i. joined (clause_book (en i) (eC i)) (group_book (ek i) (eG i))

searched_once : (m : Meaning) (printed other : List ℕ) → Searched m printed → Searched m other → other ≡ printed
searched_once m _ _ (searched r q x) (searched r' q' x') =
    let d = run_determined m.count 16 (standing_guide m) 1000000 (begun []) q' q r' r x' x in
    ap (λ (k : Report). answer_lines k.verdict (true_literals m.count (assignment m.count (on q'.position.trail))) k) d.0
    ∙ ap (λ (k : Search). answer_lines r.verdict (true_literals m.count (assignment m.count (on k.position.trail))) r) d.1

printed_once : (text printed other : List ℕ) → Printed text printed → Printed text other → other ≡ printed
printed_once text _ _ (refused f e) (refused g d) = let same : Err g ≡ Err f = sym d ∙ e in ap refusal_line cc
printed_once text _ _ (refused f e) (answered b out d x) = let apart = sym d ∙ e in cc
printed_once text _ _ (answered b out e x) (refused f d) = let apart = sym d ∙ e in cc
printed_once text _ _ (answered b out e x) (answered c other d y) =
    let same : Ok c ≡ Ok b = sym d ∙ e in
    let books : c ≡ b = cc in
    searched_once (meaning b) out other x (subst (λ k. Searched (meaning k) other) books y)

pub refusal_promised : (text : List ℕ) (f : Fault) → reading text ≡ Err f → Promised text (refusal_line f)
refusal_promised text f e = record {
  defined = refused f e;
  only = λ other p. printed_once text (refusal_line f) other (refused f e) p;
  truthful = refusal_truthful text f e;
}

pub search_promised : (text : List ℕ) (b : Books) (printed : List ℕ) → reading text ≡ Ok b → Lawful (meaning b) → Searched (meaning b) printed → Promised text printed
search_promised text b printed e lawful x =
    let f = reading_filled text b e in
    let p = answered b printed e x in
    record {
      defined = p;
      only = λ other q. printed_once text printed other p q;
      truthful = searched_truthful text f.accepted.variables f.accepted.rules (meaning b) printed f.readable (sym f.accepted.counts) f.accepted.admits lawful x;
    }
