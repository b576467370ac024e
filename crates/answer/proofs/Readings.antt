-- What a reading within the limits says of its text.
use Rattle.std.proofs.Common.{◌≡◌, ℕ, ◌≤◌, Bool, true, false, cond, ltb, List, length, Ok, Err, Result, refl, sym, ap, ◌∙◌, subst}
use Rattle.std.proofs.lemmas.Bool.{cond-false, le-ltb, ltb-false}
use Rattle.rulefile.specs.declared.faults.BookFault.{BookFault}
use Rattle.rulefile.specs.declared.form.Number.{Number}
use Rattle.rulefile.specs.Words.{seen_in, position}
use Rattle.rulefile.specs.Form.{Taken, opening}
use Rattle.rulefile.specs.Faults.{Fault}
use Rattle.rulefile.specs.Outcomes.{Rule, Books, opened, outcome, rest_outcome}
use Rattle.rulefile.specs.Grammar.{Accepted}
use Rattle.rulefile.proofs.GrammarLaws.{head_read, file_complete}
use Rattle.rulefile.proofs.Theorem.{judged}
use Rattle.answer.specs.Reading.{program_fault, with_fault, from_opening, reading}
use Rattle.answer.specs.Answers.{Readable}

-- books that were filled within the limits
pub record Filled (text : List ℕ) (b : Books) : Type 0 where
  pub accepted : Accepted 8192 2048 (seen_in text) b
  pub readable : Readable text accepted.variables accepted.rules

-- the number of variables that an opening has, 0 without one
abbrev opened_as : Taken (Number ℕ) → ℕ
opened_as (Ok t) = t.0.value
opened_as (Err f) = 0

with_fault_ok : (r : Result Books BookFault) (b : Books) → with_fault r ≡ Ok b → r ≡ Ok b
with_fault_ok (Ok x) b e = cc
with_fault_ok (Err f) b e = cc

pub reading_filled : (text : List ℕ) (b : Books) → reading text ≡ Ok b → Filled text b
reading_filled text b e = by (ltb 65536 (length text)) refl e
  where
    by : (long : Bool) → ltb 65536 (length text) ≡ long → cond long (Err (program_fault 14 (position 0 0))) (from_opening 8192 2048 (opening (seen_in text))) ≡ Ok b → Filled text b
    by true h k = cc
    by false h k = on (opening (seen_in text)) refl k
      where
        on : (t : Taken (Number ℕ)) → opening (seen_in text) ≡ t → from_opening 8192 2048 t ≡ Ok b → Filled text b
        on (Err f) i j = cc
        on (Ok t) i j = at (ltb 64 t.0.value) refl j
          where
            at : (many : Bool) → ltb 64 t.0.value ≡ many → cond many (Err (program_fault 1 t.0.at)) (with_fault (rest_outcome 8192 2048 t.0.value t.1)) ≡ Ok b → Filled text b
            at true m l = cc
            at false m l =
                let read : outcome 8192 2048 (seen_in text) ≡ Ok b = ap (opened 8192 2048) i ∙ with_fault_ok _ b l in
                let a : Accepted 8192 2048 (seen_in text) b = judged (Ok (tt {0})) 8192 2048 (seen_in text) b (sym read) in
                let head = head_read (seen_in text) a.variables a.file.count a.file.body a.file.headed in
                let is : t.0.value ≡ a.variables = ap opened_as (sym i ∙ head.opens) ∙ head.variables_is in
                record {
                  accepted = a;
                  readable = record { short = ltb-false 65536 (length text) h; few = subst (λ n. n ≤ 64) is (ltb-false 64 t.0.value m); file = a.file; taken = a.taken };
                }

pub reading_refused : (text : List ℕ) (f : Fault) → reading text ≡ Err f → (n : ℕ) (rules : List Rule) → Readable text n rules → ⊥
reading_refused text f e n rules r =
    let head = head_read (seen_in text) n r.file.count r.file.body r.file.headed in
    let v = head.variables.value in
    let short = cond-false (ltb 65536 (length text)) (Err (program_fault 14 (position 0 0))) (from_opening 8192 2048 (opening (seen_in text))) (le-ltb 65536 (length text) r.short) in
    let few = cond-false (ltb 64 v) (Err (program_fault 1 head.variables.at)) (with_fault (rest_outcome 8192 2048 v head.rest)) (le-ltb 64 v (subst (λ k. k ≤ 64) (sym head.variables_is) r.few)) in
    let read = sym (ap (opened 8192 2048) head.opens) ∙ file_complete 8192 2048 (seen_in text) n rules r.file r.taken in
    let is : reading text ≡ with_fault (rest_outcome 8192 2048 v head.rest) = short ∙ ap (from_opening 8192 2048) head.opens ∙ few in
    let both = sym e ∙ is ∙ ap with_fault read in
    cc
