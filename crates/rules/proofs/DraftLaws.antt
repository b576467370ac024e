-- Laws of a rule that is being written.
use Rattle.std.proofs.Common.{◌≡◌, ℕ, ◌≤◌, Bool, true, false, ltb, List, [], ◌∷◌, ℤ, Some, None, Ok, fold, Option, sym, refl, ap, ◌∙◌, arith}
use Rattle.std.proofs.lemmas.Bool.{cond_both, ltb-false}
use Rattle.rules.specs.Drafts.{book_count, Reply, reply}
use Rattle.rules.specs.declared.refusal.Refusal.{Refusal}

-- a book has at most 1,000 variables
pub count_few : (n : ℕ) → book_count n ≤ 1000
count_few n = cond_both (ltb 1000 n) 0 n (λ k. k ≤ 1000) (λ _. omega arith) (λ h. ltb-false 1000 n h)

-- a rule that is taken has earned no refusal, and the book is not full for it
pub reply_ok : (f : Option Refusal) (full : Bool) → reply f full ≡ Ok tt → (f ≡ None) × (full ≡ false)
reply_ok (Some r) full e = cc
reply_ok None true e = cc
reply_ok None false e = (refl, refl)

-- A RULE LITERAL BY LITERAL

-- Where no push alters the outcome, what all pushes and then the end reply and leave is the outcome of the whole.
module _ {B : Type 0} (push : B → ℤ → B) (outcome : B → List ℤ → Reply × B) (step : (b : B) (l : ℤ) (ls : List ℤ) → outcome (push b l) ls ≡ outcome b (l ∷ ls)) where
  same_outcome : (b : B) (ls : List ℤ) → outcome (fold push b ls) [] ≡ outcome b ls
  same_outcome b [] = refl
  same_outcome b (l ∷ ls) = same_outcome (push b l) ls ∙ step b l ls

  pub whole_rule : (ending : B → Reply) (left : B → Reply → B) → ((b : B) → outcome b [] ≡ (ending b, left b (ending b)))
      → (start : B) (ls : List ℤ) (answer : Reply) (after : Reply → B) → outcome start ls ≡ (answer, after answer)
      → (b : B) → b ≡ fold push start ls → (r : Reply) → r ≡ ending b → (b' : B) → b' ≡ left b r → (r ≡ answer) × (b' ≡ after r)
  whole_rule ending left ends start ls answer after whole b eb r er b' eb' =
      let all = sym (ends (fold push start ls)) ∙ same_outcome start ls ∙ whole in
      let is : r ≡ answer = er ∙ ap ending eb ∙ ap (λ k. k.0) all in
      (is, eb' ∙ ap (left b) er ∙ ap (λ k. left k (ending k)) eb ∙ ap (λ k. k.1) all ∙ ap after (sym is))
