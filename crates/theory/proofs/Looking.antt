-- The look as a function, and that it is the look of the rules.
use Rattle.std.proofs.Common.{◌≡◌, ℕ, Bool, false, List, [], ◌∷◌, ℤ, Some, None, Option, sym, refl, ap, ◌∙◌, inl, inr}
use Rattle.std.specs.List.{find}
use Rattle.std.specs.Option.{option_or}
use Rattle.std.proofs.lemmas.Option.{none-some, same_Some}
use Rattle.std.proofs.lemmas.List.Elements.{All-nil, All-cons, All-head, All-tail}
use Rattle.std.proofs.lemmas.Bool.{cases_Bool, cond-true, cond-false}
use Rattle.rules.specs.Sources.{Answer, Answer.silent, Answer.tells, Meaning}
use Rattle.theory.specs.Trail.{Trail, valuation}
use Rattle.theory.specs.Look.{Position, First, First.here, First.later, NonePass, falsified_on, unit_on, Look, Look.told, Look.falsified_slot, Look.unit_slot, Look.no_clause}

-- the first of a list that passes a test is what is found, and nothing is found where none passes
pub first_is : {A : Type 0} (test : A → Bool) {xs : List A} {x : A} → First test xs x → find test xs ≡ Some x
first_is test (here {x} {xs} e) = cond-true (test x) (Some x) (find test xs) e
first_is test (later {y} {x} {xs} e r) = cond-false (test y) (Some y) (find test xs) e ∙ first_is test r

pub none_is : {A : Type 0} (test : A → Bool) (xs : List A) → NonePass test xs → find test xs ≡ None
none_is test [] h = refl
none_is {A} test (x ∷ xs) h =
    let fails : A → Type 0 = λ y. test y ≡ false in cond-false (test x) (Some x) (find test xs) (All-head fails x xs h) ∙ none_is test xs (All-tail fails x xs h)

pub first_one : {A : Type 0} (test : A → Bool) {xs : List A} {x y : A} → First test xs x → First test xs y → x ≡ y
first_one test {xs} {x} {y} f g = same_Some x y (sym (first_is test f) ∙ first_is test g)

pub first_none : {A : Type 0} (test : A → Bool) {xs : List A} {x : A} → First test xs x → NonePass test xs → ⊥
first_none test {xs} {x} f h = none-some x (sym (none_is test xs h) ∙ first_is test f)

-- what the function finds is first, or there is none
abbrev pub Finds : {A : Type 0} → (A → Bool) → List A → Option A → Type 0
Finds test xs (Some x) = First test xs x
Finds test xs None = NonePass test xs

pub first_finds : {A : Type 0} (test : A → Bool) (xs : List A) → Finds test xs (find test xs)
first_finds test [] = All-nil (λ x. test x ≡ false)
first_finds {A} test (x ∷ xs) = elim (cases_Bool (test x)) [ inl p ↦ rw p (here p) | inr p ↦ rw p (past p (find test xs) (first_finds test xs)) ]
  where
    past : test x ≡ false → (o : Option A) → Finds test xs o → Finds test (x ∷ xs) o
    past p (Some y) f = later p f
    past p None f = All-cons (λ y. test y ≡ false) x xs p f

-- what a slot gives where the source is silent: the first falsified, or else the first unit one
abbrev pub look_after : Answer → Trail → List (List ℤ) → Option (List ℤ)
look_after silent t slots = option_or (find (falsified_on t) slots) (find (unit_on t) slots)
look_after (tells C) t slots = Some C

abbrev pub look : ℕ → Meaning → Position → Option (List ℤ)
look n m p = look_after (m.answer (valuation n p.trail)) p.trail p.slots

module _ (n : ℕ) (m : Meaning) (p : Position) where
  pub look_is : {found : Option (List ℤ)} → Look n m p found → look n m p ≡ found
  look_is (told e) = ap (λ a. look_after a p.trail p.slots) e
  look_is (falsified_slot e f) = ap (λ a. look_after a p.trail p.slots) e ∙ ap (λ o. option_or o (find (unit_on p.trail) p.slots)) (first_is (falsified_on p.trail) f)
  look_is (unit_slot e z f) = ap (λ a. look_after a p.trail p.slots) e
      ∙ ap (λ o. option_or o (find (unit_on p.trail) p.slots)) (none_is (falsified_on p.trail) p.slots z) ∙ first_is (unit_on p.trail) f
  look_is (no_clause e z f) = ap (λ a. look_after a p.trail p.slots) e
      ∙ ap (λ o. option_or o (find (unit_on p.trail) p.slots)) (none_is (falsified_on p.trail) p.slots z) ∙ none_is (unit_on p.trail) p.slots f

  -- the function looks as the rules do
  pub look_looks : Look n m p (look n m p)
  look_looks = by (m.answer (valuation n p.trail)) refl
    where
      slots : m.answer (valuation n p.trail) ≡ silent → (f u : Option (List ℤ)) → Finds (falsified_on p.trail) p.slots f
          → Finds (unit_on p.trail) p.slots u → Look n m p (option_or f u)
      slots e (Some C) u h k = falsified_slot e h
      slots e None (Some C) h k = unit_slot e h k
      slots e None None h k = no_clause e h k

      by : (a : Answer) → m.answer (valuation n p.trail) ≡ a → Look n m p (look_after a p.trail p.slots)
      by silent e = slots e (find (falsified_on p.trail) p.slots) (find (unit_on p.trail) p.slots) (first_finds (falsified_on p.trail) p.slots) (first_finds (unit_on p.trail) p.slots)
      by (tells C) e = told e

  pub look_one : {found found' : Option (List ℤ)} → Look n m p found → Look n m p found' → found ≡ found'
  look_one a b = sym (look_is a) ∙ look_is b

  pub look_same : {C C' : List ℤ} → Look n m p (Some C) → Look n m p (Some C') → C ≡ C'
  look_same {C} {C'} a b = same_Some C C' (look_one a b)

  pub look_apart : {C : List ℤ} → Look n m p (Some C) → Look n m p None → ⊥
  look_apart {C} a b = none-some C (look_one b a)
