-- Laws of the parts of a rule file.
use Rattle.std.proofs.Common.{◌≡◌, ℕ, ◌<◌, true, false, List, [], ◌∷◌, length, ℤ, Ok, Err, Result, sym, refl, ap, ◌∙◌, arith, w32, SFits, to_z, of_z}
use Rattle.std.proofs.lemmas.Int.{to_z-of_z}
use Rattle.std.proofs.lemmas.Bool.{cond-true, cond-false}
use Rattle.rules.specs.Rows.{is_zero}
use Rattle.rulefile.specs.declared.form.Number.{Number}
use Rattle.rulefile.specs.Words.{Seen, number, other, bad, end}
use Rattle.rulefile.specs.Form.{Taken, number_next, with_literal, literals_next, literals_from}
use Rattle.rulefile.specs.Outcomes.{pushes}

-- the literals from a number on that is still to be read
abbrev pub literals_of : Taken (Number ℤ) → Taken (List ℤ)
literals_of (Ok t) = literals_from t.0.value t.1
literals_of (Err f) = Err f

pub literals_number : (ts : List Seen) → literals_next ts ≡ literals_of (number_next ts)
literals_number [] = refl
literals_number (number w z p ∷ ts) = refl
literals_number (other w p ∷ ts) = refl
literals_number (bad f ∷ ts) = refl
literals_number (end p ∷ ts) = refl

-- how many words are left
abbrev left : {X : Type 0} → Taken X → ℕ
left (Ok t) = length t.1
left (Err f) = 0

-- a refusal is not a result
pub err_ok : {X E : Type 0} {f : E} {x : X} → ◌≡◌ {A = Result X E} (Err f) (Ok x) → ⊥
err_ok e = cc

-- a number is one word
pub number_shorter : (ts rest : List Seen) (x : Number ℤ) → number_next ts ≡ Ok (x, rest) → length rest < length ts
number_shorter [] rest x e = cc
number_shorter (number w z p ∷ ts) rest x e = omega (arith, ap left e)
number_shorter (other w p ∷ ts) rest x e = cc
number_shorter (bad f ∷ ts) rest x e = cc
number_shorter (end p ∷ ts) rest x e = cc

-- LITERALS PUSHED ONE BY ONE

module _ {B : Type 0} (push : B → ℤ → B) where
  pushes_one : (b : B) (z : ℤ) (t : Taken (List ℤ)) → pushes push b (with_literal z t) ≡ pushes push (push b z) t
  pushes_one b z (Ok t) = refl
  pushes_one b z (Err f) = refl

  -- one literal more, and then what the next number makes
  pub pushes_more : (b b' : B) (z : ℤ) (ts : List Seen) → is_zero z ≡ false → SFits w32 z → b' ≡ push b (to_z w32 (of_z w32 z)) → (next : Taken (Number ℤ)) → number_next ts ≡ next
      → pushes push b (literals_from z ts) ≡ pushes push b' (literals_of next)
  pushes_more b b' z ts h fits e next n =
      ap (pushes push b) (cond-false (is_zero z) _ _ h) ∙ pushes_one b z (literals_next ts)
      ∙ ap (λ k. pushes push k (literals_next ts)) (sym (e ∙ ap (push b) (to_z-of_z w32 z fits)))
      ∙ ap (pushes push b') (literals_number ts ∙ ap literals_of n)

  -- the 0 that ends them
  pub pushes_end : (b : B) (z : ℤ) (ts : List Seen) → is_zero z ≡ true → pushes push b (literals_from z ts) ≡ Ok (b, ts)
  pushes_end b z ts h = ap (pushes push b) (cond-true (is_zero z) _ _ h)
