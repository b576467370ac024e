-- Laws of answers.
use Rattle.std.proofs.Common.{◌≡◌, Bool, true, false, cond, List, [], ◌∷◌, ℤ, All, sym, refl, ap, ◌∙◌}
use Rattle.std.proofs.lemmas.List.Elements.{All-nil, All-cons, All-head, All-tail}
use Rattle.std.proofs.lemmas.Bool.{cond_both, cond-true, cond-false}
use Rattle.rules.specs.Sources.{Answer, Answer.silent, Answer.tells, tell_first, or_else}

-- what holds of the clause of each that passes, and of the other answer if none does, holds of what the first tells
pub tell_first_both : {A : Type 0} (p : A → Bool) (clause : A → List ℤ) (xs : List A) (otherwise : Answer) (P : Answer → Type 0)
    → All (λ x. p x ≡ true → P (tells (clause x))) xs → (All (λ x. p x ≡ false) xs → P otherwise) → P (tell_first p clause xs otherwise)
tell_first_both {A = A} p clause [] otherwise P some none = none (All-nil (λ x. p x ≡ false))
tell_first_both {A = A} p clause (x ∷ xs) otherwise P some none =
    let told : A → Type 0 = λ y. p y ≡ true → P (tells (clause y)) in
    cond_both (p x) (tells (clause x)) (tell_first p clause xs otherwise) P (All-head told x xs some)
    (λ e. tell_first_both p clause xs otherwise P (All-tail told x xs some) (λ h. none (All-cons (λ y. p y ≡ false) x xs e h)))

-- Going over rules for the first that passes `p`, or else the first that passes `q`, each with its clause.
module _ {A : Type 0} (p : A → Bool) (p-clause : A → List ℤ) (q : A → Bool) (q-clause : A → List ℤ) where
  -- what is told where `found` is what the rules so far gave by `q`, and these are still to come
  abbrev pub told_with : Answer → List A → Answer
  told_with found xs = tell_first p p-clause xs (or_else found (tell_first q q-clause xs silent))

  -- what is found with one rule more
  abbrev pub found_with : Answer → A → Answer
  found_with found x = cond (q x) (or_else found (tells (q-clause x))) found

  pub told_hit : (found : Answer) (x : A) (xs : List A) → p x ≡ true → told_with found (x ∷ xs) ≡ tells (p-clause x)
  told_hit found x xs h = cond-true (p x) (tells (p-clause x)) (tell_first p p-clause xs (or_else found (tell_first q q-clause (x ∷ xs) silent))) h

  pub told_next : (found : Answer) (x : A) (xs : List A) → p x ≡ false → told_with found (x ∷ xs) ≡ told_with (found_with found x) xs
  told_next found x xs h =
      let rest = tell_first q q-clause xs silent in
      cond-false (p x) (tells (p-clause x)) (tell_first p p-clause xs (or_else found (cond (q x) (tells (q-clause x)) rest))) h
      ∙ ap (tell_first p p-clause xs) (by (q x) found rest)
    where
      by : (b : Bool) (a rest : Answer) → or_else a (cond b (tells (q-clause x)) rest) ≡ or_else (cond b (or_else a (tells (q-clause x))) a) rest
      by true silent rest = refl
      by true (tells C) rest = refl
      by false a rest = refl

  pub told_second : (found : Answer) (x : A) (xs : List A) → p x ≡ false → q x ≡ true → told_with (or_else found (tells (q-clause x))) xs ≡ told_with found (x ∷ xs)
  told_second found x xs h k = ap (λ a. told_with a xs) (sym (cond-true (q x) (or_else found (tells (q-clause x))) found k)) ∙ sym (told_next found x xs h)

  pub told_neither : (found : Answer) (x : A) (xs : List A) → p x ≡ false → q x ≡ false → told_with found xs ≡ told_with found (x ∷ xs)
  told_neither found x xs h k = ap (λ a. told_with a xs) (sym (cond-false (q x) (or_else found (tells (q-clause x))) found k)) ∙ sym (told_next found x xs h)
