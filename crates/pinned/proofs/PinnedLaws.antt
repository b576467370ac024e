-- A pinned literal is a lawful source, where its variable is one of 1 to n.
use Rattle.std.proofs.Common.{◌≡◌, ℕ, Bool, true, false, cond, ◌||◌, List, [], ◌∷◌, ℤ, neg_ℤ, sym, refl, ap, ◌∙◌, subst, inl, inr}
use Rattle.std.proofs.lemmas.Bool.{cond_both, cases_Bool, or_left}
use Rattle.std.proofs.lemmas.List.Elements.{All-nil, All-cons}
use Rattle.rules.specs.Literals.{in_range}
use Rattle.rules.specs.Clauses.{status, is_falsified, is_unit}
use Rattle.rules.specs.Sources.{makes, assignment, true_in, Full, Answer.silent, Answer.tells, ToldClause, Lawful}
use Rattle.rules.specs.SourceLaws.{Telling, tells_apart}
use Rattle.rules.proofs.Valuations.{full_makes}
use Rattle.pinned.specs.Pinning.{pinned}

-- the clause of one literal is falsified or unit where the literal is not true
one_asserts : (f : ℤ → Bool) (l : ℤ) → f l ≡ false → (is_falsified (status f (l ∷ [])) || is_unit (status f (l ∷ []))) ≡ true
one_asserts f l h = elim (cases_Bool (f (neg_ℤ l))) [ inl e ↦ rw e refl | inr e ↦ rw (e, h) refl ]

module _ (n : ℕ) (l : ℤ) (ranged : in_range n l ≡ true) where
  -- it tells the clause of that literal only where the literal is not true, and no other clause
  pinned_told : (row C : List ℤ) → (pinned n l).answer row ≡ tells C → ToldClause n (pinned n l) row C
  pinned_told row C e =
      let P = Telling (ToldClause n (pinned n l) row) in
      let told : true_in row l ≡ false → P (tells (l ∷ [])) = λ h. record {
        ranged = All-cons (λ x. in_range n x ≡ true) l [] ranged (All-nil (λ x. in_range n x ≡ true));
        once = (refl, tt);
        asserts = one_asserts (true_in row) l h;
        sound = λ bs _ admitted. or_left (makes bs l) false admitted;
      } in
      subst P e (cond_both (true_in row l) silent (tells (l ∷ [])) P (λ _. tt) told)

  -- where all variables have a value, it is silent only where the literal is true
  pinned_quiet : (row : List ℤ) → Full n row → (pinned n l).answer row ≡ silent → makes (assignment n (true_in row)) l ≡ true
  pinned_quiet row full e = elim (cases_Bool (true_in row l)) [
    | inl h ↦ full_makes n row full l ranged ∙ h
    | inr h ↦ absurd (tells_apart (l ∷ []) (subst (λ b. cond b silent (tells (l ∷ [])) ≡ silent) h e))
  ]

  -- and it is silent there
  pinned_admitted : (row : List ℤ) → Full n row → makes (assignment n (true_in row)) l ≡ true → (pinned n l).answer row ≡ silent
  pinned_admitted row full h = ap (λ b. cond b silent (tells (l ∷ []))) (sym (full_makes n row full l ranged) ∙ h)

  pub pinned_lawful : Lawful (pinned n l)
  pinned_lawful = record { told = λ row _. pinned_told row; quiet = λ row _. pinned_quiet row; admitted = λ row _. pinned_admitted row }
