-- Laws of sources: that a source is lawful is a proposition, and the join of two lawful sources is lawful.
use Rattle.std.specs.Prelude.{◌≡◌, ℕ, Bool, true, false, ◌&&◌, List, [], ◌∷◌, ℤ, refl}
use Rattle.std.proofs.Common.{eqb, sym, ◌∙◌, subst}
use Rattle.std.proofs.lemmas.Bool.{and_parts, and_from, cond_both, eqb-true}
use Rattle.std.proofs.Props.{props}
use mathlib.Core.Bool.{Bool-set}
use mathlib.Core.HLevel.{×_prop, Unit-prop}
use Rattle.rules.specs.Literals.{names, Once, var}
use Rattle.rules.specs.Sources.{assignment, true_in, Answer, Answer.silent, Answer.tells, Meaning, ToldClause, LawfulAt, Lawful, or_else, together, mute, joined}

-- that no variable is named twice is a proposition, and so are the laws of a source
once_prop : (ls : List ℤ) → IsProp (Once ls)
once_prop [] = Unit-prop
once_prop (l ∷ ls) = ×_prop (Bool-set (names ls (var l)) false) (once_prop ls)

pub lawful_prop : (m : Meaning) → IsProp (Lawful m)
lawful_prop m = hlevel (props, once_prop)

-- what is told has the property
abbrev pub Telling : (List ℤ → Type 0) → Answer → Type 0
Telling P silent = Unit {0}
Telling P (tells C) = P C

pub tells_apart : (C : List ℤ) → tells C ≡ silent → ⊥
tells_apart C e = subst (λ a. Telling (λ _. ⊥) a → ⊥) e (λ z. z) tt

pub or_else_both : (a b : Answer) (P : Answer → Type 0) → ((C : List ℤ) → a ≡ tells C → P (tells C)) → (a ≡ silent → P b) → P (or_else a b)
or_else_both silent b P told quiet = quiet refl
or_else_both (tells C) b P told quiet = told C refl

-- a clause that one source may tell may be told by every source that admits no more
told_under : (n : ℕ) (a b : Meaning) (row C : List ℤ) → ((bs : List Bool) → b.admits bs ≡ true → a.admits bs ≡ true) → ToldClause n a row C → ToldClause n b row C
told_under n a b row C h t = record { ranged = t.ranged; once = t.once; asserts = t.asserts; sound = λ bs e i. t.sound bs e (h bs i) }

together_lawful : (a b : Meaning) → Lawful a → LawfulAt a.count b → Lawful (together a b)
together_lawful a b la lb = record {
  told = λ row v. or_else_both (a.answer row) (b.answer row) (λ o. (C : List ℤ) → o ≡ tells C → ToldClause a.count (together a b) row C)
      (λ K i C e. told_under a.count a (together a b) row C (λ bs h. (parts bs h).0) (la.told row v C (i ∙ e)))
      (λ _ C e. told_under a.count b (together a b) row C (λ bs h. (parts bs h).1) (lb.told row v C e));
  quiet = λ row v full. let bs = assignment a.count (true_in row) in
      or_else_both (a.answer row) (b.answer row) (λ o. o ≡ silent → (a.admits bs && b.admits bs) ≡ true)
      (λ C _ e. absurd (tells_apart C e)) (λ i e. and_from (a.admits bs) (b.admits bs) (la.quiet row v full i) (lb.quiet row v full e));
  admitted = λ row v full h. let r = parts (assignment a.count (true_in row)) h in
      subst (λ o. or_else o (b.answer row) ≡ silent) (sym (la.admitted row v full r.0)) (lb.admitted row v full r.1);
}
  where
    parts : (bs : List Bool) → (a.admits bs && b.admits bs) ≡ true → (a.admits bs ≡ true) × (b.admits bs ≡ true)
    parts bs h = and_parts (a.admits bs) (b.admits bs) h

mute_lawful : Lawful mute
mute_lawful = record { told = λ row v C e. absurd (tells_apart C (sym e)); quiet = λ row v full e. refl; admitted = λ row v full h. refl }

pub join_lawful : (a b : Meaning) → Lawful a → Lawful b → Lawful (joined a b)
join_lawful a b la lb = cond_both (eqb a.count b.count) (together a b) mute Lawful
    (λ e. together_lawful a b la (subst (λ n. LawfulAt n b) (sym (eqb-true a.count b.count e)) lb)) (λ _. mute_lawful)
