-- Books of any kind of rule: a book is a lawful source when each of its rules keeps the laws of a rule.
use Rattle.std.proofs.Common.{◌≡◌, ℕ, Bool, true, false, List, ℤ, All, Contains, refl, subst}
use Rattle.std.specs.List.{list_all}
use Rattle.std.proofs.lemmas.List.Elements.{All-contains, All-contains_itself, All-weaker}
use Rattle.std.proofs.lemmas.Bool.{both_ways}
use Rattle.rules.specs.Sources.{assignment, true_in, Full, Answer, Answer.silent, Answer.tells, Meaning, ToldClause, LawfulAt, tell_first}
use Rattle.std.proofs.lemmas.List.Sums.{AllPass-from_list_all, list_all-from_AllPass}
use Rattle.rules.specs.SourceLaws.{Telling, tells_apart}
use Rattle.rules.proofs.AnswerLaws.{tell_first_both}

-- A kind of rule: whether an assignment keeps a rule, and two tests of it under a valuation, each with the clause to tell where it passes.
pub record Kind (A : Type 0) : Type 0 where
  pub keeps : List Bool → A → Bool
  pub first : List ℤ → A → Bool
  pub first_clause : List ℤ → A → List ℤ
  pub second : List ℤ → A → Bool
  pub second_clause : List ℤ → A → List ℤ

-- A book admits what keeps all its rules. It tells for its first rule that passes the first test, or else for its first that passes the second.
abbrev pub book : {A : Type 0} → ℕ → Kind A → List A → Meaning
book n k xs = record {
  count = n;
  admits = λ bs. list_all (k.keeps bs) xs;
  answer = λ row. tell_first (k.first row) (k.first_clause row) xs (tell_first (k.second row) (k.second_clause row) xs silent);
}

-- the source admits only what keeps the rule
abbrev pub Obeys : {A : Type 0} → Kind A → A → Meaning → Type 0
Obeys k x m = (bs : List Bool) → m.admits bs ≡ true → k.keeps bs x ≡ true

-- The laws of a rule: its clauses may be told by a source that obeys it; and where all variables have a value,
-- the assignment keeps it if it fails the first test, and only if it fails both.
pub record RuleLaws {A : Type 0} (n : ℕ) (k : Kind A) (x : A) : Type 0 where
  pub first_told : (m : Meaning) → Obeys k x m → (row : List ℤ) → k.first row x ≡ true → ToldClause n m row (k.first_clause row x)
  pub second_told : (m : Meaning) → Obeys k x m → (row : List ℤ) → k.second row x ≡ true → ToldClause n m row (k.second_clause row x)
  pub quiet : (row : List ℤ) → Full n row → k.first row x ≡ false → k.keeps (assignment n (true_in row)) x ≡ true
  pub admitted : (row : List ℤ) → Full n row → k.keeps (assignment n (true_in row)) x ≡ true → (k.first row x ≡ false) × (k.second row x ≡ false)

module _ {A : Type 0} (n : ℕ) (k : Kind A) (fits : A → Bool) (laws : (x : A) → fits x ≡ true → RuleLaws n k x) (xs : List A) (fit : list_all fits xs ≡ true) where
  each : (P : A → Type 0) → ((x : A) → Contains xs x → P x) → All P xs
  each P h = All-weaker (Contains xs) P h xs (All-contains_itself xs)

  passes : (p : A → Bool) → list_all p xs ≡ true → (x : A) → Contains xs x → p x ≡ true
  passes p h x i = All-contains (λ y. p y ≡ true) xs x (AllPass-from_list_all p xs h) i

  law : (x : A) → Contains xs x → RuleLaws n k x
  law x i = laws x (passes fits fit x i)

  obeys : (x : A) → Contains xs x → Obeys k x (book n k xs)
  obeys x i bs h = passes (k.keeps bs) h x i

  -- a property of the book's answer, by the ways to it
  answer_both : (row : List ℤ) (P : Answer → Type 0) → ((x : A) → Contains xs x → k.first row x ≡ true → P (tells (k.first_clause row x)))
      → ((x : A) → Contains xs x → k.second row x ≡ true → P (tells (k.second_clause row x))) → (All (λ x. k.first row x ≡ false) xs → P silent)
      → P ((book n k xs).answer row)
  answer_both row P one two none =
      let later = tell_first (k.second row) (k.second_clause row) xs silent in
      tell_first_both (k.first row) (k.first_clause row) xs later P (each (λ x. k.first row x ≡ true → P (tells (k.first_clause row x))) one)
      (λ h. tell_first_both (k.second row) (k.second_clause row) xs silent P (each (λ x. k.second row x ≡ true → P (tells (k.second_clause row x))) two) (λ _. none h))

  book_told : (row C : List ℤ) → (book n k xs).answer row ≡ tells C → ToldClause n (book n k xs) row C
  book_told row C e =
      let b = book n k xs in
      let P = Telling (ToldClause n b row) in
      subst P e (answer_both row P (λ x i. (law x i).first_told b (obeys x i) row) (λ x i. (law x i).second_told b (obeys x i) row) (λ _. tt))

  book_quiet : (row : List ℤ) → Full n row → (book n k xs).answer row ≡ silent → (book n k xs).admits (assignment n (true_in row)) ≡ true
  book_quiet row full =
      let bs = assignment n (true_in row) in
      answer_both row (λ a. a ≡ silent → list_all (k.keeps bs) xs ≡ true)
      (λ x i h e. absurd (tells_apart (k.first_clause row x) e)) (λ x i h e. absurd (tells_apart (k.second_clause row x) e))
      (λ h e. list_all-from_AllPass (k.keeps bs) xs (each (λ x. k.keeps bs x ≡ true) (λ x i. (law x i).quiet row full (All-contains (λ y. k.first row y ≡ false) xs x h i))))

  book_admitted : (row : List ℤ) → Full n row → (book n k xs).admits (assignment n (true_in row)) ≡ true → (book n k xs).answer row ≡ silent
  book_admitted row full h =
      let fails : (x : A) → Contains xs x → (k.first row x ≡ false) × (k.second row x ≡ false) = λ x i. (law x i).admitted row full (obeys x i (assignment n (true_in row)) h) in
      answer_both row (λ a. a ≡ silent) (λ x i e. absurd (both_ways (k.first row x) (fails x i).0 e)) (λ x i e. absurd (both_ways (k.second row x) (fails x i).1 e)) (λ _. refl)

  pub book_lawful : LawfulAt n (book n k xs)
  book_lawful = record { told = λ row v. book_told row; quiet = λ row v. book_quiet row; admitted = λ row v. book_admitted row }
