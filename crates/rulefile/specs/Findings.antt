-- What a fault says of its text.
use Rattle.std.specs.Prelude.{◌≡◌, ℕ, ◌+◌, ◌≤◌, ◌⊎◌, List, [], ◌∷◌, ◌++◌, length, Err, fold}
use Rattle.rules.specs.declared.refusal.Refusal.{Refusal}
use Rattle.rulefile.specs.declared.words.Position.{Position}
use Rattle.rulefile.specs.declared.faults.Misfit.TheVariants.{NotAllowed, TooLarge, Count, Ends}
use Rattle.rulefile.specs.declared.faults.FormFault.{FormFault}
use Rattle.rulefile.specs.declared.faults.FormFault.TheVariants as F
use Rattle.rulefile.specs.declared.faults.BookFault.{BookFault}
use Rattle.rulefile.specs.declared.faults.BookFault.TheVariants as B
use Rattle.rulefile.specs.Words.{Seen, number, other, bad, end, seen_in}
use Rattle.rulefile.specs.Places.{Stands, Shows}
use Rattle.rulefile.specs.Outcomes.{Rule, fresh, answer, with_rule}
use Rattle.rulefile.specs.Grammar.{RuleIn, HeadIn, clauses_of, File, takes}

-- WHERE

-- where a word stands, or the end
abbrev pub seen_at : Seen → Position
seen_at (number w z p) = p
seen_at (other w p) = p
seen_at (bad f) = f.at
seen_at (end p) = p

-- where a fault stands
abbrev pub form_at : FormFault → Position
form_at (F.Word f) = f.at
form_at (F.Form k p) = p

abbrev pub fault_at : BookFault → Position
fault_at (B.Form f) = form_at f
fault_at (B.Book e p) = p

-- FAULTS OF THE WORDS AND OF THE FORM

-- The faults that one word can have, or the end: a bad word has its own; a number is not allowed, is too large, or begins a clause
-- too many; any other word is not allowed; and the end comes too early, or after too few clauses.
abbrev pub Has : Seen → FormFault → Type 0
Has (number w z p) f = (f ≡ F.Form NotAllowed p) ⊎ ((f ≡ F.Form TooLarge p) ⊎ (f ≡ F.Form Count p))
Has (other w p) f = f ≡ F.Form NotAllowed p
Has (bad g) f = f ≡ F.Word g
Has (end p) f = (f ≡ F.Form Ends p) ⊎ (f ≡ F.Form Count p)

-- The fault is of the first word, or the end, with which the text cannot go on to a file: with what stands before it a file begins,
-- and with it none, whatever follows.
pub record Stops (ts : List Seen) (f : FormFault) : Type 0 where
  pub before : List Seen
  pub here : Seen
  pub after : List Seen
  pub split : ts ≡ before ++ (here ∷ after)
  pub fault : Has here f
  pub begins : (us : List Seen) × (n : ℕ) × (rules : List Rule) × File (before ++ us) n rules
  pub ends : (us : List Seen) (n : ℕ) (rules : List Rule) → File (before ++ (here ∷ us)) n rules → ⊥

-- FAULTS OF THE BOOKS

-- rules at the front, one after the other, and what the text shows behind them
pub data RulesTo : List Seen → List Rule → List Seen → Type 0 where
  no_rule : (ts : List Seen) → RulesTo ts [] ts
  one_rule : (ts : List Seen) (r : Rule) (middle : List Seen) (rs : List Rule) (after : List Seen) → RuleIn ts r middle → RulesTo middle rs after → RulesTo ts (r ∷ rs) after

-- the first stands there
abbrev pub Starts : List Seen → Position → Type 0
Starts [] p = ⊥
Starts (t ∷ ts) p = seen_at t ≡ p

-- A head, rules that the books take, and then a rule that they answer with this refusal; its first word stands there, and there are no
-- more clauses among these than the head says.
pub record Refused (c g : ℕ) (ts : List Seen) (e : Refusal) (p : Position) : Type 0 where
  pub variables : ℕ
  pub count : ℕ
  pub body : List Seen
  pub headed : HeadIn ts variables count body
  pub rules : List Rule
  pub here : List Seen
  pub before : RulesTo body rules here
  pub taken : takes (fresh variables c g) rules
  pub refused : Rule
  pub after : List Seen
  pub ruled : RuleIn here refused after
  pub starts : Starts here p
  pub few : length (clauses_of rules) + length (clauses_of (refused ∷ [])) ≤ count
  pub answered : answer (fold with_rule (fresh variables c g) rules) refused ≡ Err e

-- THE LAWS

-- A fault of the words or of the form is of the word that stops the text, as it stands there; a book's is its answer to a rule.
abbrev pub Explained : List ℕ → ℕ → ℕ → BookFault → Type 0
Explained text c g (B.Form f) = (s : Stops (seen_in text) f) × Shows text s.here
Explained text c g (B.Book e p) = Refused c g (seen_in text) e p

-- a fault stands in the text
pub record Found (text : List ℕ) (c g : ℕ) (f : BookFault) : Type 0 where
  pub stands : Stands text (fault_at f)
  pub explained : Explained text c g f
