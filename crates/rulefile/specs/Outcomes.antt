-- What reading a rule file comes to.
use Rattle.std.specs.Prelude.{◌≡◌, ℕ, ◌-◌, cond, List, [], ◌∷◌, ◌++◌, length, replicate, ℤ, pos, Ok, Err, codes, fold, Result, ◌==◌, unsigned_abs}
use Rattle.std.specs.Str.{bytes_eq}
use Rattle.rules.specs.Rows.{is_zero}
use Rattle.rules.specs.Drafts.{Reply, book_count}
use Rattle.rules.specs.ClauseFilling as C
use Rattle.rules.specs.GroupFilling as G
use Rattle.rules.specs.declared.clauses.ClauseBook.{ClauseBook}
use Rattle.rules.specs.declared.groups.GroupBook.{GroupBook}
use Rattle.rulefile.specs.declared.words.Position.{Position}
use Rattle.rulefile.specs.declared.faults.Misfit.TheVariants.{NotAllowed, Count, Ends}
use Rattle.rulefile.specs.declared.faults.FormFault.{FormFault}
use Rattle.rulefile.specs.declared.faults.FormFault.TheVariants as F
use Rattle.rulefile.specs.declared.faults.BookFault.{BookFault}
use Rattle.rulefile.specs.declared.faults.BookFault.TheVariants as B
use Rattle.rulefile.specs.Words.{Seen, number, other, bad, end, position}
use Rattle.rulefile.specs.declared.form.Number.{Number}
use Rattle.rulefile.specs.Form.{Taken, negative, literals_next, count_next, opening}

-- RULES

-- A rule of a file: a clause, or a group that says at most how many of its literals are true.
pub data Rule : Type 0 where
  clause : List ℤ → Rule
  group : ℕ → List ℤ → Rule

-- a rule with one literal more
abbrev pub extended : Rule → ℤ → Rule
extended (clause ls) z = clause (ls ++ (z ∷ []))
extended (group k ls) z = group k (ls ++ (z ∷ []))

-- Rules one after the other, each with the position of its first word, to the end of the text or to a fault.
pub data Rules : Type 0 where
  all : Rules
  broken : FormFault → Rules
  rule : Rule → Position → Rules → Rules

-- Where the reading stands: between rules, after the `a` of a group, or in a rule, with its first word's position.
pub data State : Type 0 where
  between : State
  limit : Position → State
  within : Rule → Position → State

-- The rules that a text shows, where n clauses are left to begin.
abbrev pub rules_in : ℕ → State → List Seen → Rules
rules_in n st [] = broken (F.Form Ends (position 0 0))
rules_in n st (bad f ∷ ts) = broken (F.Word f)
rules_in n between (end p ∷ ts) = cond (n == 0) all (broken (F.Form Count p))
rules_in n (limit a) (end p ∷ ts) = broken (F.Form Ends p)
rules_in n (within r a) (end p ∷ ts) = broken (F.Form Ends p)
rules_in n between (other w p ∷ ts) = cond (bytes_eq w (codes "a")) (rules_in n (limit p) ts) (broken (F.Form NotAllowed p))
rules_in n (limit a) (other w p ∷ ts) = broken (F.Form NotAllowed p)
rules_in n (within r a) (other w p ∷ ts) = broken (F.Form NotAllowed p)
rules_in n between (number w z p ∷ ts) = cond (n == 0) (broken (F.Form Count p))
    (cond (is_zero z) (rule (clause []) p (rules_in (n - 1) between ts)) (rules_in (n - 1) (within (clause (z ∷ [])) p) ts))
rules_in n (limit a) (number w z p ∷ ts) = cond (negative z) (broken (F.Form NotAllowed p)) (rules_in n (within (group (unsigned_abs z) []) a) ts)
rules_in n (within r a) (number w z p ∷ ts) = cond (is_zero z) (rule r a (rules_in n between ts)) (rules_in n (within (extended r z) a) ts)

-- BOOKS

-- both books
pub record Books : Type 0 where
  pub clauses : C.Filling
  pub groups : G.Filling

abbrev pub both : C.Filling → G.Filling → Books
both c g = record { clauses = c; groups = g }

abbrev pub books : ClauseBook → GroupBook → Books
books c g = both (C.filling c) (G.filling g)

-- empty books for n variables, of so many words
abbrev pub fresh : ℕ → ℕ → ℕ → Books
fresh n c g = both (C.empty (book_count n) c) (G.empty (book_count n) g)

-- what the books answer to a rule, and the books with the rule
abbrev pub answer : Books → Rule → Reply
answer b (clause ls) = C.answer_to b.clauses ls
answer b (group k ls) = G.answer_to b.groups ls

abbrev pub with_rule : Books → Rule → Books
with_rule b (clause ls) = both (C.settled b.clauses (C.once ls) (Ok tt)) b.groups
with_rule b (group k ls) = both b.clauses (G.settled b.groups (G.group_of k ls) (Ok tt))

-- The books that take all rules; or the first fault.
abbrev pub filled : Books → Rules → Result Books BookFault
filled b all = Ok b
filled b (broken f) = Err (B.Form f)
filled b (rule r p rest) = elim (answer b r) [ Ok _ ↦ filled (with_rule b r) rest | Err e ↦ Err (B.Book e p) ]

-- FILES

-- A file from its number of clauses on, into these books.
abbrev pub counted : Books → Taken (Number ℕ) → Result Books BookFault
counted b (Ok t) = filled b (rules_in t.0.value between t.1)
counted b (Err f) = Err (B.Form f)

abbrev pub body : Books → List Seen → Result Books BookFault
body b ts = counted b (count_next 65535 ts)

-- The same, for n variables, in books of so many words.
abbrev pub rest_outcome : ℕ → ℕ → ℕ → List Seen → Result Books BookFault
rest_outcome c g n ts = body (fresh n c g) ts

-- A whole file.
abbrev pub opened : ℕ → ℕ → Taken (Number ℕ) → Result Books BookFault
opened c g (Ok t) = rest_outcome c g t.0.value t.1
opened c g (Err f) = Err (B.Form f)

abbrev pub outcome : ℕ → ℕ → List Seen → Result Books BookFault
outcome c g ts = opened c g (opening ts)

-- what a reading answers, with the books that it leaves
abbrev pub told : {X Y E : Type 0} → Result X E → Y → Result Y E
told (Ok x) y = Ok y
told (Err f) y = Err f

-- both books have as many words as before
pub record SameSizes (c c' : ClauseBook) (g g' : GroupBook) : Type 0 where
  pub clauses : (C.filling c').size ≡ (C.filling c).size
  pub groups : (G.filling g').size ≡ (G.filling g).size

-- Books that are given up: they have no variable and no rule, and all their words are 0.
pub record GivenUp (c c' : ClauseBook) (g g' : GroupBook) : Type 0 where
  pub clauses : C.filling c' ≡ C.empty 0 (C.filling c).size
  pub clause_words : c'.buffer.words.now ≡ replicate (length c.buffer.words.now) (pos 0)
  pub groups : G.filling g' ≡ G.empty 0 (G.filling g).size
  pub group_words : g'.buffer.words.now ≡ replicate (length g.buffer.words.now) (pos 0)

-- where the reading failed
abbrev pub failed : {X E : Type 0} → Result X E → Type 0 → Type 0
failed (Ok x) P = Unit {0}
failed (Err f) P = P

-- ONE RULE

-- the literals pushed one by one
abbrev pub pushes : {B : Type 0} → (B → ℤ → B) → B → Taken (List ℤ) → Taken B
pushes push b (Ok t) = Ok (fold push b t.0, t.1)
pushes push b (Err f) = Err f

-- a book's answer to the rule that begins at a position
abbrev pub placed : Reply → Position → Result (Unit {0}) BookFault
placed (Ok x) p = Ok x
placed (Err r) p = Err (B.Book r p)

-- The book after a rule, and what the text shows after it, by the book's answer to the literals and the book that has them.
abbrev pub rule_read : {B : Type 0} → (List ℤ → Reply) → (List ℤ → B) → Position → Taken (List ℤ) → Result (B × List Seen) BookFault
rule_read reply after p (Ok t) = told (placed (reply t.0) p) (after t.0, t.1)
rule_read reply after p (Err f) = Err (B.Form f)

abbrev pub clause_read : C.Filling → Position → Taken (List ℤ) → Result (C.Filling × List Seen) BookFault
clause_read b p ls = rule_read (C.answer_to b) (λ ls. C.settled b (C.once ls) (Ok tt)) p ls

-- a group with its limit, from its literals on
abbrev pub group_rule : G.Filling → ℕ → Position → Taken (List ℤ) → Result (G.Filling × List Seen) BookFault
group_rule b k p ls = rule_read (G.answer_to b) (λ ls. G.settled b (G.group_of k ls) (Ok tt)) p ls

-- a group from its limit on
abbrev pub group_read : G.Filling → Position → Taken (Number ℕ) → Result (G.Filling × List Seen) BookFault
group_read b p (Ok t) = group_rule b t.0.value p (literals_next t.1)
group_read b p (Err f) = Err (B.Form f)
