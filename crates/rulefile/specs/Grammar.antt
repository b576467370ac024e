-- What a rule file is, and what it says.
use Rattle.std.specs.Prelude.{◌≡◌, ℕ, ◌≤◌, Bool, false, ◌&&◌, List, [], ◌∷◌, map, length, ℤ, pos, None, Ok, Err, codes, Result}
use Rattle.std.specs.List.{list_all}
use Rattle.rules.specs.Rows.{is_zero}
use Rattle.rules.specs.Sources.{satisfies, Meaning, joined}
use Rattle.rules.specs.Books.{Group, keeps, clause_book, group_book}
use Rattle.rules.specs.ClauseFilling as C
use Rattle.rules.specs.GroupFilling as G
use Rattle.rulefile.specs.declared.words.Position.{Position}
use Rattle.rulefile.specs.declared.faults.BookFault.{BookFault}
use Rattle.rulefile.specs.Words.{Seen, number, other, end}
use Rattle.rulefile.specs.Outcomes.{Rule, clause, group, Books, both, fresh, answer, with_rule}

-- THE GRAMMAR. A word may stand anywhere; `after` is what the text shows behind a part.

-- literals and the word 0 that ends them
pub data Literals : List Seen → List ℤ → List Seen → Type 0 where
  no_more : (w : List ℕ) (p : Position) (after : List Seen) → Literals (number w (pos 0) p ∷ after) [] after
  one_more : (w : List ℕ) (z : ℤ) (p : Position) (ts : List Seen) (ls : List ℤ) (after : List Seen) → is_zero z ≡ false → Literals ts ls after → Literals (number w z p ∷ ts) (z ∷ ls) after

-- a clause is literals and 0; a group is the word `a`, a number without a minus, literals and 0
pub data RuleIn : List Seen → Rule → List Seen → Type 0 where
  clause_in : (ts : List Seen) (ls : List ℤ) (after : List Seen) → Literals ts ls after → RuleIn ts (clause ls) after
  group_in : (p q : Position) (w : List ℕ) (k : ℕ) (ts : List Seen) (ls : List ℤ) (after : List Seen) → Literals ts ls after → RuleIn (other (codes "a") p ∷ number w (pos k) q ∷ ts) (group k ls) after

-- rules one after the other, to the end of the text
pub data RulesIn : List Seen → List Rule → Type 0 where
  no_rule : (p : Position) (ts : List Seen) → RulesIn (end p ∷ ts) []
  one_rule : (ts : List Seen) (r : Rule) (after : List Seen) (rs : List Rule) → RuleIn ts r after → RulesIn after rs → RulesIn ts (r ∷ rs)

-- the words `p` and `cnf`, the number of variables and the number of clauses
pub data HeadIn : List Seen → ℕ → ℕ → List Seen → Type 0 where
  head : (p q r s : Position) (v w : List ℕ) (n m : ℕ) (after : List Seen) → n ≤ 1000 → m ≤ 65535
      → HeadIn (other (codes "p") p ∷ other (codes "cnf") q ∷ number v (pos n) r ∷ number w (pos m) s ∷ after) n m after

-- WHAT A FILE SAYS

-- the clauses among rules, and the groups
abbrev pub clauses_of : List Rule → List (List ℤ)
clauses_of [] = []
clauses_of (clause ls ∷ rs) = ls ∷ clauses_of rs
clauses_of (group k ls ∷ rs) = clauses_of rs

abbrev pub groups_of : List Rule → List Group
groups_of [] = []
groups_of (clause ls ∷ rs) = groups_of rs
groups_of (group k ls ∷ rs) = G.group_of k ls ∷ groups_of rs

-- a file of n variables with these rules: a head, and rules with as many clauses as the head says
pub record File (ts : List Seen) (n : ℕ) (rules : List Rule) : Type 0 where
  pub count : ℕ
  pub body : List Seen
  pub headed : HeadIn ts n count body
  pub ruled : RulesIn body rules
  pub counted : length (clauses_of rules) ≡ count

-- the books take the rules one after the other
abbrev pub takes : Books → List Rule → Type 0
takes b [] = Unit {0}
takes b (r ∷ rs) = (answer b r ≡ Ok tt) × takes (with_rule b r) rs

-- books of n variables and so many words that hold these clauses and groups, and nothing else
abbrev pub holding : ℕ → ℕ → ℕ → List (List ℤ) → List Group → Books
holding n c g Cs Gs = both
    (record { variables = n; size = c; clauses = Cs; draft = []; fault = None })
    (record { variables = n; size = g; groups = Gs; draft = []; last = 0; fault = None })

-- what the books mean together, once they are sealed
abbrev pub meaning : Books → Meaning
meaning b = joined (clause_book b.clauses.variables b.clauses.clauses) (group_book b.groups.variables b.groups.groups)

-- whether an assignment satisfies all clauses and keeps all groups of the rules
abbrev pub obeys : List Rule → List Bool → Bool
obeys rules bs = list_all (satisfies bs) (clauses_of rules) && list_all (keeps bs) (groups_of rules)

-- THE THEOREM

-- The text is a file, in one way only, whose rules the books take; the books hold its clauses, repeats dropped, and its groups,
-- and admit just the assignments that obey its rules.
pub record Accepted (c g : ℕ) (ts : List Seen) (b : Books) : Type 0 where
  pub variables : ℕ
  pub rules : List Rule
  pub file : File ts variables rules
  pub only : (n : ℕ) (rs : List Rule) → File ts n rs → (n ≡ variables) × (rs ≡ rules)
  pub taken : takes (fresh variables c g) rules
  pub held : b ≡ holding variables c g (map C.once (clauses_of rules)) (groups_of rules)
  pub counts : (meaning b).count ≡ variables
  pub admits : (bs : List Bool) → (meaning b).admits bs ≡ obeys rules bs

-- Read: the text is accepted. Refused: it is no file whose rules the books take.
abbrev pub Judged : {X : Type 0} → Result X BookFault → ℕ → ℕ → List Seen → Books → Type 0
Judged (Ok x) c g ts b = Accepted c g ts b
Judged (Err f) c g ts b = (n : ℕ) (rules : List Rule) → File ts n rules → takes (fresh n c g) rules → ⊥
