-- Runs whose course is known, over books of clauses and of groups.
use Rattle.std.specs.Prelude.{◌≡◌, ℕ, Bool, true, false, cond, ◌&&◌, ◌==◌, List, [], ◌∷◌, ℤ, pos, neg_ℤ, All}
use Rattle.rules.specs.Literals.{same}
use Rattle.rules.specs.Sources.{Meaning, Lawful}
use Rattle.rules.specs.Books.{clause_book, Group, group_book}
use Rattle.theory.specs.Weighing.{Member, Standing, Assumed, Decided, Implied, Weighing, Plain, plain, plain_at_most, plain_plus, total_weight}
use Rattle.theory.specs.Trail.{valuation}
use Rattle.theory.specs.Search.{Guide, Verdict, Verdict.paused, Verdict.model, Verdict.refuted}
use Rattle.theory.specs.Run.{Search, Report, Run}
use Rattle.theory.specs.Calls.{begun}

pub data Book : Type 0 where
  clauses : List (List ℤ) → Book
  groups : List Group → Book

abbrev pub book_meaning : ℕ → Book → Meaning
book_meaning n (clauses Cs) = clause_book n Cs
book_meaning n (groups Gs) = group_book n Gs

-- chunks compare by the plain weights of their members
abbrev pub plain_weighing : (Member → Plain) → Weighing
plain_weighing weigh x y = plain_at_most (total_weight (plain 0) plain_plus weigh x) (total_weight (plain 0) plain_plus weigh y)

-- One run: its limit, and what it comes to: its verdict, its steps, how many literals it undid, and then each variable's literal
-- that is true, 0 where it is unassigned.
pub record Leg : Type 0 where
  pub limit : ℕ
  pub verdict : Verdict
  pub steps : ℕ
  pub undone : ℕ
  pub values : List ℤ

abbrev pub leg : ℕ → Verdict → ℕ → ℕ → List ℤ → Leg
leg limit v steps undone values = record { limit = limit; verdict = v; steps = steps; undone = undone; values = values }

-- A search from its beginning: its runs one after another, and which assumptions are named at the end.
pub record Case : Type 0 where
  pub variables : ℕ
  pub slots : ℕ
  pub book : Book
  pub preferences : List ℤ
  pub weigh : Member → Plain
  pub assumptions : List ℤ
  pub legs : List Leg
  pub named : List ℤ

pub record Reaches (n : ℕ) (l : Leg) (r : Report) (q : Search) : Type 0 where
  pub verdict : r.verdict ≡ l.verdict
  pub steps : r.steps ≡ l.steps
  pub undone : r.undone ≡ l.undone
  pub values : valuation n q.position.trail ≡ l.values

abbrev pub Plays : ℕ → ℕ → Guide → Search → List Leg → List ℤ → Type 0
Plays n L g q [] names = q.named ≡ names
Plays n L g q (l ∷ ls) names = (r : Report) × (q' : Search) × Run n L g l.limit q r q' × Reaches n l r q' × Plays n L g q' ls names

abbrev pub guide_of : Case → Guide
guide_of c = record { source = book_meaning c.variables c.book; preferences = c.preferences; weighing = plain_weighing c.weigh }

-- the book is a lawful source, and the runs go so by the rules
abbrev pub Follows : Case → Type 0
Follows c = Lawful (guide_of c).source × Plays c.variables c.slots (guide_of c) (begun c.assumptions) c.legs c.named

-- The cases

abbrev pub ones : Member → Plain
ones m = plain 1

abbrev pub three_heavy : Member → Plain
three_heavy m = plain (cond (same m.literal (pos 3)) 9 1)

-- an implied literal, at the fourth place
abbrev pub is_implied : Standing → Bool
is_implied Assumed = false
is_implied Decided = false
is_implied Implied = true

abbrev pub fourth_heavy : Member → Plain
fourth_heavy m = plain (cond (is_implied m.standing && m.place == 3) 9 1)

abbrev pub minus : ℕ → ℤ
minus v = neg_ℤ (pos v)

-- all four clauses of two variables
abbrev pub square : Book
square = clauses ((pos 1 ∷ pos 2 ∷ []) ∷ (pos 1 ∷ minus 2 ∷ []) ∷ (minus 1 ∷ pos 2 ∷ []) ∷ (minus 1 ∷ minus 2 ∷ []) ∷ [])

-- 1 gives 2, 3 gives 4, and 2 and 4 do not go together
abbrev pub crossing : Book
crossing = clauses ((minus 1 ∷ pos 2 ∷ []) ∷ (minus 3 ∷ pos 4 ∷ []) ∷ (minus 2 ∷ minus 4 ∷ pos 5 ∷ []) ∷ (minus 2 ∷ minus 4 ∷ minus 5 ∷ []) ∷ [])

-- 1 gives 2, which rules 3 out
abbrev pub chained : Book
chained = clauses ((minus 1 ∷ pos 2 ∷ []) ∷ (minus 2 ∷ minus 3 ∷ []) ∷ [])

abbrev pub one_of_three : Book
one_of_three = groups (record { most = 1; literals = pos 1 ∷ pos 2 ∷ pos 3 ∷ [] } ∷ [])

-- up to the conflict, over it, and on: 1, 2 and 5 are undone
abbrev pub over_1_2_5 : List Leg
over_1_2_5 =
    leg 5 paused 5 0 (pos 1 ∷ pos 2 ∷ pos 3 ∷ pos 4 ∷ pos 5 ∷ [])
    ∷ leg 1 paused 1 3 (pos 0 ∷ minus 2 ∷ pos 3 ∷ pos 4 ∷ pos 0 ∷ [])
    ∷ leg 1000 model 2 0 (minus 1 ∷ minus 2 ∷ pos 3 ∷ pos 4 ∷ pos 5 ∷ [])
    ∷ []

-- the same, where 3, 4 and 5 are
abbrev pub over_3_4_5 : List Leg
over_3_4_5 =
    leg 5 paused 5 0 (pos 1 ∷ pos 2 ∷ pos 3 ∷ pos 4 ∷ pos 5 ∷ [])
    ∷ leg 1 paused 1 3 (pos 1 ∷ pos 2 ∷ pos 0 ∷ minus 4 ∷ pos 0 ∷ [])
    ∷ leg 1000 model 2 0 (pos 1 ∷ pos 2 ∷ minus 3 ∷ minus 4 ∷ pos 5 ∷ [])
    ∷ []

-- a case with an empty preference list: so many variables and slots, the book, the weights, the assumptions, the runs, and the named assumptions
abbrev pub known : ℕ → ℕ → Book → (Member → Plain) → List ℤ → List Leg → List ℤ → Case
known n L b w assumptions ls names = record { variables = n; slots = L; book = b; preferences = []; weigh = w; assumptions = assumptions; legs = ls; named = names }

-- the same with preferred literals
abbrev pub preferring : List ℤ → Case → Case
preferring ls c = record c { preferences = ls }

abbrev pub known_cases : List Case
known_cases =
    known 0 0 (clauses []) ones [] (leg 1000 model 0 0 [] ∷ []) []
    ∷ known 0 0 (clauses ([] ∷ [])) ones [] (leg 1000 refuted 0 0 [] ∷ []) []
    ∷ known 2 0 square ones [] (leg 1000 refuted 4 2 (minus 1 ∷ pos 2 ∷ []) ∷ []) []
    ∷ known 2 0 square ones [] (leg 3 paused 3 2 (minus 1 ∷ pos 0 ∷ []) ∷ leg 1 refuted 1 0 (minus 1 ∷ pos 2 ∷ []) ∷ []) []
    -- with a slot empty the lighter chunk goes, that of 1
    ∷ known 5 1 crossing three_heavy [] (leg 1000 model 8 3 (minus 1 ∷ minus 2 ∷ pos 3 ∷ pos 4 ∷ pos 5 ∷ []) ∷ []) []
    ∷ known 5 1 crossing three_heavy [] over_1_2_5 []
    ∷ known 5 1 crossing fourth_heavy [] (leg 1000 model 8 3 (minus 1 ∷ minus 2 ∷ pos 3 ∷ pos 4 ∷ pos 5 ∷ []) ∷ []) []
    -- without one the latest goes, that of 3
    ∷ known 5 0 crossing three_heavy [] (leg 1000 model 8 3 (pos 1 ∷ pos 2 ∷ minus 3 ∷ minus 4 ∷ pos 5 ∷ []) ∷ []) []
    ∷ known 5 0 crossing three_heavy [] over_3_4_5 []
    -- of chunks that weigh the same the latest goes, also with a slot empty
    ∷ known 5 1 crossing ones [] (leg 1000 model 8 3 (pos 1 ∷ pos 2 ∷ minus 3 ∷ minus 4 ∷ pos 5 ∷ []) ∷ []) []
    ∷ known 4 0 chained ones (pos 4 ∷ pos 1 ∷ pos 3 ∷ []) (leg 1000 refuted 4 0 (pos 1 ∷ pos 2 ∷ minus 3 ∷ pos 4 ∷ []) ∷ []) (pos 3 ∷ pos 1 ∷ [])
    -- preferred are -5, which is no variable here, and -1
    ∷ preferring (minus 5 ∷ minus 1 ∷ []) (known 2 0 (clauses ((pos 1 ∷ pos 2 ∷ []) ∷ [])) ones [] (leg 1000 model 2 0 (minus 1 ∷ pos 2 ∷ []) ∷ []) [])
    ∷ known 3 0 one_of_three ones (pos 2 ∷ []) (leg 1000 model 3 0 (minus 1 ∷ pos 2 ∷ minus 3 ∷ []) ∷ []) []
    ∷ []

abbrev pub KnownRuns : Type 0
KnownRuns = All Follows known_cases
