-- The known runs, by computing them.
use Rattle.std.proofs.Common.{◌≡◌, ℕ, Bool, true, List, [], ◌∷◌, map, ℤ, All, refl, ap, subst, arith}
use Rattle.std.proofs.lemmas.List.Elements.{All-nil, All-cons}
use Rattle.std.specs.List.{list_all}
use Rattle.std.proofs.lemmas.Bool.{leb-true, leb-false, le-leb}
use Rattle.rules.specs.Literals.{in_range}
use Rattle.rules.specs.Sources.{LawfulAt, Lawful}
use Rattle.rules.specs.Books.{clause_fits, group_fits}
use Rattle.rules.proofs.ClauseLaws.{clause_book_lawful}
use Rattle.rules.proofs.GroupLaws.{group_book_lawful}
use Rattle.std.proofs.lemmas.List.Sums.{AllPass-from_list_all}
use Rattle.theory.specs.Weighing.{Member, Fair, Plain, plain, plain_plus, total_weight}
use Rattle.theory.specs.Trail.{valuation}
use Rattle.theory.specs.Search.{Guide}
use Rattle.theory.specs.Run.{Search, Report, Run, Run.again, Run.goes}
use Rattle.theory.specs.Calls.{begun}
use Rattle.theory.specs.KnownRuns.{leg, Book, Book.clauses, Book.groups, book_meaning, plain_weighing, Leg, Case, Plays, guide_of, Follows, known_cases, KnownRuns}
use Rattle.theory.proofs.Invariant.{InRange, Orderly}
use Rattle.theory.proofs.Ends.{goes_orderly}
use Rattle.theory.proofs.Histories.{begun_orderly}
use Rattle.theory.proofs.Compute.{running, running_runs}

-- what the functions compute of a list of runs: what each comes to, and what is named at the end
abbrev computed_legs : ℕ → ℕ → Guide → Search → List Leg → List Leg
computed_legs n L g q [] = []
computed_legs n L g q (l ∷ ls) =
    leg l.limit (running n L g l.limit q).report.verdict (running n L g l.limit q).report.steps (running n L g l.limit q).report.undone
    (valuation n (running n L g l.limit q).search.position.trail)
    ∷ computed_legs n L g (running n L g l.limit q).search ls

abbrev computed_names : ℕ → ℕ → Guide → Search → List Leg → List ℤ
computed_names n L g q [] = q.named
computed_names n L g q (l ∷ ls) = computed_names n L g (running n L g l.limit q).search ls

run_orderly : (n L : ℕ) (g : Guide) → LawfulAt n g.source → {limit : ℕ} {q : Search} {r : Report} {q' : Search}
    → Run n L g limit q r q' → Orderly n L q.position → Orderly n L q'.position
run_orderly n L g law (again e) o = o
run_orderly n L g law (goes e go) o = (goes_orderly n L g law go o).0

-- is what the rules say
plays : (n L : ℕ) (g : Guide) → LawfulAt n g.source → Fair g.weighing → (q : Search) → Orderly n L q.position
    → (ls : List Leg) (names : List ℤ) → computed_legs n L g q ls ≡ ls → computed_names n L g q ls ≡ names → Plays n L g q ls names
plays n L g law fair q o [] names e c = c
plays n L g law fair q o (l ∷ ls) names e c =
    let q' = (running n L g l.limit q).search in
    let r = (running n L g l.limit q).report in
    let run = running_runs n L g law fair l.limit q o in
    let here : leg l.limit r.verdict r.steps r.undone (valuation n q'.position.trail) ≡ l = cc in
    let rest : computed_legs n L g q' ls ≡ ls = cc in (
      r,
      q',
      run,
      record { verdict = ap (λ x. x.verdict) here; steps = ap (λ x. x.steps) here; undone = ap (λ x. x.undone) here; values = ap (λ x. x.values) here },
      plays n L g law fair q' (run_orderly n L g law run o) ls names rest c,
    )

-- plain weights are fair
plain_fair : (weigh : Member → Plain) → Fair (plain_weighing weigh)
plain_fair weigh = (
  (λ x y h. let a = leb-false (weight x) (weight y) h in le-leb (weight y) (weight x) (omega arith)),
  (λ x y z h k. let a = leb-true (weight x) (weight y) h in let b = leb-true (weight y) (weight z) k in le-leb (weight x) (weight z) (omega arith)),
)
  where
    weight : List Member → ℕ
    weight x = (total_weight (plain 0) plain_plus weigh x).0

abbrev fits : ℕ → Book → Bool
fits n (clauses Cs) = list_all (clause_fits n) Cs
fits n (groups Gs) = list_all (group_fits n) Gs

book_lawful : (n : ℕ) (b : Book) → fits n b ≡ true → Lawful (book_meaning n b)
book_lawful n (clauses Cs) h = clause_book_lawful n Cs h
book_lawful n (groups Gs) h = group_book_lawful n Gs h

book_count : (n : ℕ) (b : Book) → (book_meaning n b).count ≡ n
book_count n (clauses Cs) = refl
book_count n (groups Gs) = refl

-- what can be computed of a case: whether its book and its assumptions fit, and how its runs go
record Result : Type 0 where
  book_fits : Bool
  assumptions_fit : Bool
  legs : List Leg
  named : List ℤ

abbrev result : Case → Result
result c = record {
  book_fits = fits c.variables c.book;
  assumptions_fit = list_all (in_range c.variables) c.assumptions;
  legs = computed_legs c.variables c.slots (guide_of c) (begun c.assumptions) c.legs;
  named = computed_names c.variables c.slots (guide_of c) (begun c.assumptions) c.legs;
}

abbrev expected : Case → Result
expected c = record { book_fits = true; assumptions_fit = true; legs = c.legs; named = c.named }

-- each case is computed
results : map result known_cases ≡ map expected known_cases
results = refl

follows : (c : Case) → result c ≡ expected c → Follows c
follows c e =
    let law = book_lawful c.variables c.book (ap (λ x. x.book_fits) e) in
    let at = subst (λ k. LawfulAt k (book_meaning c.variables c.book)) (book_count c.variables c.book) law in
    let ranged : InRange c.variables c.assumptions = AllPass-from_list_all (in_range c.variables) c.assumptions (ap (λ x. x.assumptions_fit) e) in (
      law,
      plays c.variables c.slots (guide_of c) at (plain_fair c.weigh) (begun c.assumptions) (begun_orderly c.variables c.slots c.assumptions ranged)
          c.legs c.named (ap (λ x. x.legs) e) (ap (λ x. x.named) e),
    )

all_follow : (cs : List Case) → map result cs ≡ map expected cs → All Follows cs
all_follow [] e = All-nil Follows
all_follow (c ∷ cs) e =
    let here : result c ≡ expected c = cc in
    let rest : map result cs ≡ map expected cs = cc in
    All-cons Follows c cs (follows c here) (all_follow cs rest)

pub known_runs : KnownRuns
known_runs = all_follow known_cases results
