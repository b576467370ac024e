-- What the rules of a book say, and what the book tells.
use Rattle.std.specs.Prelude.{ℕ, ◌+◌, Bool, true, not, ◌&&◌, List, [], ◌∷◌, ◌++◌, map, length, take, ℤ, neg_ℤ, filter, ◌==◌, nat_le, nat_lt}
use Rattle.std.specs.List.{list_all}
use Rattle.rules.specs.Literals.{var, in_range, has}
use Rattle.rules.specs.Clauses.{status, is_falsified, is_unit}
use Rattle.rules.specs.Sources.{makes, satisfies, true_in, Answer.silent, Meaning, tell_first}

-- A book of clauses admits what satisfies them all. It tells its first falsified clause, or else its first unit clause.
abbrev pub clause_book : ℕ → List (List ℤ) → Meaning
clause_book n Cs = record {
  count = n;
  admits = λ bs. list_all (satisfies bs) Cs;
  answer = λ row. tell_first (λ C. is_falsified (status (true_in row) C)) (λ C. C) Cs
      (tell_first (λ C. is_unit (status (true_in row) C)) (λ C. C) Cs silent);
}

-- whether no literal stands twice
abbrev pub no_repeat : List ℤ → Bool
no_repeat [] = true
no_repeat (l ∷ ls) = not (has ls l) && no_repeat ls

-- whether a clause is as a book of n variables keeps it
abbrev pub clause_fits : ℕ → List ℤ → Bool
clause_fits n C = list_all (in_range n) C && no_repeat C

-- A group says that at most so many of its literals are true.
pub record Group : Type 0 where
  pub most : ℕ
  pub literals : List ℤ

-- its true literals, where `f` tells which literals are true
abbrev pub true_ones : (ℤ → Bool) → Group → List ℤ
true_ones f G = filter f G.literals

-- its unassigned literals
abbrev pub open_ones : (ℤ → Bool) → Group → List ℤ
open_ones f G = filter (λ l. not (f l) && not (f (neg_ℤ l))) G.literals

-- whether an assignment keeps it
abbrev pub keeps : List Bool → Group → Bool
keeps bs G = nat_le (length (true_ones (makes bs) G)) G.most

-- more than K are true: of the first K + 1 of these one has to be false
abbrev pub over : (ℤ → Bool) → Group → Bool
over f G = nat_lt G.most (length (true_ones f G))

abbrev pub over_clause : (ℤ → Bool) → Group → List ℤ
over_clause f G = map neg_ℤ (take (G.most + 1) (true_ones f G))

-- just K are true and some are unassigned: the first of those has to be false, or one of the K
abbrev pub tight : (ℤ → Bool) → Group → Bool
tight f G = length (true_ones f G) == G.most && nat_lt 0 (length (open_ones f G))

abbrev pub tight_clause : (ℤ → Bool) → Group → List ℤ
tight_clause f G = map neg_ℤ (true_ones f G ++ take 1 (open_ones f G))

-- whether the variables strictly rise, from above `last` on
abbrev pub rising : ℕ → List ℤ → Bool
rising last [] = true
rising last (l ∷ ls) = nat_lt last (var l) && rising (var l) ls

-- whether a group is as a book of n variables keeps it
abbrev pub group_fits : ℕ → Group → Bool
group_fits n G = list_all (in_range n) G.literals && rising 0 G.literals

-- A book of groups admits what keeps them all. It tells for its first group that is over, or else for its first that is tight.
abbrev pub group_book : ℕ → List Group → Meaning
group_book n Gs = record {
  count = n;
  admits = λ bs. list_all (keeps bs) Gs;
  answer = λ row. tell_first (over (true_in row)) (over_clause (true_in row)) Gs
      (tell_first (tight (true_in row)) (tight_clause (true_in row)) Gs silent);
}
