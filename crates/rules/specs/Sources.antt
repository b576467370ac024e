-- What a source of rules means, and what is asked of every source.
use Rattle.std.specs.Prelude.{◌≡◌, ℕ, suc, ◌-◌, Bool, true, false, cond, not, ◌&&◌, ◌||◌, ◌⊎◌, List, [], ◌∷◌, ◌++◌, map, length, take, drop, ℤ, pos, negsuc, neg_ℤ, All, ◌==◌, nat_le, slice_index_or}
use Rattle.std.specs.List.{range_with_len}
use Rattle.rules.specs.Literals.{var, same, in_range, Once, any_pass}
use Rattle.rules.specs.Clauses.{status, is_falsified, is_unit}

-- An assignment gives every variable a value: entry v − 1 of the list is that of variable v. Whether it makes a literal true:
abbrev pub makes : List Bool → ℤ → Bool
makes bs (pos v) = slice_index_or bs (v - 1) false
makes bs (negsuc v) = not (slice_index_or bs v false)

-- whether it satisfies a clause: makes one of its literals true
abbrev pub satisfies : List Bool → List ℤ → Bool
satisfies bs C = any_pass (makes bs) C

-- the assignment of n variables that makes variable v true where `f` has the literal v for true
abbrev pub assignment : ℕ → (ℤ → Bool) → List Bool
assignment n f = map (λ v. f (pos v)) (range_with_len 1 n)

-- A valuation gives some variables a value. Its row of words has at entry v − 1 the literal of variable v that is true, v or −v;
-- any other word, or a row that is too short, leaves v unassigned. Whether a literal is true:
abbrev pub true_in : List ℤ → ℤ → Bool
true_in row l = nat_le 1 (var l) && same (slice_index_or row (var l - 1) (pos 0)) l

-- entry i of the row stands for variable k + i + 1: it is that literal, its negation, or 0
abbrev pub Entries : ℕ → List ℤ → Type 0
Entries k [] = Unit {0}
Entries k (w ∷ ws) = ((w ≡ pos (suc k)) ⊎ ((w ≡ negsuc k) ⊎ (w ≡ pos 0))) × Entries (suc k) ws

-- the row of a valuation of n variables, in its one form
pub record Valuation (n : ℕ) (row : List ℤ) : Type 0 where
  pub sized : length row ≡ n
  pub entries : Entries 0 row

-- all of the variables 1 to n have a value
abbrev pub Full : ℕ → List ℤ → Type 0
Full n row = (l : ℤ) → in_range n l ≡ true → (true_in row l || true_in row (neg_ℤ l)) ≡ true

-- what a source says under a valuation
pub data Answer : Type 0 where
  silent : Answer
  tells : List ℤ → Answer

-- The meaning of a source: how many variables it has, which assignments of them it admits, and its answer for each valuation.
pub record Meaning : Type 0 where
  pub count : ℕ
  pub admits : List Bool → Bool
  pub answer : List ℤ → Answer

-- What holds of a clause that is told under a valuation: its variables are among 1 to n, none is named twice,
-- it is falsified or unit, and every admitted assignment satisfies it.
pub record ToldClause (n : ℕ) (m : Meaning) (row C : List ℤ) : Type 0 where
  pub ranged : All (λ l. in_range n l ≡ true) C
  pub once : Once C
  pub asserts : (is_falsified (status (true_in row) C) || is_unit (status (true_in row) C)) ≡ true
  pub sound : (bs : List Bool) → length bs ≡ n → m.admits bs ≡ true → satisfies bs C ≡ true

-- The laws of a source of n variables: each told clause is as above; and where all variables have a value,
-- the source is silent exactly when it admits that assignment.
pub record LawfulAt (n : ℕ) (m : Meaning) : Type 0 where
  pub told : (row : List ℤ) → Valuation n row → (C : List ℤ) → m.answer row ≡ tells C → ToldClause n m row C
  pub quiet : (row : List ℤ) → Valuation n row → Full n row → m.answer row ≡ silent → m.admits (assignment n (true_in row)) ≡ true
  pub admitted : (row : List ℤ) → Valuation n row → Full n row → m.admits (assignment n (true_in row)) ≡ true → m.answer row ≡ silent

abbrev pub Lawful : Meaning → Type 0
Lawful m = LawfulAt m.count m

-- The clause of the first that passes the test, or else the other answer.
abbrev pub tell_first : {A : Type 0} → (A → Bool) → (A → List ℤ) → List A → Answer → Answer
tell_first p clause [] otherwise = otherwise
tell_first p clause (x ∷ xs) otherwise = cond (p x) (tells (clause x)) (tell_first p clause xs otherwise)

-- what the first says, or else the second
abbrev pub or_else : Answer → Answer → Answer
or_else silent b = b
or_else (tells C) b = tells C

-- Two sources of equal count together: admitted is what both admit.
abbrev pub together : Meaning → Meaning → Meaning
together a b = record {
  count = a.count;
  admits = λ bs. a.admits bs && b.admits bs;
  answer = λ row. or_else (a.answer row) (b.answer row);
}

-- no variable, everything admitted, never a word
abbrev pub mute : Meaning
mute = record { count = 0; admits = λ bs. true; answer = λ row. silent }

-- the join of two sources
abbrev pub joined : Meaning → Meaning → Meaning
joined a b = cond (a.count == b.count) (together a b) mute

-- A clause laid over some room: its front as far as it fits, and then what was there.
abbrev pub laid : List ℤ → List ℤ → List ℤ
laid [] room = room
laid (l ∷ C) [] = []
laid (l ∷ C) (w ∷ room) = l ∷ laid C room

-- A page is a valuation's n words with room behind them. What an answer leaves on it:
abbrev pub page_after : ℕ → Answer → List ℤ → List ℤ
page_after n silent page = page
page_after n (tells C) page = take n page ++ laid C (drop n page)
