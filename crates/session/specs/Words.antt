-- A session's words: where each stands, and what is left as it was. In this order: assumptions 2n, trail n, values n, clause n, marks n,
-- and rows of n + 1 words, one for the reason of each variable and one for each slot.
use Rattle.std.specs.Prelude.{◌≡◌, ℕ, pred, ◌+◌, ◌*◌, ◌<◌, ◌≤◌, ◌≢◌, List, map, ℤ, pos, negsuc, slice_index_or}
use Rattle.std.specs.List.{range_with_len}

abbrev pub word_at : List ℤ → ℕ → ℤ
word_at ws i = slice_index_or ws i (pos 0)

-- so many words from an address on
abbrev pub words_from : List ℤ → ℕ → ℕ → List ℤ
words_from ws base k = map (word_at ws) (range_with_len base k)

-- the index of a literal's variable, from 0
abbrev pub index_of : ℤ → ℕ
index_of (pos a) = pred a
index_of (negsuc a) = a

-- the literal at place p of the trail, the oldest at 0
abbrev pub trail_at : ℕ → ℕ → ℕ
trail_at n p = 2 * n + p

-- the value of the variable of index x
abbrev pub value_at : ℕ → ℕ → ℕ
value_at n x = 3 * n + x

-- literal i of the clause in hand
abbrev pub clause_at : ℕ → ℕ → ℕ
clause_at n i = 4 * n + i

-- the mark of the variable of index x
abbrev pub mark_at : ℕ → ℕ → ℕ
mark_at n x = 5 * n + x

-- Word k of row x. The reason of the variable of index x is row x: how it stands, how many other literals its reason has, and these.
-- Slot s is row n + s: how many literals, and these.
abbrev pub row_at : ℕ → ℕ → ℕ → ℕ
row_at n x k = 6 * n + x * (n + 1) + k

-- how many words there are, of n variables and L slots
abbrev pub size : ℕ → ℕ → ℕ
size n L = 6 * n + (n + L) * (n + 1)

-- one word is written
pub record Wrote (i : ℕ) (v : ℤ) (was now : List ℤ) : Type 0 where
  pub at : word_at now i ≡ v
  pub rest : (j : ℕ) → j ≢ i → word_at now j ≡ word_at was j

-- only so many words from base on may have changed
pub record Outside (base count : ℕ) (was now : List ℤ) : Type 0 where
  pub below : (i : ℕ) → i < base → word_at now i ≡ word_at was i
  pub above : (i : ℕ) → base + count ≤ i → word_at now i ≡ word_at was i
