-- A group as a row of words: its literals, and then its limit plus 1, so that no word of the row is 0.
use Rattle.std.specs.Prelude.{ℕ, ◌+◌, ◌-◌, Bool, false, ◌&&◌, List, [], ◌∷◌, ◌++◌, length, take, ℤ, pos, negsuc, nat_le, slice_index_or, unsigned_abs}
use Rattle.std.specs.List.{list_all}
use Rattle.rules.specs.Literals.{var, in_range}
use Rattle.rules.specs.Books.{Group, rising, group_fits}

abbrev pub as_row : Group → List ℤ
as_row G = G.literals ++ (pos (G.most + 1) ∷ [])

-- the last word of a row
abbrev pub last_word : List ℤ → ℤ
last_word row = slice_index_or row (length row - 1) (pos 0)

-- the group of a row
abbrev pub as_group : List ℤ → Group
as_group row = record { most = unsigned_abs (last_word row) - 1; literals = take (length row - 1) row }

-- whether a word is a limit plus 1
abbrev pub is_limit : ℤ → Bool
is_limit (pos k) = nat_le 1 k
is_limit (negsuc k) = false

-- whether a row is that of a group as a book of n variables keeps it
abbrev pub group_row_fits : ℕ → List ℤ → Bool
group_row_fits n row = is_limit (last_word row) && group_fits n (as_group row)

-- whether literals may be the front of a group, the variable of the last being `last` at most
abbrev pub draft_fits : ℕ → ℕ → List ℤ → Bool
draft_fits n last ls = list_all (in_range n) ls && (rising 0 ls && list_all (λ l. nat_le (var l) last) ls)
