-- What a session's words stand for.
use Rattle.std.specs.Prelude.{◌≡◌, ℕ, zero, suc, ◌+◌, ◌*◌, ◌<◌, ◌≤◌, Bool, true, false, cond, not, ◌&&◌, List, [], ◌∷◌, map, length, ℤ, pos, neg_ℤ, filter, ◌==◌, unsigned_abs}
use Rattle.std.specs.List.{range_with_len}
use Rattle.rules.specs.Literals.{in_range}
use Rattle.weights.specs.declared.weigher.Standing.{Standing}
use Rattle.weights.specs.declared.weigher.Standing.TheVariants.{Assumed, Decided, Implied}
use Rattle.theory.specs.Trail.{Entry, Entry.assumed, Entry.decided, Entry.implied, Trail, literal, on, WellFormed, word}
use Rattle.theory.specs.Look.{Position}
use Rattle.session.specs.Words.{word_at, words_from, index_of, trail_at, value_at, clause_at, mark_at, row_at, size}

-- what a row's first word says of how a literal stands: 3 for implied, 1 for assumed, anything else for decided
abbrev pub as_entry : ℤ → ℤ → List ℤ → Entry
as_entry s l others = cond (unsigned_abs s == 3) (implied l others) (cond (unsigned_abs s == 1) (assumed l) (decided l))

-- the same without its literals, and the word that is written for it
abbrev pub standing_of : ℤ → Standing
standing_of s = cond (unsigned_abs s == 3) Implied (cond (unsigned_abs s == 1) Assumed Decided)

abbrev pub standing_word : Standing → ℤ
standing_word Assumed = pos 1
standing_word Decided = pos 2
standing_word Implied = pos 3

-- whether a row's first word says so
abbrev pub stands : ℤ → Standing → Bool
stands s Implied = unsigned_abs s == 3
stands s Assumed = unsigned_abs s == 1
stands s Decided = not (unsigned_abs s == 3) && not (unsigned_abs s == 1)

-- how many other literals the reason of the variable of index x has, and which
abbrev pub reason_count : ℕ → List ℤ → ℕ → ℕ
reason_count n ws x = unsigned_abs (word_at ws (row_at n x 1))

abbrev pub reason_of : ℕ → List ℤ → ℕ → List ℤ
reason_of n ws x = words_from ws (row_at n x 2) (reason_count n ws x)

-- the entry of a literal on the trail, by its variable's row
abbrev pub entry_of : ℕ → List ℤ → ℤ → Entry
entry_of n ws l = as_entry (word_at ws (row_at n (index_of l) 0)) l (reason_of n ws (index_of l))

-- the literal and the entry at a place of the trail, and the trail's oldest entries
abbrev pub literal_at : ℕ → List ℤ → ℕ → ℤ
literal_at n ws p = word_at ws (trail_at n p)

abbrev pub entry_at : ℕ → List ℤ → ℕ → Entry
entry_at n ws p = entry_of n ws (literal_at n ws p)

abbrev pub trail_of : ℕ → ℕ → List ℤ → Trail
trail_of n zero ws = []
trail_of n (suc p) ws = entry_at n ws p ∷ trail_of n p ws

abbrev pub assumptions_of : ℕ → List ℤ → List ℤ
assumptions_of count ws = words_from ws 0 count

-- the clause in hand, of k literals
abbrev pub clause_of : ℕ → ℕ → List ℤ → List ℤ
clause_of n k ws = words_from ws (clause_at n 0) k

-- how many literals slot s has, and its clause
abbrev pub slot_count : ℕ → List ℤ → ℕ → ℕ
slot_count n ws s = unsigned_abs (word_at ws (row_at n (n + s) 0))

abbrev pub slot_of : ℕ → List ℤ → ℕ → List ℤ
slot_of n ws s = words_from ws (row_at n (n + s) 1) (slot_count n ws s)

abbrev pub slots_of : ℕ → ℕ → List ℤ → List (List ℤ)
slots_of n filled ws = map (slot_of n ws) (range_with_len 0 filled)

-- the position that the words stand for, with so many assumptions, so long a trail and so many filled slots
abbrev pub position_of : ℕ → ℕ → ℕ → ℕ → List ℤ → Position
position_of n count len filled ws = record { assumptions = assumptions_of count ws; trail = trail_of n len ws; slots = slots_of n filled ws }

-- whether the variable of index x has no value, and whether a literal's variable has none
abbrev pub open_index : ℕ → List ℤ → ℕ → Bool
open_index n ws x = unsigned_abs (word_at ws (value_at n x)) == 0

abbrev pub unvalued : ℕ → List ℤ → ℤ → Bool
unvalued n ws l = open_index n ws (index_of l)

-- whether the variable of index x is marked, and whether a literal's variable is
abbrev pub marked_index : ℕ → List ℤ → ℕ → Bool
marked_index n ws x = unsigned_abs (word_at ws (mark_at n x)) == 1

abbrev pub marked : ℕ → List ℤ → ℤ → Bool
marked n ws l = marked_index n ws (index_of l)

-- the entries of a trail whose variables are not marked
abbrev pub unmarked : ℕ → List ℤ → Trail → Trail
unmarked n ws t = filter (λ e. not (marked n ws (literal e))) t

-- a mark as a word
abbrev pub bit : Bool → ℤ
bit true = pos 1
bit false = pos 0

-- The marks tell a test of the trail's literals; the marks of unassigned variables are 0.
pub record Marked (n : ℕ) (t : Trail) (test : ℤ → Bool) (ws : List ℤ) : Type 0 where
  pub on_trail : (l : ℤ) → on t l ≡ true → word_at ws (mark_at n (index_of l)) ≡ bit (test l)
  pub off_trail : (l : ℤ) → in_range n l ≡ true → on t l ≡ false → on t (neg_ℤ l) ≡ false → word_at ws (mark_at n (index_of l)) ≡ pos 0

-- Trail, values and reason rows go together: the trail is well formed, the values are its valuation, and each row has room for its reason.
pub record Coherent (n L len : ℕ) (ws : List ℤ) : Type 0 where
  pub big : size n L ≤ length ws
  pub fits : len ≤ n
  pub formed : WellFormed n (trail_of n len ws)
  pub values : (x : ℕ) → x < n → word_at ws (value_at n x) ≡ word (trail_of n len ws) (suc x)
  pub counts : (x : ℕ) → x < n → reason_count n ws x + 1 ≤ n

-- The filled slots have room for their clauses, whose literals are in range.
pub record Stored (n filled : ℕ) (ws : List ℤ) : Type 0 where
  pub short : (s : ℕ) → s < filled → slot_count n ws s ≤ n
  pub ranged : (s i : ℕ) → s < filled → i < slot_count n ws s → in_range n (word_at ws (row_at n (n + s) 1 + i)) ≡ true

-- The words stand for a position: trail, values and reasons go together, and assumptions and slots have room and literals in range.
pub record Sound (n L count len filled : ℕ) (ws : List ℤ) : Type 0 where
  pub coherent : Coherent n L len ws
  pub few : count ≤ 2 * n
  pub ranged : (i : ℕ) → i < count → in_range n (word_at ws i) ≡ true
  pub within : filled ≤ L
  pub stored : Stored n filled ws
