-- A conflict step's parts: which chunk is chosen, what the analysis leaves, and what is undone, placed and learned.
use Rattle.std.specs.Prelude.{◌≡◌, ℕ, zero, suc, ◌≤◌, Bool, true, false, cond, not, ◌&&◌, ◌||◌, List, [], ◌∷◌, ◌++◌, length, ℤ, pos, negsuc, neg_ℤ, filter, nat_lt}
use Rattle.rules.specs.Literals.{same, has}
use Rattle.theory.specs.Weighing.{Weighing}
use Rattle.theory.specs.Trail.{Entry, Entry.implied, Trail, literal, decided_literals, place_of}
use Rattle.theory.specs.Chunks.{touches, chunk, without_chunk}
use Rattle.theory.specs.Look.{Position}

-- d is decided, and the clause touches its chunk
pub record Touched (t : Trail) (C : List ℤ) (d : ℤ) : Type 0 where
  pub decision : has (decided_literals t) d ≡ true
  pub touching : touches t d C ≡ true

abbrev pub slot_empty : ℕ → List (List ℤ) → Bool
slot_empty L slots = nat_lt (length slots) L

-- whether the choice among the touched chunks is free: while a slot is empty
abbrev pub choice_free : ℕ → Position → Bool
choice_free L p = slot_empty L p.slots

-- While the choice is free, every touched chunk of a decided literal is allowed. Otherwise only the one whose decision stands latest is.
pub record Allowed (L : ℕ) (p : Position) (C : List ℤ) (d : ℤ) : Type 0 where
  pub touched : Touched p.trail C d
  pub latest : choice_free L p ≡ false → (c : ℤ) → Touched p.trail C c → place_of p.trail c ≤ place_of p.trail d

-- The least allowed chunk is chosen; ties go to the latest decision.
pub record Chosen (L : ℕ) (at_most : Weighing) (p : Position) (C : List ℤ) (d : ℤ) : Type 0 where
  pub allowed : Allowed L p C d
  pub least : (c : ℤ) → Allowed L p C c → at_most (chunk p.trail d) (chunk p.trail c) ≡ true
  pub ties : (c : ℤ) → Allowed L p C c → at_most (chunk p.trail c) (chunk p.trail d) ≡ true → place_of p.trail c ≤ place_of p.trail d

-- The analysis goes by a set S of literals, and by a chunk, which `member` tells. S has at most one literal that touches the chunk:
abbrev pub AtMostOne : (ℤ → Bool) → (ℤ → Bool) → Type 0
AtMostOne member S = (x y : ℤ) → S x ≡ true → member (neg_ℤ x) ≡ true → S y ≡ true → member (neg_ℤ y) ≡ true → x ≡ y

-- whether l is a member whose negation is in S
abbrev pub resolvable : (ℤ → Bool) → (ℤ → Bool) → ℤ → Bool
resolvable member S l = member l && S (neg_ℤ l)

-- S with the negation of l replaced by the other literals of l's reason
abbrev pub resolved : ℤ → List ℤ → (ℤ → Bool) → ℤ → Bool
resolved l others S x = (S x && not (same x (neg_ℤ l))) || has others x

-- Go back along the trail while S has more than one literal touching the chunk. At a member whose negation is in S,
-- replace that negation by the other literals of the member's reason.
pub data Analysed (member : ℤ → Bool) : Trail → (ℤ → Bool) → (ℤ → Bool) → Type 0 where
  stops : {t : Trail} {S : ℤ → Bool} → AtMostOne member S → Analysed member t S S
  passes : {e : Entry} {t : Trail} {S R : ℤ → Bool} → (AtMostOne member S → ⊥) → resolvable member S (literal e) ≡ false
      → Analysed member t S R → Analysed member (e ∷ t) S R
  replaces : {l : ℤ} {others : List ℤ} {t : Trail} {S R : ℤ → Bool} → (AtMostOne member S → ⊥) → resolvable member S l ≡ true
      → Analysed member t (resolved l others S) R → Analysed member (implied l others ∷ t) S R

-- the literals of c variables from k + 1 on, by rising variable
abbrev pub literals_from : ℕ → ℕ → List ℤ
literals_from k zero = []
literals_from k (suc c) = pos (suc k) ∷ negsuc k ∷ literals_from (suc k) c

-- The learned clause: what the analysis leaves, by rising variable.
abbrev pub learned : ℕ → (ℤ → Bool) → List ℤ
learned n S = filter S (literals_from 0 n)

-- a clause without one of its literals
abbrev pub others_of : ℤ → List ℤ → List ℤ
others_of l C = filter (λ k. not (same k l)) C

-- a clause is written to the next empty slot, if any
abbrev pub written : ℕ → List (List ℤ) → List ℤ → List (List ℤ)
written L slots C = cond (slot_empty L slots) (slots ++ (C ∷ [])) slots

-- The chunk of d is undone, u is placed with the learned clause as its reason, and that clause is written to a slot.
abbrev pub repaired : ℕ → ℕ → Position → ℤ → ℤ → (ℤ → Bool) → Position
repaired n L p d u S = record {
  assumptions = p.assumptions;
  trail = implied u (others_of u (learned n S)) ∷ without_chunk p.trail d;
  slots = written L p.slots (learned n S);
}
