-- Literals, and lists of them.
use Rattle.std.specs.Prelude.{◌≡◌, ℕ, Bool, false, ◌&&◌, ◌||◌, List, [], ◌∷◌, ℤ, pos, negsuc, ◌==◌, nat_le, unsigned_abs}

-- A literal is a whole number other than 0: v says that variable v is true, −v that it is false.
abbrev pub var : ℤ → ℕ
var l = unsigned_abs l

-- whether two literals are the same
abbrev pub same : ℤ → ℤ → Bool
same (pos a) (pos b) = a == b
same (pos a) (negsuc b) = false
same (negsuc a) (pos b) = false
same (negsuc a) (negsuc b) = a == b

-- whether the literal's variable is one of 1 to n
abbrev pub in_range : ℕ → ℤ → Bool
in_range n l = nat_le 1 (var l) && nat_le (var l) n

-- whether the list has the literal
abbrev pub has : List ℤ → ℤ → Bool
has [] x = false
has (l ∷ ls) x = same x l || has ls x

-- whether the list names the variable
abbrev pub names : List ℤ → ℕ → Bool
names [] v = false
names (l ∷ ls) v = v == var l || names ls v

-- the list names no variable twice
abbrev pub Once : List ℤ → Type 0
Once [] = Unit {0}
Once (l ∷ ls) = (names ls (var l) ≡ false) × Once ls

-- whether one of the list passes the test
abbrev pub any_pass : {A : Type 0} → (A → Bool) → List A → Bool
any_pass p [] = false
any_pass p (x ∷ xs) = p x || any_pass p xs
