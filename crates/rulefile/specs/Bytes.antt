-- The classes of bytes.
use Rattle.std.specs.Prelude.{ℕ, Bool, cond, ◌&&◌, ◌||◌, ◌==◌, nat_le}
use Rattle.rulefile.specs.declared.bytes.Class.{Class}
use Rattle.rulefile.specs.declared.bytes.Class.TheVariants.{Blank, LineEnd, Digit, Minus, Other}

-- space, tab and carriage return
abbrev pub is_blank : ℕ → Bool
is_blank b = b == 32 || b == 9 || b == 13

abbrev pub is_digit : ℕ → Bool
is_digit b = nat_le 48 b && nat_le b 57

-- blank, line feed, digit, minus, or another byte
abbrev pub class_of : ℕ → Class
class_of b = cond (is_blank b) Blank (cond (b == 10) LineEnd (cond (is_digit b) Digit (cond (b == 45) Minus Other)))
