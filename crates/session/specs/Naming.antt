-- Which assumed literals a conflict rests on, by marks: the marks go back along the trail, from a literal to its reason.
use Rattle.std.specs.Prelude.{ℕ, Bool, ◌&&◌, ◌||◌, ℤ}
use Rattle.rules.specs.Literals.{any_pass}
use Rattle.theory.specs.Trail.{Entry, Entry.assumed, Entry.decided, Entry.implied, Trail, literal}
use Rattle.session.specs.Words.{index_of}
use Rattle.session.specs.Analysis.{names_index}

-- the marks K by variable, with those of an entry's reason where the entry itself is marked
abbrev pub with_reason : (ℕ → Bool) → Entry → ℕ → Bool
with_reason K (assumed l) x = K x
with_reason K (decided l) x = K x
with_reason K (implied l others) x = K x || (K (index_of l) && names_index others x)

-- whether an entry of the trail is marked and a member
abbrev pub marks_member : (ℕ → Bool) → (ℤ → Bool) → Trail → Bool
marks_member K member t = any_pass (λ e. K (index_of (literal e)) && member (literal e)) t
