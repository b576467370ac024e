-- What a pinned literal means: of n variables, it admits what makes the literal true, and tells the clause of that one literal
-- where it is not true yet.
use Rattle.std.specs.Prelude.{ℕ, cond, [], ◌∷◌, ℤ}
use Rattle.rules.specs.Sources.{makes, true_in, Answer.silent, Answer.tells, Meaning}

abbrev pub pinned : ℕ → ℤ → Meaning
pinned n l = record {
  count = n;
  admits = λ bs. makes bs l;
  answer = λ row. cond (true_in row l) silent (tells (l ∷ []));
}
