-- Rows of words while they are filled.
use Rattle.std.specs.Prelude.{ℕ, ◌+◌, ◌-◌, cond, List, [], ◌∷◌, ◌++◌, length, take, drop, replicate, ℤ, pos, Some, None, Ok, Err, Option, nat_lt}
use Rattle.rules.specs.Rows.{rows, words_of, spelled}
use Rattle.rules.specs.Drafts.{Reply}
use Rattle.rules.specs.declared.refusal.Refusal.{Refusal}
use Rattle.rules.specs.declared.refusal.Refusal.TheVariants.{NoRoom}
use Rattle.rules.specs.declared.row_buffer.RowBuffer.{RowBuffer}

-- What rows that are filled come to: the number of variables, the number of words, the rows that stand, and the row that is being
-- written: the words that it has so far, and the refusal that it has earned so far.
pub record Content : Type 0 where
  pub variables : ℕ
  pub size : ℕ
  pub standing : List (List ℤ)
  pub draft : List ℤ
  pub fault : Option Refusal

abbrev pub content : RowBuffer → Content
content b = record {
  variables = b.variables;
  size = length b.words.now;
  standing = rows (take b.used b.words.now);
  draft = take b.len (drop b.used b.words.now);
  fault = b.fault;
}

-- how many words are behind the row that is being written
abbrev pub free : Content → ℕ
free b = b.size - (words_of b.standing + length b.draft)

-- the words: the rows that stand, each with a 0 behind it, the row that is being written, and zeros
abbrev pub all_words : Content → List ℤ
all_words b = spelled b.standing ++ (b.draft ++ replicate (free b) (pos 0))

-- no row
abbrev pub blank : ℕ → ℕ → Content
blank n size = record { variables = n; size = size; standing = []; draft = []; fault = None }

-- the same rows with this being written
abbrev pub writing : Content → List ℤ → Option Refusal → Content
writing b d f = record { variables = b.variables; size = b.size; standing = b.standing; draft = d; fault = f }

-- the same rows with nothing being written
abbrev pub cleared : Content → Content
cleared b = writing b [] None

-- One word more wants a place. A row that has earned a refusal stays as it is.
abbrev pub written : Content → ℤ → Content
written b w = cond (nat_lt (words_of b.standing + length b.draft) b.size) (writing b (b.draft ++ (w ∷ [])) b.fault) (writing b b.draft (Some NoRoom))

abbrev pub noted : Content → ℤ → Option Refusal → Content
noted b w None = written b w
noted b w (Some r) = b

abbrev pub pushed : Content → ℤ → Content
pushed b w = noted b w b.fault

-- what an answer to the row leaves: one that is refused is dropped
abbrev pub admitted : Content → Reply → Content
admitted b (Ok x) = b
admitted b (Err r) = cleared b

-- the row that is being written joins those that stand
abbrev pub joined : Content → Content
joined b = record { variables = b.variables; size = b.size; standing = b.standing ++ (b.draft ∷ []); draft = []; fault = b.fault }
