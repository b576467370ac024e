-- A clause book while it is filled.
use Rattle.std.specs.Prelude.{◌≡◌, ℕ, ◌+◌, ◌-◌, Bool, cond, ◌||◌, List, [], ◌∷◌, ◌++◌, length, replicate, ℤ, pos, Some, None, Ok, Err, Option, nat_le, nat_lt}
use Rattle.std.proofs.Common.{refl}
use Rattle.std.proofs.lemmas.Bool.{cond_both}
use Rattle.std.specs.List.{list_all}
use Rattle.rules.specs.Literals.{in_range, has}
use Rattle.rules.specs.Rows.{words_of, spelled}
use Rattle.rules.specs.Drafts.{Reply, reply}
use Rattle.rules.specs.RowBuffers.{Content, content}
use Rattle.rules.specs.declared.refusal.Refusal.{Refusal}
use Rattle.rules.specs.declared.refusal.Refusal.TheVariants.{NoVariable, NoRoom}
use Rattle.rules.specs.declared.clauses.ClauseBook.{ClauseBook}

-- What a book that is filled comes to: its variables, the number of its words, its clauses, and the clause that is being written:
-- the literals that it has so far, and the refusal that it has earned so far.
pub record Filling : Type 0 where
  pub variables : ℕ
  pub size : ℕ
  pub clauses : List (List ℤ)
  pub draft : List ℤ
  pub fault : Option Refusal

abbrev pub clauses_of : Content → Filling
clauses_of b = record { variables = b.variables; size = b.size; clauses = b.standing; draft = b.draft; fault = b.fault }

abbrev pub filling : ClauseBook → Filling
filling b = clauses_of (content b.buffer)

-- its words: the clauses, each with a 0 behind it, the literals of the clause that is being written, and zeros
abbrev pub all_words : Filling → List ℤ
all_words b = spelled b.clauses ++ (b.draft ++ replicate (b.size - (words_of b.clauses + length b.draft)) (pos 0))

-- a book with no clause
abbrev pub empty : ℕ → ℕ → Filling
empty n size = record { variables = n; size = size; clauses = []; draft = []; fault = None }

-- the same book with this being written
abbrev pub writing : Filling → List ℤ → Option Refusal → Filling
writing b d f = record { variables = b.variables; size = b.size; clauses = b.clauses; draft = d; fault = f }

-- the same book with nothing being written
abbrev pub clean : Filling → Filling
clean b = writing b [] None

-- One literal more. It is refused if its variable is not the book's; a repeat is dropped; a new one wants a word.
abbrev pub faulted : Filling → Refusal → Filling
faulted b r = writing b b.draft (Some r)

abbrev pub extended : Filling → ℤ → Filling
extended b l = writing b (b.draft ++ (l ∷ [])) b.fault

abbrev pub written : Filling → ℤ → Filling
written b l = cond (nat_lt (words_of b.clauses + length b.draft) b.size) (extended b l) (faulted b NoRoom)

abbrev pub noted : Filling → ℤ → Option Refusal → Filling
noted b l None = cond (has b.draft l) b (written b l)
noted b l (Some r) = b

abbrev pub pushed : Filling → ℤ → Filling
pushed b l = cond (in_range b.variables l) (noted b l b.fault) (faulted b NoVariable)

-- the number of words stays as literals are added
pub pushed_size : (b : Filling) (l : ℤ) → (pushed b l).size ≡ b.size
pushed_size b l = cond_both (in_range b.variables l) (noted b l b.fault) (faulted b NoVariable) (λ k. k.size ≡ b.size) (λ _. by b.fault) (λ _. refl)
  where
    by : (f : Option Refusal) → (noted b l f).size ≡ b.size
    by (Some r) = refl
    by None = cond_both (has b.draft l) b (written b l) (λ k. k.size ≡ b.size) (λ _. refl)
        (λ _. cond_both (nat_lt (words_of b.clauses + length b.draft) b.size) (extended b l) (faulted b NoRoom) (λ k. k.size ≡ b.size) (λ _. refl) (λ _. refl))

-- The end of a clause. A clause of k literals has no place where the words do not suffice, or where 65,535 clauses stand.
abbrev pub no_place : Filling → ℕ → Bool
no_place b k = nat_le b.size (words_of b.clauses + k) || nat_le 65535 (length b.clauses)

abbrev pub ending : Filling → Reply
ending b = reply b.fault (no_place b (length b.draft))

-- what an answer to the clause C leaves: at Ok one clause more, else the same clauses; and nothing is being written
abbrev pub settled : Filling → List ℤ → Reply → Filling
settled b C (Ok x) = record { variables = b.variables; size = b.size; clauses = b.clauses ++ (C ∷ []); draft = []; fault = None }
settled b C (Err r) = clean b

-- A whole clause. Its repeats are dropped, the first kept; `seen` are the literals kept so far.
abbrev pub once_after : List ℤ → List ℤ → List ℤ
once_after seen [] = seen
once_after seen (l ∷ ls) = cond (has seen l) (once_after seen ls) (once_after (seen ++ (l ∷ [])) ls)

abbrev pub once : List ℤ → List ℤ
once ls = once_after [] ls

-- the answer: first whether all its variables are the book's, then whether it has a place
abbrev pub answer_to : Filling → List ℤ → Reply
answer_to b ls = cond (list_all (in_range b.variables) ls) (cond (no_place b (length (once ls))) (Err NoRoom) (Ok tt)) (Err NoVariable)
