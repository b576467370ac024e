-- A group book while it is filled.
use Rattle.std.specs.Prelude.{◌≡◌, ℕ, ◌+◌, ◌-◌, min, Bool, cond, List, [], ◌∷◌, ◌++◌, map, length, replicate, ℤ, pos, Some, None, Ok, Err, Option, nat_le, nat_lt}
use Rattle.std.proofs.Common.{refl}
use Rattle.std.proofs.lemmas.Bool.{cond_both}
use Rattle.std.specs.List.{list_all}
use Rattle.rules.specs.Literals.{var, in_range}
use Rattle.rules.specs.Books.{Group, rising}
use Rattle.rules.specs.Rows.{words_of, spelled}
use Rattle.rules.specs.Drafts.{Reply, reply}
use Rattle.rules.specs.GroupRows.{as_group, as_row}
use Rattle.rules.specs.RowBuffers.{Content, content}
use Rattle.rules.specs.declared.refusal.Refusal.{Refusal}
use Rattle.rules.specs.declared.refusal.Refusal.TheVariants.{NoVariable, NoRoom, NotRising}
use Rattle.rules.specs.declared.groups.GroupBook.{GroupBook}

-- What a book that is filled comes to: its variables, the number of its words, its groups, and the group that is being written:
-- the literals that it has so far, the variable of the last one that rose, and the refusal that it has earned so far.
pub record Filling : Type 0 where
  pub variables : ℕ
  pub size : ℕ
  pub groups : List Group
  pub draft : List ℤ
  pub last : ℕ
  pub fault : Option Refusal

abbrev pub groups_of : Content → ℕ → Filling
groups_of b last = record { variables = b.variables; size = b.size; groups = map as_group b.standing; draft = b.draft; last = last; fault = b.fault }

abbrev pub filling : GroupBook → Filling
filling b = groups_of (content b.buffer) b.last

-- its words: a row for each group, each with a 0 behind it, the literals of the group that is being written, and zeros
abbrev pub all_words : Filling → List ℤ
all_words b = spelled (map as_row b.groups) ++ (b.draft ++ replicate (b.size - (words_of (map as_row b.groups) + length b.draft)) (pos 0))

-- a book with no group
abbrev pub empty : ℕ → ℕ → Filling
empty n size = record { variables = n; size = size; groups = []; draft = []; last = 0; fault = None }

-- the same book with this being written
abbrev pub writing : Filling → List ℤ → ℕ → Option Refusal → Filling
writing b d last f = record { variables = b.variables; size = b.size; groups = b.groups; draft = d; last = last; fault = f }

-- the same book with nothing being written
abbrev pub clean : Filling → Filling
clean b = writing b [] 0 None

-- One literal more. It is refused if its variable is not the book's, or is not above that of the literal before; otherwise it wants a word.
abbrev pub faulted : Filling → Refusal → Filling
faulted b r = writing b b.draft b.last (Some r)

abbrev pub raised : Filling → ℤ → Filling
raised b l = writing b b.draft (var l) b.fault

abbrev pub extended : Filling → ℤ → Filling
extended b l = writing b (b.draft ++ (l ∷ [])) b.last b.fault

abbrev pub written : Filling → ℤ → Filling
written b l = cond (nat_lt (words_of (map as_row b.groups) + length b.draft) b.size) (extended b l) (faulted b NoRoom)

abbrev pub risen : Filling → ℤ → Option Refusal → Filling
risen b l None = written (raised b l) l
risen b l (Some r) = raised b l

-- a variable that does not rise is a worse fault than want of room, and one that is not the book's is the worst
abbrev pub fallen : Filling → Option Refusal → Filling
fallen b None = faulted b NotRising
fallen b (Some NoVariable) = b
fallen b (Some NoRoom) = faulted b NotRising
fallen b (Some NotRising) = b

abbrev pub pushed : Filling → ℤ → Filling
pushed b l = cond (in_range b.variables l) (cond (nat_lt b.last (var l)) (risen b l b.fault) (fallen b b.fault)) (faulted b NoVariable)

-- the number of words stays as literals are added
pub pushed_size : (b : Filling) (l : ℤ) → (pushed b l).size ≡ b.size
pushed_size b l = cond_both (in_range b.variables l) (cond (nat_lt b.last (var l)) (risen b l b.fault) (fallen b b.fault)) (faulted b NoVariable) (λ k. k.size ≡ b.size)
    (λ _. cond_both (nat_lt b.last (var l)) (risen b l b.fault) (fallen b b.fault) (λ k. k.size ≡ b.size) (λ _. up b.fault) (λ _. down b.fault)) (λ _. refl)
  where
    up : (f : Option Refusal) → (risen b l f).size ≡ b.size
    up (Some r) = refl
    up None = cond_both (nat_lt (words_of (map as_row b.groups) + length b.draft) b.size) (extended (raised b l) l) (faulted (raised b l) NoRoom) (λ k. k.size ≡ b.size) (λ _. refl) (λ _. refl)

    down : (f : Option Refusal) → (fallen b f).size ≡ b.size
    down None = refl
    down (Some NoVariable) = refl
    down (Some NoRoom) = refl
    down (Some NotRising) = refl

-- The end of a group. A group of k literals takes k + 2 words.
abbrev pub no_place : Filling → ℕ → Bool
no_place b k = nat_le b.size (words_of (map as_row b.groups) + k + 1)

abbrev pub ending : Filling → Reply
ending b = reply b.fault (no_place b (length b.draft))

-- A group's limit: one above 999,999,999 counts as that.
abbrev pub most_of : ℕ → ℕ
most_of limit = min limit 999999999

abbrev pub group_of : ℕ → List ℤ → Group
group_of limit ls = record { most = most_of limit; literals = ls }

-- what an answer to the group G leaves: at Ok one group more, else the same groups; and nothing is being written
abbrev pub settled : Filling → Group → Reply → Filling
settled b G (Ok x) = record { variables = b.variables; size = b.size; groups = b.groups ++ (G ∷ []); draft = []; last = 0; fault = None }
settled b G (Err r) = clean b

-- A whole group. The answer: first whether all its variables are the book's, then whether they rise, then whether it has a place.
abbrev pub answer_to : Filling → List ℤ → Reply
answer_to b ls = cond (list_all (in_range b.variables) ls)
    (cond (rising 0 ls) (cond (no_place b (length ls)) (Err NoRoom) (Ok tt)) (Err NotRising))
    (Err NoVariable)
