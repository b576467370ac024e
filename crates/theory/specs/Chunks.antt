-- Chunks: what rests on an assumed or decided literal, and is undone with it.
use Rattle.std.specs.Prelude.{◌≡◌, Bool, true, false, cond, not, List, [], ◌∷◌, ◌++◌, length, ℤ, neg_ℤ, filter}
use Rattle.rules.specs.Literals.{same, has, any_pass}
use Rattle.theory.specs.Weighing.{Member, Standing, Assumed, Decided, Implied}
use Rattle.theory.specs.Trail.{Entry, Entry.assumed, Entry.decided, Entry.implied, Trail, literal}

-- the entry is one of the trail's
pub data Stands (e : Entry) : Trail → Type 0 where
  newest : {t : Trail} → Stands e (e ∷ t)
  older : {newer : Entry} {t : Trail} → Stands e t → Stands e (newer ∷ t)

-- The chunk of an assumed or decided literal d: d itself, and each implied literal whose reason has another literal
-- with its negation in the chunk.
pub data Chunk (t : Trail) (d : ℤ) : ℤ → Type 0 where
  of_assumed : Stands (assumed d) t → Chunk t d d
  of_decided : Stands (decided d) t → Chunk t d d
  by_reason : {l : ℤ} {others : List ℤ} (k : ℤ) → Stands (implied l others) t → has others k ≡ true → Chunk t d (neg_ℤ k) → Chunk t d l

-- The chunk as a test: whether an entry joins it, where `member` tells the older members, and whether a literal is in it.
abbrev pub joins : ℤ → (ℤ → Bool) → Entry → Bool
joins d member (assumed l) = same d l
joins d member (decided l) = same d l
joins d member (implied l others) = any_pass (λ k. member (neg_ℤ k)) others

abbrev pub in_chunk : ℤ → Trail → ℤ → Bool
in_chunk d [] l = false
in_chunk d (e ∷ t) l = cond (same l (literal e)) (joins d (in_chunk d t) e) (in_chunk d t l)

-- A clause touches a chunk when the negation of one of its literals is in it.
abbrev pub touches : Trail → ℤ → List ℤ → Bool
touches t d C = any_pass (λ l. in_chunk d t (neg_ℤ l)) C

-- what is left when the chunk is undone: the others, in their order
abbrev pub without_chunk : Trail → ℤ → Trail
without_chunk t d = filter (λ e. not (in_chunk d t (literal e))) t

abbrev pub standing : Entry → Standing
standing (assumed l) = Assumed
standing (decided l) = Decided
standing (implied l others) = Implied

-- the entries whose literals pass a test, as members in trail order, the oldest first
abbrev pub members : (ℤ → Bool) → Trail → List Member
members test [] = []
members test (e ∷ t) = cond (test (literal e))
    (members test t ++ (record { literal = literal e; standing = standing e; place = length t } ∷ []))
    (members test t)

abbrev pub chunk : Trail → ℤ → List Member
chunk t d = members (in_chunk d t) t
