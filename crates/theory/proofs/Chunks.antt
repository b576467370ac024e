-- The chunk as a test decides the chunk as a relation.
use Rattle.std.proofs.Common.{◌≡◌, ℕ, true, [], ◌∷◌, ℤ, neg_ℤ, sym, ◌∙◌, subst, inl, inr}
use mathlib.Core.Bool.{false≢true}
use Rattle.std.proofs.lemmas.Bool.{cases_Bool}
use Rattle.rules.specs.Literals.{same}
use Rattle.rules.proofs.Literals.{same_true, same_refl, all_has, any_has, has_any}
use Rattle.theory.specs.Trail.{Entry, Entry.assumed, Entry.decided, Entry.implied, Trail, literal, on, WellFormed}
use Rattle.theory.specs.Chunks.{Stands, Stands.newest, Stands.older, Chunk, Chunk.of_assumed, Chunk.of_decided, Chunk.by_reason, joins, in_chunk}
use Rattle.theory.proofs.Trails.{on_top, Part, Part.whole, Part.next, part_formed, part_same, chunk_below, chunk_top}

-- a longer trail has the members of its parts
chunk_grows : (e : Entry) (t : Trail) (d : ℤ) {x : ℤ} → Chunk t d x → Chunk (e ∷ t) d x
chunk_grows e t d (of_assumed s) = of_assumed (older s)
chunk_grows e t d (of_decided s) = of_decided (older s)
chunk_grows e t d (by_reason k s h c) = by_reason k (older s) h (chunk_grows e t d c)

joined_chunk : (d : ℤ) (t : Trail) → ((x : ℤ) → in_chunk d t x ≡ true → Chunk t d x) → (e : Entry) → joins d (in_chunk d t) e ≡ true → Chunk (e ∷ t) d (literal e)
joined_chunk d t ih (assumed l) h = subst (λ y. Chunk (assumed l ∷ t) d y) (same_true d l h) (of_assumed (subst (λ y. Stands (assumed d) (assumed y ∷ t)) (same_true d l h) newest))
joined_chunk d t ih (decided l) h = subst (λ y. Chunk (decided l ∷ t) d y) (same_true d l h) (of_decided (subst (λ y. Stands (decided d) (decided y ∷ t)) (same_true d l h) newest))
joined_chunk d t ih (implied l others) h =
    let r = any_has (λ k. in_chunk d t (neg_ℤ k)) others h in
    by_reason r.0 newest r.1 (chunk_grows (implied l others) t d (ih (neg_ℤ r.0) r.2))

pub test_chunk : (d : ℤ) (t : Trail) (x : ℤ) → in_chunk d t x ≡ true → Chunk t d x
test_chunk d [] x h = absurd (false≢true h)
test_chunk d (e ∷ t) x h = elim (cases_Bool (same x (literal e))) [
  | inl p ↦
      let k : joins d (in_chunk d t) e ≡ true = rw p at h in
      subst (Chunk (e ∷ t) d) (sym (same_true x (literal e) p)) (joined_chunk d t (test_chunk d t) e k)
  | inr p ↦ let k : in_chunk d t x ≡ true = rw p at h in chunk_grows e t d (test_chunk d t x k)
]

-- the part of the trail that an entry tops
stands_part : (T : Trail) (e : Entry) {t : Trail} → Stands e t → Part T t → (s : Trail) × Part T (e ∷ s)
stands_part T e (newest {t}) h = (t, h)
stands_part T e (older s) h = stands_part T e s (next h)

pub chunk_part : (d : ℤ) (n : ℕ) (T : Trail) {t : Trail} → Part T t → WellFormed n T → (x : ℤ) → on t x ≡ true → in_chunk d T x ≡ in_chunk d t x
chunk_part d = part_same (in_chunk d) (chunk_below d)

-- where an entry stands, its literal is in the chunk if the entry joins it there
stands_joins : (d : ℤ) (n : ℕ) (T : Trail) → WellFormed n T → (e : Entry) (s : Trail) → Part T (e ∷ s) → joins d (in_chunk d s) e ≡ true → in_chunk d T (literal e) ≡ true
stands_joins d n T w e s h j = chunk_part d n T h w (literal e) (on_top e s) ∙ chunk_top d e s ∙ j

pub chunk_test : (n : ℕ) (T : Trail) → WellFormed n T → (d : ℤ) {x : ℤ} → Chunk T d x → in_chunk d T x ≡ true
chunk_test n T w d (of_assumed s) = let r = stands_part T (assumed d) s whole in stands_joins d n T w (assumed d) r.0 r.1 (same_refl d)
chunk_test n T w d (of_decided s) = let r = stands_part T (decided d) s whole in stands_joins d n T w (decided d) r.0 r.1 (same_refl d)
chunk_test n T w d (by_reason {l} {others} k s h c) =
    let r = stands_part T (implied l others) s whole in
    let g = all_has (λ y. on r.0 (neg_ℤ y) ≡ true) others (part_formed n T r.1 w).0.grounded k h in
    stands_joins d n T w (implied l others) r.0 r.1
    (has_any (λ y. in_chunk d r.0 (neg_ℤ y)) others k h (sym (chunk_part d n T (next r.1) w (neg_ℤ k) g) ∙ chunk_test n T w d c))
