-- Levels, and chunks by the rank of their decision. Nothing here asks that the trail is well formed.
use Rattle.std.proofs.Common.{◌≡◌, ℕ, suc, ◌-◌, ◌<◌, ◌≤◌, min, max, Bool, true, false, cond, eqb, List, [], ◌∷◌, length, ℤ, neg_ℤ, refl, ap, ◌∙◌, inl, inr, true≢false, arith}
use mathlib.Core.Bool.{false≢true}
use Rattle.std.proofs.lemmas.Bool.{cond_both, eqb-true, eqb-false, eq-eqb, or_cases, or_parts, or_left, or_right, cases_lt, cases_Bool}
use Rattle.rules.specs.Literals.{same, has}
use Rattle.rules.proofs.Literals.{same_true, same_refl, has_first, has_later}
use Rattle.theory.specs.Trail.{Entry, Entry.assumed, Entry.decided, Entry.implied, Trail, literal, on}
use Rattle.theory.proofs.Trails.{meets, on_below}

-- the number of decisions, with one entry more and of a trail
abbrev pub decisions_with : Entry → ℕ → ℕ
decisions_with (assumed l) k = k
decisions_with (decided l) k = suc k
decisions_with (implied l others) k = k

abbrev pub decisions : Trail → ℕ
decisions [] = 0
decisions (e ∷ t) = decisions_with e (decisions t)

-- the highest of the negations of a clause's literals
abbrev pub highest : (ℤ → ℕ) → List ℤ → ℕ
highest level [] = 0
highest level (k ∷ C) = max (level (neg_ℤ k)) (highest level C)

-- The level of an assumed literal is 0, of the j-th decision j, and of an implied literal the highest among the negations
-- of its reason's other literals. Here of an entry on top of k decisions with these levels:
abbrev pub entry_level : Entry → ℕ → (ℤ → ℕ) → ℕ
entry_level (assumed l) k level = 0
entry_level (decided l) k level = suc k
entry_level (implied l others) k level = highest level others

abbrev pub level : Trail → ℤ → ℕ
level [] l = 0
level (e ∷ t) l = cond (same l (literal e)) (entry_level e (decisions t) (level t)) (level t l)

-- the chunk of the j-th decision, the oldest being the first
abbrev pub joins_rank : ℕ → Entry → ℕ → (ℤ → Bool) → Bool
joins_rank j (assumed l) k member = false
joins_rank j (decided l) k member = eqb (suc k) j
joins_rank j (implied l others) k member = meets member others

abbrev pub in_rank : ℕ → Trail → ℤ → Bool
in_rank j [] l = false
in_rank j (e ∷ t) l = cond (same l (literal e)) (joins_rank j e (decisions t) (in_rank j t)) (in_rank j t l)

-- the trail without it
abbrev pub without_rank : ℕ → Trail → Trail
without_rank j [] = []
without_rank j (e ∷ t) = cond (joins_rank j e (decisions t) (in_rank j t)) (without_rank j t) (e ∷ without_rank j t)

-- what is left of level k when the j-th decision goes: k below j, and k − 1 from j on
abbrev pub lowered : ℕ → ℕ → ℕ
lowered j k = k - min 1 (suc k - j)

pub decisions_without : (j : ℕ) → 0 < j → (t : Trail) → decisions (without_rank j t) ≡ lowered j (decisions t)
decisions_without j z [] = omega arith
decisions_without j z (assumed l ∷ t) = decisions_without j z t
decisions_without j z (decided l ∷ t) =
    let ih = decisions_without j z t in
    cond_both (eqb (suc (decisions t)) j) (without_rank j t) (decided l ∷ without_rank j t) (λ s. decisions s ≡ lowered j (suc (decisions t)))
    (λ e. let q = eqb-true (suc (decisions t)) j e in omega arith)
    (λ e. let q = eqb-false (suc (decisions t)) j e in omega arith)
decisions_without j z (implied l others ∷ t) =
    let ih = decisions_without j z t in
    cond_both (meets (in_rank j t) others) (without_rank j t) (implied l others ∷ without_rank j t) (λ s. decisions s ≡ lowered j (decisions t)) (λ e. ih) (λ e. ih)

-- the members of the j-th chunk have level j or above
meets_highest : (j : ℕ) (f : ℤ → Bool) (g : ℤ → ℕ) → ((l : ℤ) → f l ≡ true → j ≤ g l) → (C : List ℤ) → meets f C ≡ true → j ≤ highest g C
meets_highest j f g h [] e = absurd (false≢true e)
meets_highest j f g h (k ∷ C) e = elim (or_cases (f (neg_ℤ k)) (meets f C) e)
    [ inl p ↦ let q = h (neg_ℤ k) p in omega arith | inr p ↦ let q = meets_highest j f g h C p in omega arith ]

pub joins_level : (j : ℕ) (f : ℤ → Bool) (g : ℤ → ℕ) → ((l : ℤ) → f l ≡ true → j ≤ g l) → (k : ℕ) (e : Entry) → joins_rank j e k f ≡ true → j ≤ entry_level e k g
joins_level j f g h k (assumed l) e = absurd (false≢true e)
joins_level j f g h k (decided l) e = let q = eqb-true (suc k) j e in omega arith
joins_level j f g h k (implied l others) e = meets_highest j f g h others e

-- what holds of two pairs holds of the one that a test takes
cond_pair : {A B : Type 0} (P : A → B → Type 0) (b : Bool) (x y : A) (p q : B) → P x p → P y q → P (cond b x y) (cond b p q)
cond_pair P true x y p q h k = h
cond_pair P false x y p q h k = k

pub rank_level : (j : ℕ) (t : Trail) (l : ℤ) → in_rank j t l ≡ true → j ≤ level t l
rank_level j [] l e = absurd (false≢true e)
rank_level j (e ∷ t) l p =
    cond_pair (λ b k. b ≡ true → j ≤ k) (same l (literal e)) (joins_rank j e (decisions t) (in_rank j t)) (in_rank j t l) (entry_level e (decisions t) (level t)) (level t l)
    (joins_level j (in_rank j t) (level t) (rank_level j t) (decisions t) e) (rank_level j t l) p

-- and a literal of level j is a member
pub highest_meets : (j : ℕ) → 0 < j → (f : ℤ → Bool) (g : ℤ → ℕ) → ((l : ℤ) → g l ≡ j → f l ≡ true) → (C : List ℤ) → highest g C ≡ j → meets f C ≡ true
highest_meets j z f g h [] e = let q : ⊥ = omega arith in absurd q
highest_meets j z f g h (k ∷ C) e = elim (cases_lt (g (neg_ℤ k)) (highest g C)) [
  | inl p ↦ or_right (f (neg_ℤ k)) (meets f C) (highest_meets j z f g h C (omega arith))
  | inr p ↦ or_left (f (neg_ℤ k)) (meets f C) (h (neg_ℤ k) (omega arith))
]

level_joins : (j : ℕ) → 0 < j → (f : ℤ → Bool) (g : ℤ → ℕ) → ((l : ℤ) → g l ≡ j → f l ≡ true) → (k : ℕ) (e : Entry) → entry_level e k g ≡ j → joins_rank j e k f ≡ true
level_joins j z f g h k (assumed l) e = let q : ⊥ = omega arith in absurd q
level_joins j z f g h k (decided l) e = eq-eqb (suc k) j e
level_joins j z f g h k (implied l others) e = highest_meets j z f g h others e

pub level_rank : (j : ℕ) → 0 < j → (t : Trail) (l : ℤ) → level t l ≡ j → in_rank j t l ≡ true
level_rank j z [] l e = let q : ⊥ = omega arith in absurd q
level_rank j z (e ∷ t) l p =
    cond_pair (λ b k. k ≡ j → b ≡ true) (same l (literal e)) (joins_rank j e (decisions t) (in_rank j t)) (in_rank j t l) (entry_level e (decisions t) (level t)) (level t l)
    (level_joins j z (in_rank j t) (level t) (level_rank j z t) (decisions t) e) (level_rank j z t l) p

-- the level of a literal outside of the chunk when that is undone
highest_lowered : (j : ℕ) → 0 < j → (f : ℤ → Bool) (g g' : ℤ → ℕ) → ((l : ℤ) → f l ≡ false → g' l ≡ lowered j (g l))
    → (C : List ℤ) → meets f C ≡ false → highest g' C ≡ lowered j (highest g C)
highest_lowered j z f g g' h [] e = omega arith
highest_lowered j z f g g' h (k ∷ C) e =
    let c = or_parts (f (neg_ℤ k)) (meets f C) e in
    let p = h (neg_ℤ k) c.0 in
    let q = highest_lowered j z f g g' h C c.1 in
    omega arith

pub entry_lowered : (j : ℕ) → 0 < j → (f : ℤ → Bool) (g g' : ℤ → ℕ) → ((l : ℤ) → f l ≡ false → g' l ≡ lowered j (g l)) → (k k' : ℕ) → k' ≡ lowered j k
    → (e : Entry) → joins_rank j e k f ≡ false → entry_level e k' g' ≡ lowered j (entry_level e k g)
entry_lowered j z f g g' h k k' q (assumed l) e = omega arith
entry_lowered j z f g g' h k k' q (decided l) e = let r = eqb-false (suc k) j e in omega arith
entry_lowered j z f g g' h k k' q (implied l others) e = highest_lowered j z f g g' h others e

either_lowered : (j : ℕ) (s b : Bool) (e : Entry) (t : Trail) (l : ℤ) (r r' q : ℕ) (m : Bool) → (b ≡ false → r' ≡ lowered j r) → (m ≡ false → level t l ≡ lowered j q)
    → same l (literal e) ≡ s → entry_level e (decisions t) (level t) ≡ r' → cond s b m ≡ false → level (cond b t (e ∷ t)) l ≡ lowered j (cond s r q)
either_lowered j true true e t l r r' q m h k es er z = absurd (true≢false z)
either_lowered j true false e t l r r' q m h k es er z = rw es (er ∙ h refl)
either_lowered j false true e t l r r' q m h k es er z = k z
either_lowered j false false e t l r r' q m h k es er z = rw es (k z)

pub level_without : (j : ℕ) → 0 < j → (t : Trail) (l : ℤ) → in_rank j t l ≡ false → level (without_rank j t) l ≡ lowered j (level t l)
level_without j z [] l e = omega arith
level_without j z (e ∷ t) l p =
    either_lowered j (same l (literal e)) (joins_rank j e (decisions t) (in_rank j t)) e (without_rank j t) l
    (entry_level e (decisions t) (level t)) (entry_level e (decisions (without_rank j t)) (level (without_rank j t))) (level t l) (in_rank j t l)
    (entry_lowered j z (in_rank j t) (level t) (level (without_rank j t)) (level_without j z t) (decisions t) (decisions (without_rank j t)) (decisions_without j z t) e)
    (level_without j z t l) refl refl p

-- levels of literals by the clauses that have them
pub highest_has : (g : ℤ → ℕ) (C : List ℤ) (x : ℤ) → has C x ≡ true → g (neg_ℤ x) ≤ highest g C
highest_has g [] x e = absurd (false≢true e)
highest_has g (k ∷ C) x e = elim (or_cases (same x k) (has C x) e)
    [ inl q ↦ let r = ap (λ y. g (neg_ℤ y)) (same_true x k q) in omega arith | inr q ↦ let r = highest_has g C x q in omega arith ]

pub highest_below : (g : ℤ → ℕ) (b : ℕ) (C : List ℤ) → ((x : ℤ) → has C x ≡ true → g (neg_ℤ x) ≤ b) → highest g C ≤ b
highest_below g b [] h = omega arith
highest_below g b (k ∷ C) h =
    let p = h k (has_first k C) in
    let q = highest_below g b C (λ x e. h x (has_later k C x e)) in
    omega arith

-- no level is over the number of decisions, and that is not over the trail's length
decisions_grow : (e : Entry) (k : ℕ) → k ≤ decisions_with e k
decisions_grow (assumed l) k = omega arith
decisions_grow (decided l) k = omega arith
decisions_grow (implied l others) k = omega arith

entry_level_most : (e : Entry) (k : ℕ) (f : ℤ → ℕ) → ((x : ℤ) → f x ≤ k) → entry_level e k f ≤ decisions_with e k
entry_level_most (assumed l) k f h = omega arith
entry_level_most (decided l) k f h = omega arith
entry_level_most (implied l others) k f h = highest_below f k others (λ x e. h (neg_ℤ x))

pub level_most : (t : Trail) (x : ℤ) → level t x ≤ decisions t
level_most [] x = omega arith
level_most (e ∷ t) x = cond_both (same x (literal e)) (entry_level e (decisions t) (level t)) (level t x) (λ v. v ≤ decisions_with e (decisions t))
    (λ _. entry_level_most e (decisions t) (level t) (level_most t)) (λ _. let a = level_most t x in let b = decisions_grow e (decisions t) in omega arith)

pub decisions_length : (t : Trail) → decisions t ≤ length t
decisions_length [] = omega arith
decisions_length (assumed l ∷ t) = let a = decisions_length t in omega arith
decisions_length (decided l ∷ t) = let a = decisions_length t in omega arith
decisions_length (implied l others ∷ t) = let a = decisions_length t in omega arith

-- levels and members by the entry where a literal stands
pub level_below : (e : Entry) (t : Trail) (x : ℤ) → same x (literal e) ≡ false → level (e ∷ t) x ≡ level t x
level_below e t x h = rw h

pub level_top : (e : Entry) (t : Trail) → level (e ∷ t) (literal e) ≡ entry_level e (decisions t) (level t)
level_top e t = rw (same_refl (literal e))

pub rank_below : (j : ℕ) (e : Entry) (t : Trail) (x : ℤ) → same x (literal e) ≡ false → in_rank j (e ∷ t) x ≡ in_rank j t x
rank_below j e t x h = rw h

pub rank_top : (j : ℕ) (e : Entry) (t : Trail) → in_rank j (e ∷ t) (literal e) ≡ joins_rank j e (decisions t) (in_rank j t)
rank_top j e t = rw (same_refl (literal e))

pub rank_on : (j : ℕ) (t : Trail) (x : ℤ) → in_rank j t x ≡ true → on t x ≡ true
rank_on j [] x e = absurd (false≢true e)
rank_on j (e ∷ t) x p = elim (cases_Bool (same x (literal e))) [
  | inl q ↦ or_left (same x (literal e)) (on t x) q
  | inr q ↦ let p' : in_rank j t x ≡ true = rw q at p in on_below e t x (rank_on j t x p')
]
