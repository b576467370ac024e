-- The first assumption that is not true, and which literal is decided next.
use Rattle.std.proofs.Common.{◌≡◌, ℕ, zero, suc, ◌+◌, ◌<◌, ◌≤◌, Bool, true, false, cond, not, eqb, List, [], ℤ, pos, negsuc, neg_ℤ, nat_abs, Some, None, Option, sym, refl, ap, ◌∙◌, subst, inl, inr, add-one, arith}
use Rattle.std.proofs.lemmas.List.Elements.{All-nil, All-cons}
use Rattle.std.specs.List.{find}
use Rattle.std.specs.Option.{MatchOption, option_map}
use Rattle.std.proofs.lemmas.Option.{none-some}
use mathlib.Core.Bool.{and_comm}
use Rattle.std.proofs.lemmas.Bool.{cases_Bool, cases_lt, cond-true, not_from_false}
use Rattle.rules.specs.Literals.{var, in_range}
use Rattle.rules.specs.Values.{value_in}
use Rattle.rules.specs.declared.literal.Value.TheVariants.{True, False, Unassigned}
use Rattle.rules.proofs.Literals.{bounds_range}
use Rattle.theory.specs.Trail.{Trail, on, free, word}
use Rattle.theory.specs.Look.{First, First.here, First.later, NonePass}
use Rattle.theory.specs.Search.{missing}
use Rattle.theory.proofs.Compute.{free_outside}
use Rattle.theory.proofs.Invariant.{first_passes}
use Rattle.theory.proofs.Looking.{first_finds, Finds, first_none}
use Rattle.session.specs.Words.{word_at, words_from, index_of}
use Rattle.session.specs.Decode.{trail_of, open_index, unvalued, Coherent}
use Rattle.session.specs.Deciding.{assumption_at, Decides, Decides.preferred, Decides.lowest, Decides.complete}
use Rattle.session.proofs.Words.{index_range}
use Rattle.session.proofs.Valuing.{open_is}

-- what the library finds is first
pub find_first : {A : Type 0} (test : A → Bool) (xs : List A) (o : Option A) → option_map (λ x. x) o ≡ find test xs → Finds test xs o
find_first {A} test xs o e = subst (Finds test xs) (sym e ∙ itself o) (first_finds test xs)
  where
    itself : (p : Option A) → option_map (λ x. x) p ≡ p
    itself None = refl
    itself (Some y) = refl

-- what a search by number finds is the first word that passes a test, or there is none
pub first_word : (test : ℤ → Bool) (ws : List ℤ) (count : ℕ) (Yes No : ℕ → Type 0) (o : Option ℕ)
    → ((i : ℕ) → i < count → Yes i → test (word_at ws i) ≡ true) → ((i : ℕ) → i < count → No i → test (word_at ws i) ≡ false)
    → MatchOption o ((i : ℕ) → 0 ≤ i → i < count → No i) (λ i. (0 ≤ i) × (i < count) × Yes i × ((k : ℕ) → 0 ≤ k → k < i → No k))
    → Finds test (words_from ws 0 count) (assumption_at ws o)
first_word test ws count Yes No o passes fails m = by o m
  where
    none : (base k : ℕ) → base + k ≡ count → ((i : ℕ) → i < count → test (word_at ws i) ≡ false) → NonePass test (words_from ws base k)
    none base zero e h = All-nil (λ x. test x ≡ false)
    none base (suc k) e h = All-cons (λ x. test x ≡ false) (word_at ws base) (words_from ws (base + 1) k) (h base (omega arith)) (none (base + 1) k (omega arith) h)

    some : (base k i : ℕ) → base ≤ i → i < base + k → test (word_at ws i) ≡ true → ((j : ℕ) → j < i → test (word_at ws j) ≡ false) → First test (words_from ws base k) (word_at ws i)
    some base zero i a b h f = let q : ⊥ = omega arith in absurd q
    some base (suc k) i a b h f = elim (cases_lt base i) [
      | inl l ↦ later (f base l) (some (base + 1) k i (omega arith) (omega arith) h f)
      | inr l ↦ let e : i ≡ base = omega arith in rw e (here (rw e at h))
    ]

    by : (o : Option ℕ) → MatchOption o ((i : ℕ) → 0 ≤ i → i < count → No i) (λ i. (0 ≤ i) × (i < count) × Yes i × ((k : ℕ) → 0 ≤ k → k < i → No k))
        → Finds test (words_from ws 0 count) (assumption_at ws o)
    by None h = none 0 count (omega arith) (λ i l. fails i l (h i (omega arith) l))
    by (Some i) h = let l : i < count = h.1 in some 0 count i (omega arith) (omega arith) (passes i l h.2) (λ j g. fails j (omega arith) (h.3 j (omega arith) g))

-- an assumption is missing unless its value is true
pub true_there : (t : Trail) (a : ℤ) → value_in (on t) a ≡ True → missing t a ≡ false
true_there t a e = by (on t a) (on t (neg_ℤ a)) e
  where
    by : (p q : Bool) → cond p True (cond q False Unassigned) ≡ True → not p ≡ false
    by true q e = refl
    by false true e = let z : ◌≡◌ {A = ℕ} 0 1 = cc in absurd (omega arith)
    by false false e = let z : ◌≡◌ {A = ℕ} 0 1 = cc in absurd (omega arith)

pub true_not_there : (t : Trail) (a : ℤ) → (value_in (on t) a ≡ True → ⊥) → missing t a ≡ true
true_not_there t a h = elim (cases_Bool (on t a))
    [ inl p ↦ absurd (h (cond-true (on t a) True (cond (on t (neg_ℤ a)) False Unassigned) p)) | inr p ↦ not_from_false (on t a) p ]

-- a literal in range is free when its variable has no value
word_free : (n : ℕ) (t : Trail) (l : ℤ) → in_range n l ≡ true → 1 ≤ var l → eqb (nat_abs (word t (suc (index_of l)))) 0 ≡ free n t l
word_free n t (pos zero) r h = let q : ⊥ = omega arith in absurd q
word_free n t (pos (suc a)) r h = rw r (open_is t a)
word_free n t (negsuc a) r h = rw r (open_is t a ∙ and_comm (not (on t (pos (suc a)))) (not (on t (negsuc a))))

-- where no variable of 1 to n is free, every variable has a value
pub all_assigned : (n : ℕ) (t : Trail) → ((i : ℕ) → i < n + 1 → free n t (pos i) ≡ false) → Decides n t [] None
all_assigned n t h = complete (All-nil (λ l. free n t l ≡ false))
    (λ v. elim (cases_lt v (n + 1)) [ inl z ↦ h v z | inr z ↦ free_outside n t v (λ a b. omega arith) ])

module _ (n L len : ℕ) (ws : List ℤ) (st : Coherent n L len ws) where
  pub unvalued_free : (l : ℤ) → in_range n l ≡ true → unvalued n ws l ≡ free n (trail_of n len ws) l
  unvalued_free l r = let b = index_range n l r in ap (λ v. eqb (nat_abs v) 0) (st.values (index_of l) b.1) ∙ word_free n (trail_of n len ws) l r b.0

  pub open_free : (x : ℕ) → x < n → open_index n ws x ≡ free n (trail_of n len ws) (pos (x + 1))
  open_free x h = rw (add-one x) (unvalued_free (pos (suc x)) (bounds_range n (pos (suc x)) (omega arith) (omega arith)))

  unfree : (x : ℕ) → x ≤ n → ((y : ℕ) → y < x → open_index n ws y ≡ false) → (i : ℕ) → i < x + 1 → free n (trail_of n len ws) (pos i) ≡ false
  unfree x h f zero l = free_outside n (trail_of n len ws) 0 (λ a b. omega arith)
  unfree x h f (suc y) l = ap (λ z. free n (trail_of n len ws) (pos z)) (sym (add-one y)) ∙ sym (open_free y (omega arith)) ∙ f y (omega arith)

  -- the lowest variable that is open is decided, or every variable has a value
  pub lowest_open : (x : ℕ) → x < n → open_index n ws x ≡ true → ((y : ℕ) → y < x → open_index n ws y ≡ false) → Decides n (trail_of n len ws) [] (Some (pos (x + 1)))
  lowest_open x h o f = lowest (x + 1) (All-nil (λ l. free n (trail_of n len ws) l ≡ false)) (sym (open_free x h) ∙ o) (unfree x (omega arith) f)

  pub none_open : ((x : ℕ) → x < n → open_index n ws x ≡ false) → Decides n (trail_of n len ws) [] None
  none_open f = all_assigned n (trail_of n len ws) (unfree n (omega arith) f)

-- where the list has none, it is as without a list
pub none_preferred : (n : ℕ) (t : Trail) (preferences : List ℤ) → NonePass (free n t) preferences → (o : Option ℤ) → Decides n t [] o → Decides n t preferences o
none_preferred n t preferences h o (preferred l f) = absurd (first_none (free n t) f (All-nil (λ k. free n t k ≡ false)))
none_preferred n t preferences h o (lowest v _ f b) = lowest v h f b
none_preferred n t preferences h o (complete _ f) = complete h f

-- what the list prefers is decided
pub first_preferred : (n : ℕ) (t : Trail) (preferences : List ℤ) (o : Option ℤ) → Finds (free n t) preferences o → (o ≡ None → ⊥) → Decides n t preferences o
first_preferred n t preferences None f h = absurd (h refl)
first_preferred n t preferences (Some l) f h = preferred l f

pub decides_free : (n : ℕ) (t : Trail) (preferences : List ℤ) (o : Option ℤ) → Decides n t preferences o → (l : ℤ) → o ≡ Some l → free n t l ≡ true
decides_free n t preferences o (preferred k f) l e = let q : k ≡ l = cc in subst (λ x. free n t x ≡ true) q (first_passes (free n t) f)
decides_free n t preferences o (lowest v _ f _) l e = let q : pos v ≡ l = cc in subst (λ x. free n t x ≡ true) q f
decides_free n t preferences o (complete _ _) l e = absurd (none-some l e)
