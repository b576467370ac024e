-- What a search keeps at every position, and what the clause that a look finds is.
use Rattle.std.proofs.Common.{◌≡◌, ℕ, zero, suc, ◌+◌, ◌*◌, ◌^◌, ◌<◌, ◌≤◌, Bool, true, ◌⊎◌, List, ◌∷◌, length, ℤ, pos, negsuc, neg_ℤ, Some, All, sym, ◌∙◌, inl, inr, mul-le-mul_right, suc-mul, arith}
use Rattle.std.proofs.lemmas.List.Elements.{All-head, All-tail}
use Rattle.std.proofs.lemmas.Bool.{cases_eq, or_left, or_right}
use Rattle.rules.specs.Literals.{var, in_range, has}
use Rattle.rules.specs.Clauses.{Status.falsified, Status.unit, status, is_falsified, is_unit}
use Rattle.rules.specs.Sources.{makes, true_in, Meaning, LawfulAt}
use Rattle.rules.proofs.Literals.{has_first, has_later, all_has, any_has, var_cases, range_neg}
use Rattle.rules.proofs.Statuses.{status_cong, asserting}
use Rattle.theory.specs.Trail.{Trail, on, assumed_literals, WellFormed, valuation}
use Rattle.theory.specs.Look.{Position, First, First.here, First.later, falsified_on, unit_on, Look, Look.told, Look.falsified_slot, Look.unit_slot}
use Rattle.theory.specs.Conflict.{literals_from}
use Rattle.theory.proofs.Levels.{decisions, level}
use Rattle.theory.proofs.Measure.{measure, measure_most}
use Rattle.theory.proofs.Soundness.{Entailed, EntailedReasons}
use Rattle.theory.proofs.Valuations.{valuation_true, valuation_valid}

abbrev pub InRange : ℕ → List ℤ → Type 0
InRange n C = All (λ l. in_range n l ≡ true) C

-- the assumption is true and rests on no decision
abbrev pub Settled : Trail → ℤ → Type 0
Settled t a = (on t a ≡ true) × (level t a ≡ 0)

-- What holds whatever the sources admit: the trail is well formed, the variables are those of the session, no decision stands
-- before all assumptions are settled, and the assumed literals are assumptions.
pub record Orderly (n L : ℕ) (p : Position) : Type 0 where
  pub formed : WellFormed n p.trail
  pub few : length p.slots ≤ L
  pub ranged : InRange n p.assumptions
  pub slots_ranged : All (InRange n) p.slots
  pub early : (decisions p.trail ≡ 0) ⊎ All (Settled p.trail) p.assumptions
  pub rooted : (r : ℤ) → has (assumed_literals p.trail) r ≡ true → has p.assumptions r ≡ true

abbrev pub Admitted : ℕ → Meaning → List Bool → Type 0
Admitted n m bs = (length bs ≡ n) × (m.admits bs ≡ true)

-- Every assignment that the source admits satisfies every reason and every slot.
pub record Sound (n : ℕ) (m : Meaning) (p : Position) : Type 0 where
  pub reasons : EntailedReasons (Admitted n m) p.trail
  pub slots : All (λ C. Entailed (Admitted n m) (has C)) p.slots

-- how many free choices were made: each filled a slot
abbrev pub choices_made : Position → ℕ
choices_made p = length p.slots

-- The potential, which every step raises: each free choice counts (n + 1)^(n + 1), and the trail its measure.
abbrev pub potential : ℕ → Position → ℕ
potential n p = choices_made p * suc n ^ suc n + measure n p.trail

pub potential_most : (n L : ℕ) (p : Position) → Orderly n L p → potential n p < suc L * suc n ^ suc n
potential_most n L p o =
    let k = choices_made p in
    let a = measure_most n p.trail o.formed in
    let b = suc-mul k (suc n ^ suc n) in
    let f = o.few in
    let h : suc k ≤ suc L = omega arith in
    let d : suc k * suc n ^ suc n ≤ suc L * suc n ^ suc n = mul-le-mul_right (suc n ^ suc n) h in
    omega arith

-- the first of a list
pub first_passes : {A : Type 0} (test : A → Bool) {xs : List A} {x : A} → First test xs x → test x ≡ true
first_passes test (here e) = e
first_passes test (later e r) = first_passes test r

first_all : {A : Type 0} (P : A → Type 0) (test : A → Bool) {xs : List A} {x : A} → First test xs x → All P xs → P x
first_all P test (here {x} {xs} e) h = All-head P x xs h
first_all P test (later {y} {x} {xs} e r) h = first_all P test r (All-tail P y xs h)

pub first_has : (test : ℤ → Bool) {xs : List ℤ} {x : ℤ} → First test xs x → has xs x ≡ true
first_has test (here {x} {xs} e) = has_first x xs
first_has test (later {y} {x} {xs} e r) = has_later y xs x (first_has test r)

-- the literals by rising variable are all there are
pub literals_all : (k c : ℕ) (x : ℤ) → k < var x → var x ≤ k + c → has (literals_from k c) x ≡ true
literals_all k zero x a b = let q : ⊥ = omega arith in absurd q
literals_all k (suc c) x a b = elim (cases_eq (var x) (suc k)) [
  | inl e ↦ elim (var_cases (pos (suc k)) x (sym e)) [
    | inl s ↦ rw s (has_first (pos (suc k)) (negsuc k ∷ literals_from (suc k) c))
    | inr s ↦ rw s (has_later (pos (suc k)) (negsuc k ∷ literals_from (suc k) c) (negsuc k) (has_first (negsuc k) (literals_from (suc k) c)))
  ]
  | inr e ↦ has_later (pos (suc k)) (negsuc k ∷ literals_from (suc k) c) x
      (has_later (negsuc k) (literals_from (suc k) c) x (literals_all (suc k) c x (omega arith) (omega arith)))
]

-- what a look finds is a clause over the variables 1 to n,
pub look_ranged : (n : ℕ) (m : Meaning) (p : Position) → LawfulAt n m → All (InRange n) p.slots → {C : List ℤ} → Look n m p (Some C) → InRange n C
look_ranged n m p law r (told {C} e) = (law.told (valuation n p.trail) (valuation_valid n p.trail) C e).ranged
look_ranged n m p law r (falsified_slot e f) = first_all (InRange n) (falsified_on p.trail) f r
look_ranged n m p law r (unit_slot e z f) = first_all (InRange n) (unit_on p.trail) f r

-- which every admitted assignment satisfies,
pub look_entailed : (n : ℕ) (m : Meaning) (p : Position) → LawfulAt n m → All (λ C. Entailed (Admitted n m) (has C)) p.slots
    → {C : List ℤ} → Look n m p (Some C) → Entailed (Admitted n m) (has C)
look_entailed n m p law s (told {C} e) = λ bs ad.
    let c = law.told (valuation n p.trail) (valuation_valid n p.trail) C e in
    any_has (makes bs) C (c.sound bs ad.0 ad.1)
look_entailed n m p law s (falsified_slot e f) = first_all (λ C. Entailed (Admitted n m) (has C)) (falsified_on p.trail) f s
look_entailed n m p law s (unit_slot e z f) = first_all (λ C. Entailed (Admitted n m) (has C)) (unit_on p.trail) f s

-- and falsified or unit
pub look_asserts : (n : ℕ) (m : Meaning) (p : Position) → LawfulAt n m → WellFormed n p.trail → {C : List ℤ} → Look n m p (Some C)
    → (status (on p.trail) C ≡ falsified) ⊎ ((l : ℤ) × (status (on p.trail) C ≡ unit l))
look_asserts n m p law w (told {C} e) =
    let row = valuation n p.trail in
    let c = law.told row (valuation_valid n p.trail) C e in
    let r : (x : ℤ) → has C x ≡ true → in_range n x ≡ true = all_has (λ l. in_range n l ≡ true) C c.ranged in
    let k : status (true_in row) C ≡ status (on p.trail) C = status_cong (true_in row) (on p.trail) C
    (λ x h. (valuation_true n p.trail w (neg_ℤ x) (range_neg n x ∙ r x h), valuation_true n p.trail w x (r x h))) in
    elim (asserting (status (true_in row) C) c.asserts) [ inl f ↦ inl (sym k ∙ f) | inr f ↦ inr (f.0, sym k ∙ f.1) ]
look_asserts n m p law w (falsified_slot {C} e f) =
    let s = status (on p.trail) C in asserting s (or_left (is_falsified s) (is_unit s) (first_passes (falsified_on p.trail) f))
look_asserts n m p law w (unit_slot {C} e z f) = let s = status (on p.trail) C in asserting s (or_right (is_falsified s) (is_unit s) (first_passes (unit_on p.trail) f))
