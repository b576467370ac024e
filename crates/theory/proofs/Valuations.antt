-- The trail's valuation says of each literal what the trail does, and its assignment is the one that a source judges.
use Rattle.std.proofs.Common.{◌≡◌, ℕ, zero, suc, ◌+◌, ◌-◌, ◌<◌, ◌≤◌, Bool, true, false, cond, not, ◌&&◌, ◌||◌, ◌⊎◌, map, length, get_or, ℤ, pos, negsuc, neg_ℤ, sym, refl, ap, ◌∙◌, subst, inl, inr, arith}
use Rattle.std.specs.List.{range_with_len}
use Rattle.std.proofs.lemmas.List.FromFn.{length-map-range_with_len, get_or-map-range_with_len}
use Rattle.std.proofs.lemmas.List.{ext_get_or}
use Rattle.std.proofs.lemmas.Bool.{cond_both, or_left, or_right, cases_Bool, le-leb, eq-eqb, ne_eqb, not_from_false}
use Rattle.rules.specs.Literals.{var, same, in_range}
use Rattle.rules.specs.Sources.{makes, assignment, true_in, Entries, Valuation, Full}
use Rattle.rules.proofs.Literals.{range_bounds, bounds_range, range_neg}
use Rattle.theory.specs.Trail.{Trail, on, WellFormed, word, valuation, Complete}
use Rattle.theory.proofs.Trails.{assigned, not_both}

-- the word of a variable is the literal of it that is true
word_literal : (n : ℕ) (t : Trail) → WellFormed n t → (x : ℤ) → 1 ≤ var x → same (word t (var x)) x ≡ on t x
word_literal n t w (pos zero) h = let q : ⊥ = omega arith in absurd q
word_literal n t w (pos (suc v)) h = elim (cases_Bool (on t (pos (suc v)))) [
  | inl p ↦ rw p (eq-eqb (suc v) (suc v) refl)
  | inr p ↦ rw p (cond_both (on t (negsuc v)) (negsuc v) (pos 0) (λ y. same y (pos (suc v)) ≡ false) (λ _. refl) (λ _. ne_eqb 0 (suc v) (λ z. omega arith)))
]
word_literal n t w (negsuc v) h = elim (cases_Bool (on t (pos (suc v)))) [
  | inl p ↦ rw p (sym (not_both n t w (pos (suc v)) p))
  | inr p ↦ rw p (cond_both (on t (negsuc v)) (negsuc v) (pos 0) (λ y. same y (negsuc v) ≡ on t (negsuc v)) (λ z. eq-eqb v v refl ∙ sym z) (λ z. sym z))
]

pub valuation_true : (n : ℕ) (t : Trail) → WellFormed n t → (x : ℤ) → in_range n x ≡ true → true_in (valuation n t) x ≡ on t x
valuation_true n t w x h =
    let b = range_bounds n x h in let low = b.0 in let high = b.1 in
    ap (λ c. c && same (get_or (valuation n t) (var x - 1) (pos 0)) x) (le-leb 1 (var x) low)
    ∙ ap (λ y. same y x) (get_or-map-range_with_len (word t) 1 n (var x - 1) (var x) (pos 0) (omega arith) (omega arith)) ∙ word_literal n t w x low

word_entries : (t : Trail) (a k n : ℕ) → a ≡ suc k → Entries k (map (word t) (range_with_len a n))
word_entries t a k zero e = tt
word_entries t a k (suc n) e = (subst (λ v. (word t v ≡ pos (suc k)) ⊎ ((word t v ≡ negsuc k) ⊎ (word t v ≡ pos 0))) (sym e) one, word_entries t (a + 1) (suc k) n (omega arith))
  where
    one : (word t (suc k) ≡ pos (suc k)) ⊎ ((word t (suc k) ≡ negsuc k) ⊎ (word t (suc k) ≡ pos 0))
    one = cond_both (on t (pos (suc k))) (pos (suc k)) (cond (on t (negsuc k)) (negsuc k) (pos 0)) (λ x. (x ≡ pos (suc k)) ⊎ ((x ≡ negsuc k) ⊎ (x ≡ pos 0)))
        (λ _. inl refl) (λ _. cond_both (on t (negsuc k)) (negsuc k) (pos 0) (λ x. (x ≡ pos (suc k)) ⊎ ((x ≡ negsuc k) ⊎ (x ≡ pos 0))) (λ _. inr (inl refl)) (λ _. inr (inr refl)))

pub valuation_valid : (n : ℕ) (t : Trail) → Valuation n (valuation n t)
valuation_valid n t = record { sized = length-map-range_with_len (word t) 1 n; entries = word_entries t 1 0 n refl }

-- where no variable is free, every one has a value
literal_assigned : (n : ℕ) (t : Trail) → Complete n t → (x : ℤ) → in_range n x ≡ true → (on t x || on t (neg_ℤ x)) ≡ true
literal_assigned n t c (pos v) h = elim (assigned n t (pos v) (c v) h) [ inl p ↦ or_left (on t (pos v)) (on t (neg_ℤ (pos v))) p | inr p ↦ or_right (on t (pos v)) (on t (neg_ℤ (pos v))) p ]
literal_assigned n t c (negsuc v) h = elim (assigned n t (pos (suc v)) (c (suc v)) h)
    [ inl p ↦ or_right (on t (negsuc v)) (on t (pos (suc v))) p | inr p ↦ or_left (on t (negsuc v)) (on t (pos (suc v))) p ]

pub valuation_full : (n : ℕ) (t : Trail) → WellFormed n t → Complete n t → Full n (valuation n t)
valuation_full n t w c x h = rw (valuation_true n t w x h, valuation_true n t w (neg_ℤ x) (range_neg n x ∙ h)) (literal_assigned n t c x h)

-- assignments
pub assignment_getD : (n : ℕ) (f : ℤ → Bool) (i : ℕ) → i < n → get_or (assignment n f) i false ≡ f (pos (suc i))
assignment_getD n f i h = get_or-map-range_with_len (λ v. f (pos v)) 1 n i (suc i) false h (omega arith)

pub assignment_length : (n : ℕ) (f : ℤ → Bool) → length (assignment n f) ≡ n
assignment_length n f = length-map-range_with_len (λ v. f (pos v)) 1 n

pub valuation_assignment : (n : ℕ) (t : Trail) → WellFormed n t → assignment n (true_in (valuation n t)) ≡ assignment n (on t)
valuation_assignment n t w = ext_get_or false (assignment n (true_in (valuation n t))) (assignment n (on t))
    (assignment_length n (true_in (valuation n t)) ∙ sym (assignment_length n (on t)))
    (λ i h.
    let l = assignment_length n (true_in (valuation n t)) in
    let b : i < n = omega arith in
    assignment_getD n (true_in (valuation n t)) i b
    ∙ valuation_true n t w (pos (suc i)) (bounds_range n (pos (suc i)) (omega arith) (omega arith))
    ∙ sym (assignment_getD n (on t) i b))

-- the trail's assignment makes the trail's literals true
pub assignment_makes : (n : ℕ) (t : Trail) → WellFormed n t → (x : ℤ) → in_range n x ≡ true → on t x ≡ true → makes (assignment n (on t)) x ≡ true
assignment_makes n t w (pos v) h o =
    let b = range_bounds n (pos v) h in let low = b.0 in let high = b.1 in
    get_or-map-range_with_len (λ u. on t (pos u)) 1 n (v - 1) v false (omega arith) (omega arith) ∙ o
assignment_makes n t w (negsuc v) h o =
    let b = range_bounds n (negsuc v) h in let high = b.1 in
    ap not (assignment_getD n (on t) v (omega arith)) ∙ not_from_false (on t (pos (suc v))) (not_both n t w (negsuc v) o)
