-- What is decoded: at a place of the trail, of a variable, and of words that are the same.
use Rattle.std.proofs.Common.{◌≡◌, ℕ, zero, suc, ◌+◌, ◌*◌, ◌<◌, ◌≤◌, true, false, cond, eqb, ◌≢◌, ◌⊎◌, List, ◌∷◌, length, ℤ, neg_ℤ, nat_abs, All, sym, refl, ap, ◌∙◌, subst, inl, inr, add_assoc, arith}
use mathlib.Core.Bool.{false≢true}
use Rattle.std.proofs.lemmas.Bool.{cond_both, cases_eq, or_cases, or_right, both_ways}
use Rattle.rules.specs.Literals.{var, same, in_range}
use Rattle.rules.proofs.Literals.{same_true, same_refl, var_cases, range_neg, has_all, all_has}
use Rattle.rules.specs.Clauses.{Status.falsified, status}
use Rattle.rules.proofs.Statuses.{falsified_all}
use Rattle.theory.specs.Trail.{Entry, Entry.assumed, Entry.decided, Entry.implied, Trail, literal, on, Grounded, Placeable, WellFormed, word}
use Rattle.theory.proofs.Trails.{AllFalse, ranged, fresh, fresh_negation, on_range}
use Rattle.theory.proofs.Pigeonhole.{length_most}
use Rattle.session.specs.Words.{word_at, words_from, index_of, trail_at, value_at, row_at, Outside}
use Rattle.session.specs.Decode.{as_entry, reason_count, reason_of, entry_of, entry_at, trail_of, Coherent}
use Rattle.session.proofs.Words.{index_var, index_range, words_same, all_words}

-- the literal of an entry
pub entry_literal : (s l : ℤ) (others : List ℤ) → literal (as_entry s l others) ≡ l
entry_literal s l others = cond_both (eqb (nat_abs s) 3) (implied l others) (cond (eqb (nat_abs s) 1) (assumed l) (decided l)) (λ e. literal e ≡ l) (λ _. refl)
    (λ _. cond_both (eqb (nat_abs s) 1) (assumed l) (decided l) (λ e. literal e ≡ l) (λ _. refl) (λ _. refl))

pub literal_of : (n : ℕ) (ws : List ℤ) (l : ℤ) → literal (entry_of n ws l) ≡ l
literal_of n ws l = entry_literal (word_at ws (row_at n (index_of l) 0)) l (reason_of n ws (index_of l))

pub length_trail : (n k : ℕ) (ws : List ℤ) → length (trail_of n k ws) ≡ k
length_trail n zero ws = refl
length_trail n (suc k) ws = ap suc (length_trail n k ws)

-- a literal with the same index is the literal or its negation
pub index_same : (l m : ℤ) → 1 ≤ var l → 1 ≤ var m → index_of l ≡ index_of m → (m ≡ l) ⊎ (m ≡ neg_ℤ l)
index_same l m a b e = let i = index_var l a in let j = index_var m b in var_cases l m (omega arith)

-- decoding looks only at the words that it names
pub entry_same : (n : ℕ) (was now : List ℤ) (l : ℤ)
    → ((k : ℕ) → k ≤ reason_count n was (index_of l) + 1 → word_at now (row_at n (index_of l) k) ≡ word_at was (row_at n (index_of l) k)) → entry_of n now l ≡ entry_of n was l
entry_same n was now l h =
    let e = h 0 (omega arith) in
    let f = h 1 (omega arith) in
    let w = words_same was now (row_at n (index_of l) 2) (row_at n (index_of l) 2) (reason_count n was (index_of l))
    (λ i b. subst (λ a. word_at now a ≡ word_at was a) (sym (add_assoc (6 * n + index_of l * (n + 1)) 2 i)) (h (2 + i) (omega arith))) in
    rw (e, f, w)

pub trail_same : (n len : ℕ) (was now : List ℤ) → ((p : ℕ) → p < len → word_at now (trail_at n p) ≡ word_at was (trail_at n p))
    → ((p : ℕ) → p < len → entry_of n now (word_at was (trail_at n p)) ≡ entry_at n was p) → trail_of n len now ≡ trail_of n len was
trail_same n zero was now a b = refl
trail_same n (suc p) was now a b = rw (a p (omega arith), b p (omega arith), trail_same n p was now (λ q h. a q (omega arith)) (λ q h. b q (omega arith)))

-- what stands at a place of a well-formed trail
pub record Place (n : ℕ) (ws : List ℤ) (p : ℕ) : Type 0 where
  pub in_reach : in_range n (word_at ws (trail_at n p)) ≡ true
  pub low : 1 ≤ var (word_at ws (trail_at n p))
  pub within : index_of (word_at ws (trail_at n p)) < n
  pub new : on (trail_of n p ws) (word_at ws (trail_at n p)) ≡ false
  pub new_negation : on (trail_of n p ws) (neg_ℤ (word_at ws (trail_at n p))) ≡ false
  pub supported : Grounded (trail_of n p ws) (entry_at n ws p)

place_top : (n : ℕ) (ws : List ℤ) (p : ℕ) → Placeable n (trail_of n p ws) (entry_at n ws p) → Place n ws p
place_top n ws p f =
    let l = word_at ws (trail_at n p) in
    let e : literal (entry_of n ws l) ≡ l = literal_of n ws l in
    let r : in_range n l ≡ true = subst (λ z. in_range n z ≡ true) e (ranged f) in
    let i = index_range n l r in
    record {
      in_reach = r;
      low = i.0;
      within = i.1;
      new = subst (λ z. on (trail_of n p ws) z ≡ false) e (fresh f);
      new_negation = subst (λ z. on (trail_of n p ws) (neg_ℤ z) ≡ false) e (fresh_negation f);
      supported = f.grounded;
    }

pub place_at : (n len : ℕ) (ws : List ℤ) → WellFormed n (trail_of n len ws) → (p : ℕ) → p < len → Place n ws p
place_at n zero ws w p h = let q : ⊥ = omega arith in absurd q
place_at n (suc k) ws w p h = elim (cases_eq p k)
    [ inl e ↦ subst (Place n ws) (sym e) (place_top n ws k w.0) | inr e ↦ place_at n k ws w.1 p (omega arith) ]

-- a literal at a place is on the trail, and a literal on the trail is at a place
pub on_at : (n len : ℕ) (ws : List ℤ) (p : ℕ) → p < len → on (trail_of n len ws) (word_at ws (trail_at n p)) ≡ true
on_at n zero ws p h = let q : ⊥ = omega arith in absurd q
on_at n (suc k) ws p h = elim (cases_eq p k) [
  | inl e ↦ rw (e, literal_of n ws (word_at ws (trail_at n k)), same_refl (word_at ws (trail_at n k)))
  | inr e ↦ or_right (same (word_at ws (trail_at n p)) (literal (entry_at n ws k))) (on (trail_of n k ws) (word_at ws (trail_at n p))) (on_at n k ws p (omega arith))
]

pub at_on : (n len : ℕ) (ws : List ℤ) (l : ℤ) → on (trail_of n len ws) l ≡ true → (p : ℕ) × (p < len) × (word_at ws (trail_at n p) ≡ l)
at_on n zero ws l h = absurd (false≢true h)
at_on n (suc k) ws l h = elim (or_cases (same l (literal (entry_at n ws k))) (on (trail_of n k ws) l) h) [
  | inl e ↦ (k, omega arith, sym (same_true l (literal (entry_at n ws k)) e ∙ literal_of n ws (word_at ws (trail_at n k))))
  | inr e ↦ let q = at_on n k ws l e in (q.0, (let b = q.1 in omega arith), q.2)
]

-- a variable that is not on the trail has another index than what is
pub index_apart : (t : Trail) (l m : ℤ) → 1 ≤ var l → 1 ≤ var m → on t l ≡ false → on t (neg_ℤ l) ≡ false → on t m ≡ true → index_of m ≢ index_of l
index_apart t l m a b f g o e = elim (index_same l m a b (sym e)) [
  | inl q ↦ both_ways (on t l) f (subst (λ z. on t z ≡ true) q o)
  | inr q ↦ both_ways (on t (neg_ℤ l)) g (subst (λ z. on t z ≡ true) q o)
]

-- the oldest entries of a well-formed trail
pub front_formed : (n len : ℕ) (ws : List ℤ) → WellFormed n (trail_of n len ws) → (p : ℕ) → p ≤ len → WellFormed n (trail_of n p ws)
front_formed n zero ws w p h = let q : p ≡ zero = omega arith in subst (λ z. WellFormed n (trail_of n z ws)) (sym q) tt
front_formed n (suc k) ws w p h = elim (cases_eq p (suc k))
    [ inl e ↦ subst (λ z. WellFormed n (trail_of n z ws)) (sym e) w | inr e ↦ front_formed n k ws w.1 p (omega arith) ]

-- the reason of an implied literal at a place is false on what is older, and so in range
pub reason_false : (n len : ℕ) (ws : List ℤ) → WellFormed n (trail_of n len ws) → (p : ℕ) → p < len → (x : ℕ) → x ≡ index_of (word_at ws (trail_at n p))
    → eqb (nat_abs (word_at ws (row_at n x 0))) 3 ≡ true → AllFalse (trail_of n p ws) (reason_of n ws x)
reason_false n len ws w p h x e i = by (word_at ws (row_at n x 0)) (reason_of n ws x) i
    (subst (λ y. Grounded (trail_of n p ws) (as_entry (word_at ws (row_at n y 0)) (word_at ws (trail_at n p)) (reason_of n ws y))) (sym e) (place_at n len ws w p h).supported)
  where
    by : (s : ℤ) (others : List ℤ) → eqb (nat_abs s) 3 ≡ true → Grounded (trail_of n p ws) (as_entry s (word_at ws (trail_at n p)) others) → AllFalse (trail_of n p ws) others
    by s others q g = rw q at g

pub all_false : (t : Trail) (C : List ℤ) → status (on t) C ≡ falsified → AllFalse t C
all_false t C f = has_all (λ x. on t (neg_ℤ x) ≡ true) C (falsified_all (on t) C f)

pub false_ranged : (n : ℕ) (t : Trail) → WellFormed n t → (ws : List ℤ) (base k : ℕ) → AllFalse t (words_from ws base k) → (i : ℕ) → i < k → in_range n (word_at ws (base + i)) ≡ true
false_ranged n t w ws base k f i h = sym (range_neg n (word_at ws (base + i))) ∙ on_range n t w (neg_ℤ (word_at ws (base + i))) (all_words (λ m. on t (neg_ℤ m) ≡ true) ws base k f i h)

pub false_range : (n : ℕ) (t : Trail) → WellFormed n t → (C : List ℤ) → AllFalse t C → All (λ l. in_range n l ≡ true) C
false_range n t w C f = has_all (λ l. in_range n l ≡ true) C (λ x h. sym (range_neg n x) ∙ on_range n t w (neg_ℤ x) (all_has (λ m. on t (neg_ℤ m) ≡ true) C f x h))

-- a well-formed trail leaves room for what may still be placed
pub room_for : (n len : ℕ) (ws : List ℤ) (e : Entry) → WellFormed n (trail_of n len ws) → Placeable n (trail_of n len ws) e → len < n
room_for n len ws e w f = let a = length_most n (e ∷ trail_of n len ws) (f, w) in let b = length_trail n len ws in omega arith

-- what a change among the clause in hand and the marks leaves
module _ (n L len base count : ℕ) (was now : List ℤ) (a : 4 * n ≤ base) (b : base + count ≤ 6 * n) (st : Coherent n L len was) (o : Outside base count was now) where
  pub outside_trail : trail_of n len now ≡ trail_of n len was
  outside_trail =
      let f = st.fits in
      trail_same n len was now (λ p h. o.below (trail_at n p) (omega arith))
      (λ p h. entry_same n was now (word_at was (trail_at n p)) (λ k g. o.above (row_at n (index_of (word_at was (trail_at n p))) k) (omega arith)))

  pub outside_coherent : length now ≡ length was → Coherent n L len now
  outside_coherent e = record {
    big = let q = st.big in omega arith;
    fits = st.fits;
    formed = subst (WellFormed n) (sym outside_trail) st.formed;
    values = λ x h. subst (λ t. word_at now (value_at n x) ≡ word t (suc x)) (sym outside_trail) (o.below (value_at n x) (omega arith) ∙ st.values x h);
    counts = λ x h. rw (o.above (row_at n x 1) (omega arith)) (st.counts x h);
  }
