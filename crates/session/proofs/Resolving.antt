-- The walk of an analysis back along the trail, by marks and held variables.
use Rattle.std.proofs.Common.{◌≡◌, ℕ, zero, suc, ◌+◌, ◌<◌, ◌≤◌, Bool, true, false, not, ◌&&◌, ◌||◌, eqb, List, [], ◌∷◌, ℤ, neg_ℤ, nat_abs, sym, refl, ap, ◌∙◌, subst, inl, inr, add-one, arith}
use lib.IntN.{neg_ℤ-neg_ℤ}
use Rattle.std.proofs.Math.Bool.{and-true}
use Rattle.std.proofs.lemmas.Bool.{cond_both, cond-true, cond-false, ne_eqb, le-leb, lt-leb, cases_eq}
use Rattle.rules.proofs.Literals.{all_has, has_all}
use Rattle.theory.specs.Trail.{Entry, Entry.assumed, Entry.decided, Trail, literal, on}
use Rattle.theory.specs.Conflict.{resolvable, resolved}
use Rattle.theory.proofs.Trails.{AllFalse, on_below, on_range}
use Rattle.theory.proofs.Analysis.{hits, resolved_at, analyse}
use Rattle.session.specs.Words.{word_at, index_of, trail_at, row_at}
use Rattle.session.specs.Decode.{as_entry, reason_of, entry_at, trail_of, marked_index, marked, Coherent}
use Rattle.session.specs.Analysis.{set_of, names_index, one, both_count, analysed_at}
use Rattle.session.proofs.Words.{index_range, index_neg}
use Rattle.session.proofs.Decode.{literal_of, place_at, on_at, front_formed, index_apart, reason_false}
use Rattle.session.proofs.Counting.{both_cong, hits_both, set_resolved}

-- fronts of the trail
pub front_on : (n len : ℕ) (ws : List ℤ) (p : ℕ) → p ≤ len → (l : ℤ) → on (trail_of n p ws) l ≡ true → on (trail_of n len ws) l ≡ true
front_on n zero ws p h l o = let q : p ≡ zero = omega arith in subst (λ z. on (trail_of n z ws) l ≡ true) q o
front_on n (suc k) ws p h l o = elim (cases_eq p (suc k))
    [ inl e ↦ subst (λ z. on (trail_of n z ws) l ≡ true) e o | inr e ↦ on_below (entry_at n ws k) (trail_of n k ws) l (front_on n k ws p (omega arith) l o) ]

pub false_up : (s t : Trail) → ((l : ℤ) → on s l ≡ true → on t l ≡ true) → (C : List ℤ) → AllFalse s C → AllFalse t C
false_up s t h C f = has_all (λ m. on t (neg_ℤ m) ≡ true) C (λ m e. h (neg_ℤ m) (all_has (λ k. on s (neg_ℤ k) ≡ true) C f m e))

-- where the walk stops and where it goes on
analyse_stop : (member : ℤ → Bool) (t : Trail) (S : ℤ → Bool) → hits member t S ≤ 1 → analyse member t S ≡ S
analyse_stop member [] S h = refl
analyse_stop member (e ∷ t) S h = rw (le-leb (hits member (e ∷ t) S) 1 h)

analyse_go : (member : ℤ → Bool) (e : Entry) (t : Trail) (S : ℤ → Bool) → 1 < hits member (e ∷ t) S → analyse member (e ∷ t) S ≡ analyse member t (analysed_at member e S)
analyse_go member e t S h = rw (lt-leb (hits member (e ∷ t) S) 1 h)

one_most : (b : Bool) → one b ≤ 1
one_most true = omega arith
one_most false = omega arith

pub both_few : (K B : ℕ → Bool) (n p : ℕ) (ws : List ℤ) → both_count K B (trail_of n p ws) ≤ p
both_few K B n zero ws = omega arith
both_few K B n (suc p) ws =
    let q = both_few K B n p ws in
    let r = one_most (K (index_of (literal (entry_at n ws p))) && B (index_of (literal (entry_at n ws p)))) in
    omega arith

-- what an entry does to the set, by its row
resolved_as : (s l : ℤ) (others : List ℤ) (S : ℤ → Bool) → eqb (nat_abs s) 3 ≡ true → resolved_at (as_entry s l others) S ≡ resolved l others S
resolved_as s l others S e = rw e

-- one step of the walk, at place p with the variable of index x
module _ (n L len : ℕ) (ws : List ℤ) (st : Coherent n L len ws) (p : ℕ) (h : p < len) (x : ℕ) (i : x ≡ index_of (word_at ws (trail_at n p))) where
  top_count : (B : ℕ → Bool) → both_count (marked_index n ws) B (trail_of n (p + 1) ws) ≡ one (marked_index n ws x && B x) + both_count (marked_index n ws) B (trail_of n p ws)
  top_count B = rw (add-one p, literal_of n ws (word_at ws (trail_at n p)), ← i)

  hit_is : (B : ℕ → Bool) → resolvable (marked n ws) (set_of (trail_of n len ws) B) (literal (entry_at n ws p)) ≡ (marked_index n ws x && B x)
  hit_is B = rw (literal_of n ws (word_at ws (trail_at n p)), neg_ℤ-neg_ℤ (word_at ws (trail_at n p)), on_at n len ws p h, index_neg (word_at ws (trail_at n p)), ← i)

  pub hit_some : (B : ℕ → Bool) (t : ℕ) → (marked_index n ws x && B x) ≡ true → t ≡ both_count (marked_index n ws) B (trail_of n (p + 1) ws)
      → t ≡ 1 + both_count (marked_index n ws) B (trail_of n p ws)
  hit_some B t m e = e ∙ (top_count B ∙ rw m)

  -- the count below the place does not see that x is no longer held
  pub forgotten : (B C : ℕ → Bool) → ((y : ℕ) → C y ≡ (B y && not (eqb y x))) → both_count (marked_index n ws) C (trail_of n p ws) ≡ both_count (marked_index n ws) B (trail_of n p ws)
  forgotten B C c =
      let pl = place_at n len ws st.formed p h in
      let wf = front_formed n len ws st.formed p (omega arith) in
      let l = word_at ws (trail_at n p) in
      both_cong (marked_index n ws) C B (trail_of n p ws) (λ z o. c (index_of z)
      ∙ rw (ne_eqb (index_of z) x (λ k. index_apart (trail_of n p ws) l z pl.low (index_range n z (on_range n (trail_of n p ws) wf z o)).0 pl.new pl.new_negation o (k ∙ i))) (and-true (B (index_of z))))

  pub replaced : (B C D : ℕ → Bool) → (marked_index n ws x && B x) ≡ true → eqb (nat_abs (word_at ws (row_at n x 0))) 3 ≡ true
      → ((y : ℕ) → C y ≡ (B y && not (eqb y x))) → ((y : ℕ) → D y ≡ (C y || names_index (reason_of n ws x) y))
      → set_of (trail_of n len ws) D ≡ analysed_at (marked n ws) (entry_at n ws p) (set_of (trail_of n len ws) B)
  replaced B C D m s c d =
      let l = word_at ws (trail_at n p) in
      let S = set_of (trail_of n len ws) B in
      let f = reason_false n len ws st.formed p h x i s in
      let up = false_up (trail_of n p ws) (trail_of n len ws) (front_on n len ws p (omega arith)) (reason_of n ws x) f in
      set_resolved n (trail_of n len ws) st.formed B D l (reason_of n ws x) (on_at n len ws p h) up
      (λ y. d y ∙ ap (λ k. k || names_index (reason_of n ws x) y) (c y ∙ ap (λ k. B y && not (eqb y k)) i))
      ∙ sym (cond-true _ _ _ (hit_is B ∙ m)
      ∙ resolved_as (word_at ws (row_at n (index_of l) 0)) l (reason_of n ws (index_of l)) S (subst (λ y. eqb (nat_abs (word_at ws (row_at n y 0))) 3 ≡ true) i s)
      ∙ ap (λ y. resolved l (reason_of n ws y) S) (sym i))

-- the walk
module _ (n L len : ℕ) (ws : List ℤ) (st : Coherent n L len ws) (R : ℤ → Bool) where
  pub walk_on : (p : ℕ) → p < len → (B C : ℕ → Bool) → 1 < both_count (marked_index n ws) B (trail_of n (p + 1) ws)
      → analyse (marked n ws) (trail_of n (p + 1) ws) (set_of (trail_of n len ws) B) ≡ R
      → set_of (trail_of n len ws) C ≡ analysed_at (marked n ws) (entry_at n ws p) (set_of (trail_of n len ws) B)
      → analyse (marked n ws) (trail_of n p ws) (set_of (trail_of n len ws) C) ≡ R
  walk_on p h B C g e s =
      let k = hits_both (marked_index n ws) B (trail_of n len ws) (trail_of n (suc p) ws) (front_on n len ws (suc p) (omega arith)) in
      let g' : 1 < hits (marked n ws) (trail_of n (suc p) ws) (set_of (trail_of n len ws) B) = rw k (rw (add-one p) at g) in
      let a = analyse_go (marked n ws) (entry_at n ws p) (trail_of n p ws) (set_of (trail_of n len ws) B) g' in
      ap (analyse (marked n ws) (trail_of n p ws)) s ∙ (sym a ∙ (rw (add-one p) at e))

  pub walk_end : (p : ℕ) → p ≤ len → (B : ℕ → Bool) → both_count (marked_index n ws) B (trail_of n p ws) ≤ 1
      → analyse (marked n ws) (trail_of n p ws) (set_of (trail_of n len ws) B) ≡ R → set_of (trail_of n len ws) B ≡ R
  walk_end p h B g e =
      let k = hits_both (marked_index n ws) B (trail_of n len ws) (trail_of n p ws) (front_on n len ws p h) in
      sym (analyse_stop (marked n ws) (trail_of n p ws) (set_of (trail_of n len ws) B) (rw k g)) ∙ e
