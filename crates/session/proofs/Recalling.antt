-- The learned clauses one by one, and how a clause stands by the values.
use Rattle.std.proofs.Common.{◌≡◌, ℕ, suc, ◌+◌, ◌-◌, ◌<◌, Bool, true, false, cond, ◌||◌, List, [], ◌∷◌, map, length, get_or, ℤ, pos, neg_ℤ, Some, None, All, Option, sym, refl, ap, ◌∙◌, subst, inl, inr, arith}
use Rattle.std.specs.List.{find, range_with_len}
use Rattle.std.specs.Option.{option_or}
use Rattle.std.proofs.lemmas.Bool.{cases_Bool, both_ways}
use Rattle.rules.specs.Literals.{same, in_range}
use Rattle.rules.specs.Clauses.{Status.falsified, Status.unit, status, is_falsified, is_unit}
use Rattle.rules.specs.Sources.{Meaning, LawfulAt, true_in}
use Rattle.rules.specs.Values.{value_in}
use Rattle.rules.specs.declared.literal.Value.TheVariants.{True, False, Unassigned}
use Rattle.rules.proofs.Lists.{asserts}
use Rattle.rules.proofs.Literals.{same_true, range_neg, all_has}
use Rattle.rules.proofs.Statuses.{status_cong, falsified_all, unit_at, asserting}
use Rattle.theory.specs.Trail.{Trail, on, WellFormed, valuation}
use Rattle.theory.specs.Look.{Position, falsified_on, unit_on, Look}
use Rattle.theory.proofs.Invariant.{look_asserts}
use Rattle.theory.proofs.Looking.{look_after, look_looks}
use Rattle.theory.proofs.Valuations.{valuation_true}
use Rattle.session.specs.Words.{word_at, words_from, clause_at}
use Rattle.session.specs.Decode.{trail_of, clause_of, slot_of, Coherent}
use Rattle.session.proofs.Words.{words_all, has_word, word_has}
use Rattle.session.specs.Learned.{learned_at, WithinCount}
use Rattle.session.specs.InHand.{InRange}
use Rattle.std.proofs.lemmas.List.FromFn.{length-map-range_with_len, get_or-map-range_with_len}

-- what the clauses still to come give, where `so_far` is the first unit one so far and none was falsified
abbrev pub recalled : Trail → Option (List ℤ) → List (List ℤ) → Option (List ℤ)
recalled t so_far rest = option_or (find (falsified_on t) rest) (option_or so_far (find (unit_on t) rest))

-- those from a slot on
pub rest_next : {A : Type 0} (f : ℕ → A) (s filled : ℕ) → s < filled → map f (range_with_len s (filled - s)) ≡ f s ∷ map f (range_with_len (s + 1) (filled - (s + 1)))
rest_next f s filled h = let e : filled - s ≡ suc (filled - (s + 1)) = omega arith in ap (λ k. map f (range_with_len s k)) e

-- the first of two slots
pub or_learned : (n : ℕ) (ws : List ℤ) (o : Option ℕ) (s : ℕ) → learned_at n ws (option_or o (Some s)) ≡ option_or (learned_at n ws o) (Some (slot_of n ws s))
or_learned n ws None s = refl
or_learned n ws (Some r) s = refl

pub or_within : (filled : ℕ) (o : Option ℕ) (s : ℕ) → WithinCount filled o → s < filled → WithinCount filled (option_or o (Some s))
or_within filled None s h k = k
or_within filled (Some r) s h k = h

module _ (t : Trail) (so_far : Option (List ℤ)) (C : List ℤ) (rest : List (List ℤ)) where
  pub recall_falsified : falsified_on t C ≡ true → recalled t so_far (C ∷ rest) ≡ Some C
  recall_falsified h = rw h

  pub recall_unit : falsified_on t C ≡ false → unit_on t C ≡ true → recalled t so_far (C ∷ rest) ≡ recalled t (option_or so_far (Some C)) rest
  recall_unit h k = rw (h, k) (ap (option_or (find (falsified_on t) rest)) (by so_far))
    where
      by : (o : Option (List ℤ)) → option_or o (Some C) ≡ option_or (option_or o (Some C)) (find (unit_on t) rest)
      by None = refl
      by (Some D) = refl

  pub recall_other : falsified_on t C ≡ false → unit_on t C ≡ false → recalled t so_far (C ∷ rest) ≡ recalled t so_far rest
  recall_other h k = rw (h, k)

-- by the values and by the trail a clause in range has one status
pub status_same : (n : ℕ) (t : Trail) → WellFormed n t → (C : List ℤ) → All (λ l. in_range n l ≡ true) C → status (true_in (valuation n t)) C ≡ status (on t) C
status_same n t w C r = status_cong (true_in (valuation n t)) (on t) C
    (λ x h. let b = all_has (λ l. in_range n l ≡ true) C r x h in (valuation_true n t w (neg_ℤ x) (range_neg n x ∙ b), valuation_true n t w x b))

-- where the clause and the values are read as lists
pub read_status : (n L len : ℕ) (ws : List ℤ) → Coherent n L len ws → (C row D : List ℤ) → C ≡ D → row ≡ valuation n (trail_of n len ws) → All (λ l. in_range n l ≡ true) D
    → status (true_in row) C ≡ status (on (trail_of n len ws)) D
read_status n L len ws st C row D c v r = rw (c, v) (status_same n (trail_of n len ws) st.formed D r)

-- WHICH LITERAL IS UNASSIGNED

value_open : (f : ℤ → Bool) (l : ℤ) → value_in f l ≡ Unassigned → f (neg_ℤ l) ≡ false
value_open f l = by (f l) (f (neg_ℤ l))
  where
    by : (a b : Bool) → cond a True (cond b False Unassigned) ≡ Unassigned → b ≡ false
    by true b e = let z : ◌≡◌ {A = ℕ} 0 1 = cc in absurd (omega arith)
    by false true e = let z : ◌≡◌ {A = ℕ} 0 1 = cc in absurd (omega arith)
    by false false e = refl

open_value : (f : ℤ → Bool) (l : ℤ) → f l ≡ false → f (neg_ℤ l) ≡ false → value_in f l ≡ Unassigned
open_value f l a b = rw (a, b)

module _ (f : ℤ → Bool) (ws : List ℤ) (base k : ℕ) (h : asserts f (words_from ws base k) ≡ true) where
  -- one that is unassigned is the literal of a unit clause
  pub asserts_unit : (i : ℕ) → i < k → value_in f (word_at ws (base + i)) ≡ Unassigned → status f (words_from ws base k) ≡ unit (word_at ws (base + i))
  asserts_unit i b v =
      let C = words_from ws base k in
      let x = word_at ws (base + i) in
      let inside = has_word ws base k i b in
      let loose = value_open f x v in
      elim (asserting (status f C) h) [
        | inl e ↦ absurd (both_ways (f (neg_ℤ x)) loose (falsified_all f C e x inside))
        | inr e ↦
            let u = unit_at f C e.0 e.1 in
            elim (cases_Bool (same x e.0))
            [ inl s ↦ e.1 ∙ ap unit (sym (same_true x e.0 s)) | inr s ↦ absurd (both_ways (f (neg_ℤ x)) loose (u.others x inside s)) ]
      ]

  -- where none is, the clause is falsified
  pub asserts_falsified : ((i : ℕ) → i < k → value_in f (word_at ws (base + i)) ≡ Unassigned → ⊥) → status f (words_from ws base k) ≡ falsified
  asserts_falsified none =
      let C = words_from ws base k in
      elim (asserting (status f C) h) [
        | inl e ↦ e
        | inr e ↦
            let u = unit_at f C e.0 e.1 in
            let w = word_has ws base k e.0 u.inside in
            absurd (none w.0 w.1 (ap (value_in f) w.2 ∙ open_value f e.0 u.not_true u.not_false))
      ]

module _ (n L len : ℕ) (ws : List ℤ) (st : Coherent n L len ws) (k : ℕ) (r : InRange n ws k) (h : asserts (on (trail_of n len ws)) (clause_of n k ws) ≡ true)
    (C row : List ℤ) (c : C ≡ clause_of n k ws) (v : row ≡ valuation n (trail_of n len ws)) where
  same_status : status (true_in row) (clause_of n k ws) ≡ status (on (trail_of n len ws)) (clause_of n k ws)
  same_status = read_status n L len ws st (clause_of n k ws) row (clause_of n k ws) refl v (words_all (λ l. in_range n l ≡ true) ws (clause_at n 0) k r)

  still : asserts (true_in row) (clause_of n k ws) ≡ true
  still = ap (λ s. is_falsified s || is_unit s) same_status ∙ h

  pub many_in_hand : length C ≡ k
  many_in_hand = ap length c ∙ length-map-range_with_len (word_at ws) (clause_at n 0) k

  literal : (i : ℕ) → i < k → get_or C i (pos 0) ≡ word_at ws (clause_at n 0 + i)
  literal i l = ap (λ D. get_or D i (pos 0)) c ∙ get_or-map-range_with_len (word_at ws) (clause_at n 0) k i (clause_at n 0 + i) (pos 0) l (omega arith)

  pub unit_in_hand : (i : ℕ) → i < k → value_in (true_in row) (get_or C i (pos 0)) ≡ Unassigned → status (on (trail_of n len ws)) (clause_of n k ws) ≡ unit (word_at ws (clause_at n i))
  unit_in_hand i l u =
      let at : clause_at n 0 + i ≡ clause_at n i = omega arith in
      sym same_status ∙ asserts_unit (true_in row) ws (clause_at n 0) k still i l (ap (value_in (true_in row)) (sym (literal i l)) ∙ u) ∙ ap (λ z. unit (word_at ws z)) at

  pub falsified_in_hand : ((i : ℕ) → i < k → value_in (true_in row) (get_or C i (pos 0)) ≡ Unassigned → ⊥) → status (on (trail_of n len ws)) (clause_of n k ws) ≡ falsified
  falsified_in_hand none = sym same_status ∙ asserts_falsified (true_in row) ws (clause_at n 0) k still (λ i l u. none i l (ap (value_in (true_in row)) (literal i l) ∙ u))

-- what a look finds is falsified or unit
pub look_asserting : (n : ℕ) (m : Meaning) → LawfulAt n m → (t : Trail) → WellFormed n t → (slots : List (List ℤ)) (C : List ℤ)
    → Some C ≡ look_after (m.answer (valuation n t)) t slots → asserts (on t) C ≡ true
look_asserting n m law t w slots C e =
    let p : Position = record { assumptions = []; trail = t; slots = slots } in
    elim (look_asserts n m p law w (subst (Look n m p) (sym e) (look_looks n m p)))
    [ inl f ↦ ap (λ s. is_falsified s || is_unit s) f | inr f ↦ ap (λ s. is_falsified s || is_unit s) f.1 ]
