-- The value of a literal, by the valuation and by the trail.
use Rattle.std.proofs.Common.{◌≡◌, ℕ, suc, Bool, true, false, cond, not, ◌&&◌, eqb, List, ℤ, pos, negsuc, neg_ℤ, nat_abs, refl, ◌∙◌, arith}
use lib.Signed.{lt_z}
use Rattle.std.proofs.lemmas.Bool.{ne_eqb, lt-ltb}
use Rattle.rules.specs.Literals.{in_range}
use Rattle.rules.specs.Sources.{true_in}
use Rattle.rules.specs.Values.{value_in}
use Rattle.rules.proofs.Literals.{range_neg}
use Rattle.theory.specs.Trail.{Trail, on, word, valuation}
use Rattle.theory.proofs.Valuations.{valuation_true}
use Rattle.session.specs.Decode.{trail_of, Coherent}

-- by the values, a literal is what it is on the trail
pub value_is : (n L len : ℕ) (ws : List ℤ) → Coherent n L len ws → (row : List ℤ) → row ≡ valuation n (trail_of n len ws) → (l : ℤ) → in_range n l ≡ true
    → value_in (true_in row) l ≡ value_in (on (trail_of n len ws)) l
value_is n L len ws st row e l r =
    let t = trail_of n len ws in
    rw (e, valuation_true n t st.formed l r, valuation_true n t st.formed (neg_ℤ l) (range_neg n l ∙ r))

-- a variable has no value when neither of its literals stands on the trail
pub open_is : (t : Trail) (a : ℕ) → eqb (nat_abs (word t (suc a))) 0 ≡ (not (on t (pos (suc a))) && not (on t (negsuc a)))
open_is t a = by (on t (pos (suc a))) (on t (negsuc a))
  where
    by : (p q : Bool) → eqb (nat_abs (cond p (pos (suc a)) (cond q (negsuc a) (pos 0)))) 0 ≡ (not p && not q)
    by true q = ne_eqb (suc a) 0 (λ z. omega arith)
    by false true = ne_eqb (suc a) 0 (λ z. omega arith)
    by false false = refl

-- a variable is true when its value is above 0
pub above_zero : (t : Trail) (x : ℕ) → lt_z (pos 0) (word t (suc x)) ≡ on t (pos (suc x))
above_zero t x = by (on t (pos (suc x))) (on t (negsuc x))
  where
    by : (p q : Bool) → lt_z (pos 0) (cond p (pos (suc x)) (cond q (negsuc x) (pos 0))) ≡ p
    by true q = lt-ltb 0 (suc x) (omega arith)
    by false true = refl
    by false false = refl
