-- A unit clause: its literal is the first that has no value, and may be placed.
use Rattle.std.proofs.Common.{◌≡◌, ℕ, true, not, List, ℤ, neg_ℤ, All, refl}
use mathlib.Core.Bool.{false≢true}
use Rattle.std.proofs.lemmas.Bool.{not-true}
use Rattle.rules.specs.Literals.{same, in_range}
use Rattle.rules.specs.Clauses.{Status, Status.falsified, Status.unit, Status.other, status, is_unit}
use Rattle.rules.proofs.Literals.{all_has, has_all}
use Rattle.rules.proofs.Statuses.{kept_in, unit_at}
use Rattle.theory.specs.Trail.{Entry.implied, Trail, on, Placeable}
use Rattle.theory.specs.Conflict.{others_of}
use Rattle.theory.proofs.Trails.{parts_free}

-- the literal of a unit clause may be placed
pub unit_placeable : (n : ℕ) (t : Trail) (C : List ℤ) → All (λ l. in_range n l ≡ true) C → (l : ℤ) → status (on t) C ≡ unit l → Placeable n t (implied l (others_of l C))
unit_placeable n t C r l e =
    let u = unit_at (on t) C l e in
    record {
      unassigned = parts_free n t l (all_has (λ x. in_range n x ≡ true) C r l u.inside) u.not_true u.not_false;
      grounded = has_all (λ x. on t (neg_ℤ x) ≡ true) (others_of l C)
          (λ x h. let c = kept_in (λ y. not (same y l)) C x h in u.others x c.0 (not-true (same x l) c.1));
    }

-- a clause that is unit has its literal
pub some_unit : (s : Status) → is_unit s ≡ true → (l : ℤ) × (s ≡ unit l)
some_unit falsified h = absurd (false≢true h)
some_unit (unit l) h = (l, refl)
some_unit other h = absurd (false≢true h)
