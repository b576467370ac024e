-- That words stand for a position has one proof at most.
use Rattle.std.proofs.Common.{◌≡◌, ℕ, true, List, [], ◌∷◌, ℤ, neg_ℤ, All, get_or}
use mathlib.Core.Bool.{Bool-set}
use mathlib.Core.HLevel.{Π_prop, ×_prop, Unit-prop}
use native.Mathlib.Bridge.{le_prop}
use lib.IntN.{ℤ_set}
use Rattle.theory.specs.Trail.{Entry, Entry.assumed, Entry.decided, Entry.implied, Trail, on, Grounded, Placeable, WellFormed}
use Rattle.session.specs.Decode.{trail_of, Coherent, Stored, Sound}
use Rattle.session.specs.InUse.{SoundAt}
use Rattle.session.specs.declared.layout.Layout.{Layout}
use Rattle.session.specs.declared.layout.Extent.{Extent}

all_prop : (P : ℤ → Type 0) → ((x : ℤ) → IsProp (P x)) → (xs : List ℤ) → IsProp (All P xs)
all_prop P h xs = Π_prop (λ k. Π_prop (λ d. Π_prop (λ l. h (get_or xs k d))))

grounded_prop : (t : Trail) (e : Entry) → IsProp (Grounded t e)
grounded_prop t (assumed l) = Unit-prop
grounded_prop t (decided l) = Unit-prop
grounded_prop t (implied l others) = all_prop (λ k. on t (neg_ℤ k) ≡ true) (λ k. Bool-set (on t (neg_ℤ k)) true) others

placeable_prop : (n : ℕ) (t : Trail) (e : Entry) → IsProp (Placeable n t e)
placeable_prop n t e a b = λ i. record { unassigned = Bool-set _ _ a.unassigned b.unassigned i; grounded = grounded_prop t e a.grounded b.grounded i }

formed_prop : (n : ℕ) (t : Trail) → IsProp (WellFormed n t)
formed_prop n [] = Unit-prop
formed_prop n (e ∷ t) = ×_prop (placeable_prop n t e) (formed_prop n t)

coherent_prop : (n L len : ℕ) (ws : List ℤ) → IsProp (Coherent n L len ws)
coherent_prop n L len ws a b = λ i. record {
  big = le_prop a.big b.big i;
  fits = le_prop a.fits b.fits i;
  formed = formed_prop n (trail_of n len ws) a.formed b.formed i;
  values = λ x h. ℤ_set _ _ (a.values x h) (b.values x h) i;
  counts = λ x h. le_prop (a.counts x h) (b.counts x h) i;
}

stored_prop : (n filled : ℕ) (ws : List ℤ) → IsProp (Stored n filled ws)
stored_prop n filled ws a b = λ i. record { short = λ s h. le_prop (a.short s h) (b.short s h) i; ranged = λ s j h k. Bool-set _ _ (a.ranged s j h k) (b.ranged s j h k) i }

sound_prop : (n L count len filled : ℕ) (ws : List ℤ) → IsProp (Sound n L count len filled ws)
sound_prop n L count len filled ws a b = λ i. record {
  coherent = coherent_prop n L len ws a.coherent b.coherent i;
  few = le_prop a.few b.few i;
  ranged = λ j h. Bool-set _ _ (a.ranged j h) (b.ranged j h) i;
  within = le_prop a.within b.within i;
  stored = stored_prop n filled ws a.stored b.stored i;
}

pub sound_at_prop : (layout : Layout) (extent : Extent) (ws : List ℤ) → IsProp (SoundAt layout extent ws)
sound_at_prop layout extent ws = sound_prop layout.variables layout.slots extent.assumptions extent.trail extent.slots ws
