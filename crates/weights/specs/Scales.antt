use Rattle.std.specs.Prelude.{ℕ, ◌+◌, ◌-◌, ◌^◌, min, Bool, cond, ◌==◌, nat_le}
use Rattle.weights.specs.declared.scales.Plain.{Plain}
use Rattle.weights.specs.declared.scales.Ranked.{Ranked}

-- a number as a plain weight
abbrev pub plain : ℕ → Plain
plain n = record { 0 = n }

-- plain weights compare by value
abbrev pub plain_at_most : Plain → Plain → Bool
plain_at_most x y = nat_le x.0 y.0

-- plain weights add by value, and stop at the largest
abbrev pub plain_plus : Plain → Plain → Plain
plain_plus x y = plain (min (x.0 + y.0) (2 ^ 32 - 1))

-- both parts are zero
abbrev pub ranked_zero : Ranked
ranked_zero = record { first = plain 0; second = plain 0 }

-- ranked weights compare by the first part, and by the second where the first ones are equal
abbrev pub ranked_at_most : Ranked → Ranked → Bool
ranked_at_most x y = cond (x.first.0 == y.first.0) (plain_at_most x.second y.second) (plain_at_most x.first y.first)

-- ranked weights add by part
abbrev pub ranked_plus : Ranked → Ranked → Ranked
ranked_plus x y = record { first = plain_plus x.first y.first; second = plain_plus x.second y.second }
