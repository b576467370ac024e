use Rattle.std.specs.Prelude.{ℕ, zero, suc, ◌+◌, ◌*◌, List, ℤ, pos, negsuc, Some, None, fold, Option, slice_index_or}
use Rattle.weights.specs.declared.scales.Plain.{Plain}
use Rattle.weights.specs.declared.weigher.Member.{Member}
use Rattle.weights.specs.declared.weigher.Standing.{Standing}
use Rattle.weights.specs.declared.weigher.Standing.TheVariants.{Assumed, Decided, Implied}
use Rattle.weights.specs.Scales.{plain}

-- what members weigh together: the scale's zero with each one's weight added in order
abbrev pub total_weight : {W : Type 0} → W → (W → W → W) → (Member → W) → List Member → W
total_weight nothing plus weight members = fold (λ sum member. plus sum (weight member)) nothing members

-- the entry of a literal in a table: none for 0, 2(v − 1) for v and 2(v − 1) + 1 for −v; v is u + 1
abbrev pub table_entry : ℤ → Option ℕ
table_entry (pos zero) = None
table_entry (pos (suc u)) = Some (2 * u)
table_entry (negsuc u) = Some (2 * u + 1)

-- the weight at an entry: the scale's zero past the end and where there is no entry
abbrev pub entry_weight : {W : Type 0} → W → List W → Option ℕ → W
entry_weight nothing weights None = nothing
entry_weight nothing weights (Some i) = slice_index_or weights i nothing

-- what a literal weighs by a table with these weights
abbrev pub table_weight : {W : Type 0} → W → List W → ℤ → W
table_weight nothing weights literal = entry_weight nothing weights (table_entry literal)

-- an implied member weighs 8, any other 1
abbrev pub standing_weight : Standing → Plain
standing_weight Assumed = plain 1
standing_weight Decided = plain 1
standing_weight Implied = plain 8
