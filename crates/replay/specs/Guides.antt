-- What guides the runs of a script.
use Rattle.std.specs.Prelude.{List, ℤ}
use Rattle.weights.specs.Weighing.{standing_weight, table_weight}
use Rattle.weights.specs.Scales.{plain, plain_plus, plain_at_most, ranked_zero, ranked_plus, ranked_at_most}
use Rattle.rules.specs.Sources.{Meaning}
use Rattle.theory.specs.Search.{Guide}
use Rattle.session.specs.Guides.{guided}
use Rattle.replay.specs.declared.weighing.Weighing.{Weighing}
use Rattle.replay.specs.declared.weighing.Weighing.TheVariants.{Standing, Plain, Ranked}
use Rattle.replay.specs.declared.weighing.Guides.{Guides}

-- a source and preferred literals, weighed so: by standing, or by a table
abbrev pub weighed : Weighing → Meaning → List ℤ → Guide
weighed Standing m ls = guided m ls plain_at_most (plain 0) plain_plus (λ member. standing_weight member.standing)
weighed (Plain weights) m ls = guided m ls plain_at_most (plain 0) plain_plus (λ member. table_weight (plain 0) weights.items member.literal)
weighed (Ranked weights) m ls = guided m ls ranked_at_most ranked_zero ranked_plus (λ member. table_weight ranked_zero weights.items member.literal)

abbrev pub guide_of : Guides → Meaning → Guide
guide_of g m = weighed g.weighing m g.preferences.items
