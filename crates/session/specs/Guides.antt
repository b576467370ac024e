-- The guide that a source, preferred literals and a weigher are.
use Rattle.std.specs.Prelude.{Bool, List, ℤ}
use Rattle.rules.specs.Sources.{Meaning}
use Rattle.theory.specs.Weighing.{Member}
use Rattle.theory.specs.Search.{Guide}
use Rattle.session.specs.Candidates.{by_total}

abbrev pub guided : {W : Type 0} → Meaning → List ℤ → (W → W → Bool) → W → (W → W → W) → (Member → W) → Guide
guided source preferences at_most zero plus weight = record { source = source; preferences = preferences; weighing = by_total at_most zero plus weight }
