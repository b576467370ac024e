-- The words as they are laid out and used: the trail, the position, and that they stand for it.
use Rattle.std.specs.Prelude.{List, ℤ}
use Rattle.theory.specs.Trail.{Trail}
use Rattle.theory.specs.Look.{Position}
use Rattle.session.specs.Decode.{trail_of, position_of, Sound}
use Rattle.session.specs.declared.layout.Layout.{Layout}
use Rattle.session.specs.declared.layout.Extent.{Extent}

abbrev pub trail_at : Layout → Extent → List ℤ → Trail
trail_at layout extent ws = trail_of layout.variables extent.trail ws

abbrev pub position_at : Layout → Extent → List ℤ → Position
position_at layout extent ws = position_of layout.variables extent.assumptions extent.trail extent.slots ws

abbrev pub SoundAt : Layout → Extent → List ℤ → Type 0
SoundAt layout extent ws = Sound layout.variables layout.slots extent.assumptions extent.trail extent.slots ws
