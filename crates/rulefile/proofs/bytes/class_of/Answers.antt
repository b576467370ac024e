use Rattle.std.proofs.Common.{◌≡◌, List, map, slice_index_or, refl, ap, ◌∙◌, zero-add, rules}
use Rattle.std.specs.List.{range_with_len}
use Rattle.std.proofs.lemmas.List.FromFn.{get_or-map-range_with_len}
use Rattle.rulefile.specs.declared.bytes.Class.{Class}
use Rattle.rulefile.specs.declared.bytes.Class.TheVariants.{Blank}
use Rattle.rulefile.specs.declared.bytes.TheConstants.{CLASSES}
use Rattle.rulefile.specs.Bytes.{class_of}
use Rattle.rulefile.proofs.bytes.class_of.Goals as goal

-- the table has the class of each byte, by computation
table : CLASSES ≡ map class_of (range_with_len 0 256)
table = refl

pub returns : goal.returns
returns c = ap (λ (t : List Class). slice_index_or t c.args.byte Blank) table ∙ get_or-map-range_with_len class_of 0 256 c.args.byte c.args.byte Blank (search rules) (zero-add c.args.byte)
