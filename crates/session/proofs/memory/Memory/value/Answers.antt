use Rattle.std.proofs.Common.{ap, ◌∙◌, w32}
use Rattle.std.proofs.lemmas.Int.{to_z-of_z}
use Rattle.rules.specs.Sources.{true_in}
use Rattle.rules.specs.Values.{value_in}
use Rattle.session.proofs.Valuing.{value_is}
use Rattle.session.proofs.memory.Memory.value.Goals as goal

pub returns : goal.returns
returns c =
    let m = c.args.self.now in
    let row = c.values.result.now in
    c.value_of.ensures ∙ ap (value_in (true_in row)) (to_z-of_z w32 c.args.literal c.ranges.literal)
    ∙ value_is m.layout.variables m.layout.slots m.extent.trail m.words.now m.sound.coherent row c.values.ensures c.args.literal c.requires
