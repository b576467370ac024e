use Rattle.std.proofs.Common.{w32, SFits, rules}
use Rattle.std.proofs.lemmas.Int.{to_z-of_z}
use Rattle.session.proofs.Decode.{place_at}
use Rattle.session.proofs.memory.Memory.variable.Goals as goal

pub index_of-requires : goal.index_of-requires
index_of-requires c =
    let fits : SFits w32 c.literal.result = search rules in
    rw (to_z-of_z w32 c.literal.result fits, c.literal.ensures) (place_at _ _ _ c.args.self.now.sound.coherent.formed _ c.requires).in_reach
