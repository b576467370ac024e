use Rattle.std.proofs.Common.{ap, ◌∙◌, w32, SFits, rules}
use Rattle.std.proofs.lemmas.Int.{to_z-of_z}
use Rattle.session.specs.Words.{index_of}
use Rattle.session.proofs.Decode.{room_for}
use Rattle.session.proofs.Storing.{written_sound, written_position, written_clause}
use Rattle.session.proofs.memory.Memory.place.Goals as goal

pub trail-requires : goal.trail-requires
trail-requires c = room_for _ _ _ _ c.args.self.now.sound.coherent.formed c.requires

pub invariant_of-self : goal.invariant_of-self
invariant_of-self c =
    let e = to_z-of_z w32 c.args.literal c.ranges.literal in
    let fits : SFits w32 c.word_of.result = search rules in
    record {
      sound = written_sound c.args.self.now c.args.literal c.args.standing _ _ c.index_of-x.result c.trail.result c.value.result c.row.result c.requires e (to_z-of_z w32 c.word_of.result fits ∙ c.word_of.ensures)
          (c.index_of-x.ensures.is ∙ ap index_of e) c.trail.ensures c.value.ensures c.row.ensures.at;
    }

pub returns-clause-placed : goal.returns-clause-placed
returns-clause-placed c =
    let e = to_z-of_z w32 c.args.literal c.ranges.literal in
    let fits : SFits w32 c.word_of.result = search rules in
    written_position c.args.self.now c.args.literal c.args.standing _ _ c.index_of-x.result c.trail.result c.value.result c.row.result c.requires e (to_z-of_z w32 c.word_of.result fits ∙ c.word_of.ensures)
    (c.index_of-x.ensures.is ∙ ap index_of e) c.trail.ensures c.value.ensures c.row.ensures.at

pub returns-clause-clause : goal.returns-clause-clause
returns-clause-clause c =
    let e = to_z-of_z w32 c.args.literal c.ranges.literal in
    let fits : SFits w32 c.word_of.result = search rules in
    written_clause c.args.self.now c.args.literal c.args.standing _ _ c.index_of-x.result c.trail.result c.value.result c.row.result c.requires e (to_z-of_z w32 c.word_of.result fits ∙ c.word_of.ensures)
    (c.index_of-x.ensures.is ∙ ap index_of e) c.trail.ensures c.value.ensures c.row.ensures.at
