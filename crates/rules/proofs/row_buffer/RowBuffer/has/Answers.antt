use Rattle.std.proofs.Common.{int_eq, rules}
use Rattle.std.proofs.lemmas.List.Elements.{contains_decides}
use Rattle.std.proofs.lemmas.Bool.Decides.{same_from_decides, Decides-int_eq}
use Rattle.rules.specs.Literals.{has}
use Rattle.rules.specs.RowBuffers.{content}
use Rattle.rules.proofs.Literals.{decides_has}
use Rattle.rules.proofs.row_buffer.RowBuffer.has.Goals as goal

pub returns : goal.returns
returns c =
    let draft = (content c.args.self.now).draft in
    same_from_decides c.contains.result (has draft c.args.word) (contains_decides int_eq Decides-int_eq draft c.args.word c.contains.result (search rules)) (decides_has c.args.word draft)
