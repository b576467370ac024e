use Rattle.std.proofs.Common.{rules}
use Rattle.std.proofs.lemmas.Iterator.{YieldsList-from_slice}
use Rattle.std.proofs.lemmas.Iterator.Search.{position_from_yields_List}
use Rattle.rulefile.specs.Words.{is_gap}
use Rattle.rulefile.proofs.WordLaws.{run_position}
use Rattle.rulefile.proofs.words.reading.run_length.Goals as goal

pub returns-clause-value : goal.returns-clause-value
returns-clause-value c =
    let first = position_from_yields_List is_gap _ _ c.position.result c.position.ensures.ran (YieldsList-from_slice c.args.bytes.now cc) (λ x b q k. search rules) in
    cc (run_position c.args.bytes.now, first)
