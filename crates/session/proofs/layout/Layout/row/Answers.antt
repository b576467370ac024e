use Rattle.std.proofs.Common.{arith}
use Rattle.session.proofs.Words.{row_below}
use Rattle.session.proofs.layout.Layout.row.Goals as goal

pub returns-clause-below : goal.returns-clause-below
returns-clause-below c =
    let start = c.row_start.ensures in
    let below = row_below c.args.self.variables c.args.self.slots c.args.index c.args.k c.requires.0 c.requires.1 in
    omega arith
