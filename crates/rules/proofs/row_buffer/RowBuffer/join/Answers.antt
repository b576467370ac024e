use Rattle.std.proofs.Common.{refl, arith}
use Rattle.rules.proofs.RowBuffers.{within_joined, ends_joined, rows_joined, zeros_joined}
use Rattle.rules.proofs.row_buffer.RowBuffer.join.Goals as goal

pub invariant_of-self : goal.invariant_of-self
invariant_of-self c =
    let b = c.args.self.now in
    let room = c.requires in
    record { within = omega (arith, within_joined b room); ends = ends_joined b room; drafted = refl; zeros = zeros_joined b room; few = b.few }

pub returns : goal.returns
returns c = let e = rows_joined c.args.self.now c.requires in cc
