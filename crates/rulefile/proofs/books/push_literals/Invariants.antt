use Rattle.std.proofs.Common.{◌≡◌, length}
use Rattle.rulefile.specs.Ahead.{ahead}
use Rattle.rulefile.specs.Form.{literals_from}
use Rattle.rulefile.specs.Outcomes.{pushes}
use Rattle.rulefile.proofs.books.push_literals.Given as goal

abbrev pub invariant-loop-number : goal.invariant-loop-number
invariant-loop-number g l = (pushes g.B.Book.pushed (g.B.Book.filling l.initial.book) (literals_from l.initial.number.value (ahead l.initial.reader)) ≡ pushes g.B.Book.pushed (g.B.Book.filling l.book) (literals_from l.number.value (ahead l.reader)))
    × (g.B.Book.size (g.B.Book.filling l.book) ≡ g.B.Book.size (g.B.Book.filling l.initial.book))

abbrev pub decreases-loop-number : goal.decreases-loop-number
decreases-loop-number g l = length (ahead l.reader)
