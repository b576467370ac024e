use Rattle.std.proofs.Common.{◌≡◌, take, fold}
use Rattle.rules.proofs.book.push_all.Given as goal

abbrev pub invariant-loop-literal : goal.invariant-loop-literal
invariant-loop-literal g l = g.B.Book.filling l.book ≡ fold g.B.Book.pushed (g.B.Book.filling l.initial.book) (take l.literal-index l.literals)
