-- What the choice of a source wants.
use Rattle.std.specs.Prelude.{Bool, cond, Ok, Err, Result}
use Rattle.replay.specs.declared.script.Choice.{Choice}
use Rattle.replay.specs.declared.script.Choice.TheVariants.{Clauses, Groups, ClausesFirst, GroupsFirst}
use Rattle.replay.specs.declared.script.Mistake.{Mistake}
use Rattle.replay.specs.declared.script.Mistake.TheVariants.{NoClauseBook, NoGroupBook}

-- a book that stands is enough
abbrev pub wants : Bool → Mistake → Result (Unit {0}) Mistake
wants stands mistake = cond stands (Ok tt) (Err mistake)

-- each book that is chosen has to stand; a clause book is looked for first
abbrev pub choice_answer : Choice → Bool → Bool → Result (Unit {0}) Mistake
choice_answer Clauses clauses groups = wants clauses NoClauseBook
choice_answer Groups clauses groups = wants groups NoGroupBook
choice_answer ClausesFirst clauses groups = cond clauses (wants groups NoGroupBook) (Err NoClauseBook)
choice_answer GroupsFirst clauses groups = cond clauses (wants groups NoGroupBook) (Err NoClauseBook)
