use Rattle.std.proofs.Common.{rules, codes, take, sym, subst}
use Rattle.std.specs.Fmt.{HasWritten}
use Rattle.std.proofs.Output.{has_written_append}
use Rattle.session.specs.Reports.{report_of}
use Rattle.answer.specs.Lines.{line, values_text, counts_text}
use Rattle.answer.specs.Answers.{answer_text}
use Rattle.answer.proofs.answers.AnswerDisplay.fmt.Goals as goal

pub returns-in_ok-writeln-in-Satisfiable-2-clause-writes : goal.returns-in_ok-writeln-in-Satisfiable-2-clause-writes
returns-in_ok-writeln-in-Satisfiable-2-clause-writes g c = λ plain ok.
    let took = g.W.Write.write_str_gives in
    let model = c.in-Satisfiable.model in
    let first : HasWritten took c.args.f.now (line (codes "s SATISFIABLE")) c.writeln-in-Satisfiable.new.self = search rules in
    let second : HasWritten took c.writeln-in-Satisfiable.new.self (line (values_text (take model.count model.literals))) c.writeln-in-Satisfiable-2.new.self = search rules in
    let third : HasWritten took c.writeln-in-Satisfiable-2.new.self (line (counts_text (report_of c.in-Satisfiable.counts.0))) c.writeln-in-Satisfiable-3.new.self = search rules in
    subst (λ answer. HasWritten took c.args.f.now (answer_text answer) c.writeln-in-Satisfiable-3.new.self) (sym c.in-Satisfiable.is)
    (has_written_append took _ _ _ _ _ first (has_written_append took _ _ _ _ _ second third))
