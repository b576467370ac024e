use Rattle.std.proofs.Common.{sym, ap, ◌∙◌}
use Rattle.std.specs.Option.{is_some}
use mathlib.Core.Path.{fun_ext}
use Rattle.rules.specs.Literals.{any_pass}
use Rattle.session.specs.Decode.{marked, marked_index}
use Rattle.session.proofs.Words.{position_any, index_neg}
use Rattle.session.proofs.memory.Memory.any_marked.Goals as goal

pub returns : goal.returns
returns c =
    let n = c.args.self.now.layout.variables in
    let ws = c.args.self.now.words.now in
    let C = c.args.literals.now in
    c.is_some.ensures ∙ ap is_some c.first_marked.ensures ∙ position_any (marked n ws) C ∙ ap (λ test. any_pass test C) (fun_ext (λ l. ap (marked_index n ws) (sym (index_neg l))))
