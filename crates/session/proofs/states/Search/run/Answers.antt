use Rattle.std.proofs.Common.{length, refl, sym, ◌∙◌}
use Rattle.session.specs.Reports.{report_of}
use Rattle.session.specs.Searches.{search_in}
use Rattle.session.proofs.Running.{other_promised, short_promised, again_promised, goes_promised}
use Rattle.session.proofs.states.Search.run.Goals as goal

pub returns-then-variables-self-clause-promised : goal.returns-then-variables-self-clause-promised
returns-then-variables-self-clause-promised g c =
    let p = c.args.self.now.progress in
    let layout = p.memory.layout in
    other_promised layout.variables layout.slots c.args.limit _ (length c.args.scratch.now) (search_in p) (λ e. c.if-variables-self.true (c.variables.ensures ∙ e))

pub returns-then-scratch-self-clause-promised : goal.returns-then-scratch-self-clause-promised
returns-then-scratch-self-clause-promised g c =
    let p = c.args.self.now.progress in
    let layout = p.memory.layout in
    short_promised layout.variables layout.slots c.args.limit _ (length c.args.scratch.now) (search_in p) (sym c.variables.ensures ∙ c.if-variables-self.false) c.if-scratch-self.true

pub returns-then-has_ended-clause-promised : goal.returns-then-has_ended-clause-promised
returns-then-has_ended-clause-promised g c =
    let p = c.args.self.now.progress in
    let layout = p.memory.layout in
    again_promised layout.variables layout.slots c.args.limit _ (length c.args.scratch.now) (search_in p) (g.met.S.Source.lawful c.args.source.now) (sym c.variables.ensures ∙ c.if-variables-self.false) c.if-scratch-self.false
    p.verdict refl (sym c.if-has_ended.ensures) (report_of c.without_steps.result) c.without_steps.ensures.report

pub returns-clause-promised : goal.returns-clause-promised
returns-clause-promised g c =
    let p = c.args.self.now.progress in
    let layout = p.memory.layout in
    goes_promised layout.variables layout.slots c.args.limit _ (length c.args.scratch.now) (search_in p) (g.met.S.Source.lawful c.args.source.now) (sym c.variables.ensures ∙ c.if-variables-self.false) c.if-scratch-self.false
    p.verdict refl (sym c.if-has_ended.ensures) (report_of c.drive.result) (search_in c.drive.new.self) c.drive.ensures.goes
