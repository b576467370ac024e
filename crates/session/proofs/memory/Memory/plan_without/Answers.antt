use Rattle.std.proofs.Common.{sym, ◌∙◌, w32, SFits, rules}
use Rattle.std.proofs.lemmas.Int.{to_z-of_z}
use Rattle.theory.specs.Trail.{Entry.decided}
use Rattle.theory.specs.Search.{Kind.deciding}
use Rattle.session.specs.Guides.{guided}
use Rattle.session.specs.Memories.{position_in}
use Rattle.session.proofs.Planning.{placing_step, denial_planned, assumption_planned, decision_step, completion}
use Rattle.session.proofs.memory.Memory.plan_without.Goals as goal

pub returns-in-False : goal.returns-in-False
returns-in-False g c =
    let m = c.args.self.now in
    let e = m.extent in
    let i = c.in-Some.number in
    let f = c.in-Some.ensures in
    let guide = guided (g.S.Source.meaning c.args.guide.now.source.now) c.args.guide.now.preferences.now g.W.Weight.Order.at_most g.W.Weight.Scale.zero g.W.Weight.Scale.plus (g.W.Weigher.weight c.args.guide.now.weigher.now) in
    denial_planned m.layout.variables m.layout.slots e.assumptions e.trail e.slots m.words.now m.sound i f.within f.first guide c.requires
    (sym (c.in-False.ensures))

pub returns-in_default : goal.returns-in_default
returns-in_default g c =
    let m = c.args.self.now in
    let e = m.extent in
    let i = c.in-Some.number in
    let f = c.in-Some.ensures in
    assumption_planned m.layout.variables m.layout.slots e.assumptions e.trail e.slots m.words.now m.sound i f.within f.first _ c.requires
    (λ v. c.in_default.not-False (c.assumption_value.ensures ∙ v))

pub returns-in-Some-next_decision : goal.returns-in-Some-next_decision
returns-in-Some-next_decision g c =
    let m = c.args.self.now in
    let n = m.layout.variables in
    let L = m.layout.slots in
    let p = position_in m in
    let l = c.in-Some-next_decision.literal in
    let fits : SFits w32 l = search rules in
    let d = c.next_decision.ensures.decides in
    rw (to_z-of_z w32 l fits) (
      c.next_decision.ensures.unassigned l c.in-Some-next_decision.is,
      λ k undone p'. placing_step n L _ p (decided l) deciding k undone p' (decision_step n L _ p c.requires l c.in-None.ensures.first c.next_decision.result c.in-Some-next_decision.is d),
    )

pub returns-in-None-next_decision : goal.returns-in-None-next_decision
returns-in-None-next_decision g c =
    let m = c.args.self.now in
    let guide = guided (g.S.Source.meaning c.args.guide.now.source.now) c.args.guide.now.preferences.now g.W.Weight.Order.at_most g.W.Weight.Scale.zero g.W.Weight.Scale.plus (g.W.Weigher.weight c.args.guide.now.weigher.now) in
    (tt, completion m.layout.variables m.layout.slots guide (position_in m) c.requires c.in-None.ensures.first c.next_decision.result c.in-None-next_decision.is c.next_decision.ensures.decides)
