use Rattle.std.proofs.Common.{◌-◌, ◌<◌, replicate, sym, ap, ◌∙◌, subst, arith}
use Rattle.theory.specs.Search.{Ends, Step}
use Rattle.theory.specs.Run.{no_steps, added}
use Rattle.session.specs.Guides.{guided}
use Rattle.session.specs.Memories.{position_in}
use Rattle.session.specs.Reports.{kind_of, undone_by, report_of}
use Rattle.session.specs.Plans.{verdict_at, names_at}
use Rattle.session.specs.Searches.{search_in}
use Rattle.session.proofs.Driving.{Onward, onward_step, onward_end, onward_pause, ready_kind}
use Rattle.session.proofs.progress.Progress.drive.Goals as goal

pub returns-in-Break-clause-goes : goal.returns-in-Break-clause-goes
returns-in-Break-clause-goes g c =
    let m = c.args.self.now.memory in
    let n = m.layout.variables in
    let L = m.layout.slots in
    let guide = guided (g.S.Source.meaning c.args.guide.now.source.now) c.args.guide.now.preferences.now g.W.Weight.Order.at_most g.W.Weight.Scale.zero g.W.Weight.Scale.plus (g.W.Weigher.weight c.args.guide.now.weigher.now) in
    let mid = c.next_plan.new.self in
    let left = c.args.limit - c.loop-end.report.steps in
    let a = report_of c.loop-end.report in
    let i = c.loop-end.invariant in
    let same = c.next_plan.ensures.keeps.layout ∙ i.keeps.layout in
    let on = subst (λ p. Onward n L guide c.args.limit (position_in m) left p a) (sym c.next_plan.ensures.position) i.onward in
    let v = verdict_at c.in-Break.end in
    let ns = names_at mid c.in-Break.end in
    let ends = subst (λ y. Ends y.variables guide.source (position_in mid) v ns) same c.in-Break.ensures.planned.1 in
    let concluded = c.conclude.ensures.search in
    onward_end n L guide c.args.limit left (position_in m) (position_in mid) a on v ns ends
    (report_of c.ending_with.result) (c.ending_with.ensures.report ∙ ap (λ x. added a (no_steps x)) (ap (λ q. q.verdict) concluded)) (search_in c.conclude.new.self) concluded

pub returns-then-report-limit-clause-goes : goal.returns-then-report-limit-clause-goes
returns-then-report-limit-clause-goes g c =
    let m = c.args.self.now.memory in
    let n = m.layout.variables in
    let L = m.layout.slots in
    let guide = guided (g.S.Source.meaning c.args.guide.now.source.now) c.args.guide.now.preferences.now g.W.Weight.Order.at_most g.W.Weight.Scale.zero g.W.Weight.Scale.plus (g.W.Weigher.weight c.args.guide.now.weigher.now) in
    let mid = c.next_plan.new.self in
    let left = c.args.limit - c.loop-end.report.steps in
    let a = report_of c.loop-end.report in
    let i = c.loop-end.invariant in
    let used = c.if-report-limit.true in
    let same = c.next_plan.ensures.keeps.layout ∙ i.keeps.layout in
    let on = subst (λ p. Onward n L guide c.args.limit (position_in m) left p a) (sym c.next_plan.ensures.position) i.onward in
    let due = c.in-Continue.ensures.planned in
    let taken = ready_kind mid c.in-Continue.step due.0 in
    let step = subst (λ y. Step y.variables y.slots guide (position_in mid) taken.0 taken.1 taken.2) same (due.1 taken.0 taken.1 taken.2 taken.3) in
    onward_pause n L guide c.args.limit left (position_in m) (position_in mid) a on (omega arith) taken.0 taken.1 taken.2 step
    (report_of c.ending_with-then-report-limit.result) c.ending_with-then-report-limit.ensures.report

pub loop-end-preserved : goal.loop-end-preserved
loop-end-preserved g c =
    let m = c.args.self.now.memory in
    let n = m.layout.variables in
    let L = m.layout.slots in
    let guide = guided (g.S.Source.meaning c.args.guide.now.source.now) c.args.guide.now.preferences.now g.W.Weight.Order.at_most g.W.Weight.Scale.zero g.W.Weight.Scale.plus (g.W.Weigher.weight c.args.guide.now.weigher.now) in
    let mid = c.next_plan.new.self in
    let left = c.args.limit - c.loop-end.report.steps in
    let a = report_of c.loop-end.report in
    let i = c.loop-end.invariant in
    let most = i.within in
    let room = c.if-report-limit.false in
    let kept = c.next_plan.ensures.keeps in
    let same = kept.layout ∙ i.keeps.layout in
    let on = subst (λ p. Onward n L guide c.args.limit (position_in m) left p a) (sym c.next_plan.ensures.position) i.onward in
    let r = c.take.result in
    let p' = position_in c.take.new.self in
    let k = c.take.ensures.keeps in
    let step = subst (λ y. Step y.variables y.slots guide (position_in mid) (kind_of r) (undone_by r) p') same (c.in-Continue.ensures.planned.1 (kind_of r) (undone_by r) p' c.take.ensures.taken) in
    let more = c.count.ensures.steps in
    let some : 0 < left = omega arith in
    record {
      onward = onward_step n L guide c.args.limit left (position_in m) (position_in mid) a on (kind_of r) (undone_by r) p' step some (c.args.limit - c.count.new.self.steps) (omega arith)
          (report_of c.count.new.self) c.count.ensures.report;
      keeps = record { layout = k.layout ∙ same; assumptions = k.assumptions ∙ kept.assumptions ∙ i.keeps.assumptions; size = k.size ∙ kept.size ∙ i.keeps.size };
      sized = c.count.ensures.sized;
      within = omega arith;
      clear = c.take.ensures.clear ∙ ap (λ b. replicate b 0) c.loop-end.auto.scratch;
    }
