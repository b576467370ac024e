use Rattle.std.proofs.Common.{◌≡◌, ◌-◌, ◌≤◌, length, replicate}
use Rattle.session.specs.Guides.{guided}
use Rattle.session.specs.Memories.{position_in, Keeps}
use Rattle.session.specs.Reports.{report_of, Sized}
use Rattle.session.proofs.Driving.{Onward}
use Rattle.session.proofs.progress.Progress.drive.Given as goal

abbrev pub invariant-loop-end : goal.invariant-loop-end
invariant-loop-end g l = record {
  onward : Onward l.initial.self.memory.layout.variables l.initial.self.memory.layout.slots
      (guided (g.S.Source.meaning l.guide.source.now) l.guide.preferences.now g.W.Weight.Order.at_most g.W.Weight.Scale.zero g.W.Weight.Scale.plus (g.W.Weigher.weight l.guide.weigher.now))
      l.limit (position_in l.initial.self.memory) (l.limit - l.report.steps) (position_in l.self.memory) (report_of l.report);
  keeps : Keeps l.initial.self.memory l.self.memory;
  sized : Sized l.report;
  within : l.report.steps ≤ l.limit;
  clear : l.scratch ≡ replicate (length l.initial.scratch) 0;
}

abbrev pub decreases-loop-end : goal.decreases-loop-end
decreases-loop-end g l = l.limit - l.report.steps
