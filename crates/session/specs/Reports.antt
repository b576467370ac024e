-- Verdicts, reports and refusals: their numbers, and what they are of the theory.
use Rattle.std.specs.Prelude.{ℕ, ◌*◌, ◌≤◌, Bool, true, false, Some, None, Ok, Err, Option, Result}
use Rattle.theory.specs.Search.{Verdict as Found, Verdict.still_open, Verdict.paused, Verdict.model, Verdict.refuted, Kind as StepKind, Kind.assuming, Kind.deciding, Kind.implying, Kind.conflicting}
use Rattle.theory.specs.Run.{Report as RunReport}
use Rattle.theory.specs.Calls.{Reply, Reply.done, Reply.reported, Reply.said, Reply.refused}
use Rattle.session.specs.declared.report.Verdict.{Verdict}
use Rattle.session.specs.declared.report.Verdict.TheVariants.{Open, Paused, Model, Refuted}
use Rattle.session.specs.declared.report.Refusal.{Refusal}
use Rattle.session.specs.declared.report.Refusal.TheVariants.{Unfit, NoVariable, Full, OtherCount, ShortScratch, NoModel, NotRefuted}
use Rattle.session.specs.declared.report.Kind.{Kind}
use Rattle.session.specs.declared.report.Kind.TheVariants.{Assumed, Decided, Implied, Conflict}
use Rattle.session.specs.declared.report.Report.{Report}

abbrev pub verdict_of : Verdict → Found
verdict_of Open = still_open
verdict_of Paused = paused
verdict_of Model = model
verdict_of Refuted = refuted

-- the number of a verdict
abbrev pub verdict_number : Verdict → Option ℕ
verdict_number Open = None
verdict_number Paused = Some 0
verdict_number Model = Some 1
verdict_number Refuted = Some 2

abbrev pub has_ended : Verdict → Bool
has_ended Open = false
has_ended Paused = false
has_ended Model = true
has_ended Refuted = true

-- the number of a refusal
abbrev pub refusal_number : Refusal → ℕ
refusal_number Unfit = 1
refusal_number NoVariable = 2
refusal_number Full = 3
refusal_number OtherCount = 4
refusal_number ShortScratch = 5
refusal_number NoModel = 6
refusal_number NotRefuted = 7

abbrev pub kind_of : Kind → StepKind
kind_of Assumed = assuming
kind_of Decided = deciding
kind_of Implied = implying
kind_of (Conflict undone) = conflicting

-- how many literals a step undid
abbrev pub undone_by : Kind → ℕ
undone_by Assumed = 0
undone_by Decided = 0
undone_by Implied = 0
undone_by (Conflict undone) = undone

abbrev pub report_of : Report → RunReport
report_of r = record {
  verdict = verdict_of r.verdict;
  steps = r.steps;
  assumed = r.assumed;
  decided = r.decided;
  implied = r.implied;
  conflicts = r.conflicts;
  undone = r.undone;
}

-- the counts of a report are of its steps, each of which undid at most 1,000 literals
pub record Sized (r : Report) : Type 0 where
  pub assumed : r.assumed ≤ r.steps
  pub decided : r.decided ≤ r.steps
  pub implied : r.implied ≤ r.steps
  pub conflicts : r.conflicts ≤ r.steps
  pub undone : r.undone ≤ r.steps * 1000

-- what a call answers that is granted or refused, that answers yes or no, and what a run answers
abbrev pub granted_as : Result (Unit {0}) Refusal → Reply
granted_as (Ok unit) = done
granted_as (Err refusal) = refused (refusal_number refusal)

abbrev pub said_as : Result Bool Refusal → Reply
said_as (Ok b) = said b
said_as (Err refusal) = refused (refusal_number refusal)

abbrev pub reported_as : Result Report Refusal → Reply
reported_as (Ok report) = reported (report_of report)
reported_as (Err refusal) = refused (refusal_number refusal)

-- why a run was refused, if it was
abbrev pub refusal_of : Result Report Refusal → Option Refusal
refusal_of (Ok report) = None
refusal_of (Err refusal) = Some refusal
