use Rattle.session.specs.declared.report.Verdict.TheVariants.{Model}
use Rattle.std.proofs.Common.{◌≡◌, ◌≢◌, rules}
use Rattle.std.proofs.Common.{◌≡◌, suc, ◌-◌, ◌≤◌, false, pos, ap, ◌∙◌, arith}
use Rattle.rules.specs.Literals.{in_range}
use Rattle.rules.proofs.Literals.{bounds_range}
use Rattle.theory.specs.Trail.{on}
use Rattle.session.specs.Decode.{trail_of}
use Rattle.session.proofs.Calling.{range_low, range_high, no_model_promised, no_value_promised, value_promised}
use Rattle.session.proofs.states.Settled.value.Goals as goal
use Rattle.session.proofs.states.Settled.value.Goals.{then-variable-eq0-via-then-variable-eq0, then-variable-eq0-via-else-variable-eq0+then-variable-self}

pub returns-then-ne-clause-promised : goal.returns-then-ne-clause-promised
returns-then-ne-clause-promised c =
    let other : c.args.self.now.progress.verdict ≢ Model = search rules in
    (no_model_promised c.args.self.now c.args.variable other).1

pub returns-then-variable-eq0-clause-promised : goal.returns-then-variable-eq0-clause-promised
returns-then-variable-eq0-clause-promised c =
    let s = c.args.self.now in
    let is : s.progress.verdict ≡ Model = search rules in
    let n = s.progress.memory.layout.variables in
    let v = c.args.variable in
    let out : in_range n (pos v) ≡ false = elim c.then-variable-eq0.branch [
      | then-variable-eq0-via-then-variable-eq0 w ↦ range_low n v w.if-variable-eq0.true
      | then-variable-eq0-via-else-variable-eq0+then-variable-self w ↦ range_high n v w.if-variable-self.true
    ] in
    let h = no_value_promised s v is out in
    h.1

pub returns : goal.returns
returns c =
    let s = c.args.self.now in
    let is : s.progress.verdict ≡ Model = search rules in
    let n = s.progress.memory.layout.variables in
    let v = c.args.variable in
    let some = c.if-variable-eq0.false in
    let most = c.if-variable-self.false in
    let low : 1 ≤ v = omega arith in
    let r = bounds_range n (pos v) low most in
    let next : suc (v - 1) ≡ v = omega arith in
    let h = value_promised s v is r c.is_true.result (c.is_true.ensures ∙ ap (λ w. on (trail_of n s.progress.memory.extent.trail s.progress.memory.words.now) (pos w)) next) in
    record { answer = h.0; promised = h.1 }
