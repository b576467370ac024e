use Rattle.std.proofs.Common.{◌+◌, ◌-◌, map, sym, ap, ◌∙◌, subst}
use Rattle.std.specs.List.{range_with_len}
use Rattle.rules.specs.Clauses.{status}
use Rattle.rules.proofs.ClauseTells.{is_falsified_kind, is_unit_kind, is_other_kind}
use Rattle.theory.specs.Trail.{on}
use Rattle.session.specs.Decode.{trail_of, slot_of}
use Rattle.session.specs.Learned.{learned_at, WithinCount}
use Rattle.session.proofs.Recalling.{recalled, rest_next, or_learned, or_within, recall_falsified, recall_unit, recall_other}
use Rattle.session.proofs.memory.Memory.first_slot.Goals as goal
use Rattle.session.proofs.memory.Memory.first_slot.Goals.{in-Unit, in-Other}

pub returns-in-Falsified-clause-first : goal.returns-in-Falsified-clause-first
returns-in-Falsified-clause-first c =
    let n = c.args.self.now.layout.variables in
    let ws = c.args.self.now.words.now in
    let t = trail_of n c.args.self.now.extent.trail ws in
    let s = c.loop-s.s in
    let C = slot_of n ws s in
    let found = learned_at n ws c.loop-s.unit in
    let rest = map (slot_of n ws) (range_with_len (s + 1) (c.args.self.now.extent.slots - (s + 1))) in
    sym (recall_falsified t found C rest (is_falsified_kind (status (on t) C) (sym c.in-Falsified.ensures)))
    ∙ ap (recalled t found) (sym (rest_next (slot_of n ws) s c.args.self.now.extent.slots c.loop-s-test.true)) ∙ c.loop-s.invariant.0

pub loop-s-preserved : goal.loop-s-preserved
loop-s-preserved c =
    let n = c.args.self.now.layout.variables in
    let ws = c.args.self.now.words.now in
    let t = trail_of n c.args.self.now.extent.trail ws in
    let s = c.loop-s.s in
    let C = slot_of n ws s in
    let unit = c.loop-s.unit in
    let found = learned_at n ws unit in
    let rest = map (slot_of n ws) (range_with_len (s + 1) (c.args.self.now.extent.slots - (s + 1))) in
    let step = ap (recalled t found) (sym (rest_next (slot_of n ws) s c.args.self.now.extent.slots c.loop-s-test.true)) ∙ c.loop-s.invariant.0 in
    elim c.match-slot_status.branch [
      | in-Unit w ↦
          let k = is_unit_kind (status (on t) C) (sym w.in-Unit.ensures) in
          let e = w.unit-is ∙ w.or-unit.ensures in (
            ap (λ o. recalled t o rest) (ap (learned_at n ws) e ∙ or_learned n ws unit s) ∙ sym (recall_unit t found C rest k.0 k.1) ∙ step,
            subst (WithinCount c.args.self.now.extent.slots) (sym e) (or_within c.args.self.now.extent.slots unit s c.loop-s.invariant.1 c.loop-s-test.true),
          )
      | in-Other w ↦
          let k = is_other_kind (status (on t) C) (sym w.in-Other.ensures) in (
            ap (λ o. recalled t (learned_at n ws o) rest) w.unit-is ∙ sym (recall_other t found C rest k.0 k.1) ∙ step,
            subst (WithinCount c.args.self.now.extent.slots) (sym w.unit-is) c.loop-s.invariant.1,
          )
    ]
