use Rattle.std.proofs.Common.{◌≡◌, ◌+◌, ◌-◌, ◌<◌, ◌||◌, ap, ◌∙◌, subst, arith}
use Rattle.rules.specs.Literals.{has}
use Rattle.theory.proofs.Analysis.{analyse}
use Rattle.session.specs.Decode.{trail_of, marked_index, marked}
use Rattle.session.specs.Analysis.{held, set_of, names_index, both_count}
use Rattle.session.specs.Memories.{trail_in, clause_in}
use Rattle.session.proofs.Counting.{both_none, set_clause}
use Rattle.session.proofs.Resolving.{both_few, walk_on, walk_end}
use Rattle.session.proofs.memory.Memory.resolve.Goals as goal

pub loop-place-init : goal.loop-place-init
loop-place-init c =
    let m = c.args.self.now in
    let n = m.layout.variables in
    let t = trail_in m in
    let z = both_none (marked_index n m.words.now) (held c.args.scratch.now) t c.requires.clear in
    let a = c.include_all-touching.ensures.new in
    record {
      counts = omega arith;
      leads = ap (analyse (marked n m.words.now) t) (set_clause n t m.sound.coherent.formed (held c.include_all-touching.new.scratch) (clause_in m c.args.k) c.requires.falsified
          (λ x. c.include_all-touching.ensures.held x ∙ ap (λ b. b || names_index c.clause.result.now x) (c.requires.clear x) ∙ ap (λ C. names_index C x) c.clause.ensures));
    }

pub loop-place-preserved : goal.loop-place-preserved
loop-place-preserved c =
    let m = c.args.self.now in
    let n = m.layout.variables in
    let ws = m.words.now in
    let K = marked_index n ws in
    let B = held c.loop-place.scratch in
    let p = c.loop-place.place in
    let counts = c.loop-place.invariant.counts in
    let f = both_few K B n p ws in
    let e : p ≡ p - 1 + 1 = omega arith in
    let g : 1 < both_count K B (trail_of n p ws) = omega arith in
    record {
      counts = c.resolve_at-touching.ensures.touching;
      leads = walk_on _ _ _ _ m.sound.coherent _ (p - 1) (omega arith) B (held c.resolve_at-touching.new.scratch) (subst (λ z. 1 < both_count K B (trail_of n z ws)) e g)
          (subst (λ z. analyse (marked n ws) (trail_of n z ws) (set_of (trail_in m) B) ≡ analyse (marked n ws) (trail_in m) (has (clause_in m c.args.k))) e c.loop-place.invariant.leads)
          c.resolve_at-touching.ensures.set;
    }

pub returns-then-touching-le1 : goal.returns-then-touching-le1
returns-then-touching-le1 c =
    let e = c.loop-place.invariant.counts in
    walk_end _ _ _ _ c.args.self.now.sound.coherent _ _ c.loop-place.auto.place (held c.loop-place.scratch) (omega arith) c.loop-place.invariant.leads
