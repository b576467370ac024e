use Rattle.std.proofs.Common.{◌*◌, Some, None, sym, ◌∙◌, subst, arith}
use Rattle.theory.specs.Look.{Look}
use Rattle.theory.proofs.Looking.{look_looks}
use Rattle.session.specs.Decode.{clause_of}
use Rattle.session.specs.Finding.{FoundWhole}
use Rattle.session.specs.Memories.{position_in}
use Rattle.session.proofs.Planning.{same_position}
use Rattle.session.proofs.memory.Memory.next_plan.Goals as goal

pub plan_for-requires : goal.plan_for-requires
plan_for-requires g c =
    let m = c.args.self.now in
    let n = m.layout.variables in
    let mid = c.look.new.self in
    let f = c.look.ensures.frame in
    let e = c.in-Some.ensures in
    let found = c.in-Some.found in
    let s = g.S.Source.meaning c.args.guide.now.source.now in
    let same = sym (same_position (4 * n) n m mid f (omega arith) (omega arith)) in
    record {
      found = subst (λ y. FoundWhole y.variables (position_in mid).trail mid.words.now found) (sym f.layout) (subst (λ p. FoundWhole n p.trail mid.words.now found) same e.stands);
      look = subst (λ y. Look y.variables s (position_in mid) (Some (clause_of y.variables found.count mid.words.now))) (sym f.layout)
          (subst (λ p. Look n s p (Some (clause_of n found.count mid.words.now))) same (subst (Look n s (position_in m)) (sym e.found) (look_looks n s (position_in m))));
    }

pub plan_without-requires : goal.plan_without-requires
plan_without-requires g c =
    let m = c.args.self.now in
    let n = m.layout.variables in
    let mid = c.look.new.self in
    let f = c.look.ensures.frame in
    let s = g.S.Source.meaning c.args.guide.now.source.now in
    subst (λ y. Look y.variables s (position_in mid) None) (sym f.layout)
    (subst (λ p. Look n s p None) (sym (same_position (4 * n) n m mid f (omega arith) (omega arith))) (subst (Look n s (position_in m)) (sym c.in-None.ensures.found) (look_looks n s (position_in m))))

pub returns-in-Some-clause-position : goal.returns-in-Some-clause-position
returns-in-Some-clause-position g c =
    let m = c.args.self.now in
    let n = m.layout.variables in
    let f = c.look.ensures.frame in
    let e = c.plan_for.ensures in
    let k = e.keeps in
    e.position ∙ same_position (4 * n) n m c.look.new.self f (omega arith) (omega arith)

pub returns-in-None-clause-position : goal.returns-in-None-clause-position
returns-in-None-clause-position g c =
    let m = c.args.self.now in
    let n = m.layout.variables in
    let mid = c.look.new.self in
    let f = c.look.ensures.frame in
    same_position (4 * n) n m mid f (omega arith) (omega arith)
