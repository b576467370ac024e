use Rattle.std.proofs.Common.{◌≡◌, ◌*◌, true, sym, subst, arith}
use Rattle.rules.specs.Sources.{LawfulAt}
use Rattle.rules.proofs.Lists.{asserts}
use Rattle.theory.specs.Trail.{on}
use Rattle.session.specs.Decode.{clause_of}
use Rattle.session.specs.Memories.{trail_in, slots_in}
use Rattle.session.specs.Finding.{StandsSo}
use Rattle.session.proofs.Recalling.{look_asserting}
use Rattle.session.proofs.Planning.{same_position}
use Rattle.session.proofs.memory.Memory.look.Goals as goal

pub assertion_of-assertion-requires-clause-asserting : goal.assertion_of-assertion-requires-clause-asserting
assertion_of-assertion-requires-clause-asserting g c =
    let s = g.S.Source.meaning c.args.source.now in
    let m = c.args.self.now in
    let n = m.layout.variables in
    let mid = c.find.new.self in
    let k = c.in_ok-count.count in
    let f = c.find.ensures.frame in
    let C = clause_of n k mid.words.now in
    let told = look_asserting n s (subst (λ j. LawfulAt j s) c.requires (g.met.S.Source.lawful c.args.source.now)) (trail_in m) m.sound.coherent.formed (slots_in m) C c.in_ok-count.ensures.clause in
    subst (λ y. asserts (on (trail_in mid)) (clause_of y.variables k mid.words.now) ≡ true) (sym f.layout) (subst (λ p. asserts (on p.trail) C ≡ true) (sym (same_position (4 * n) n m mid f (omega arith) (omega arith))) told)

pub returns-clause-stands : goal.returns-clause-stands
returns-clause-stands g c =
    let m = c.args.self.now in
    let n = m.layout.variables in
    let mid = c.find.new.self in
    let k = c.in_ok-count.count in
    let f = c.find.ensures.frame in
    let a = c.assertion_of-assertion in
    let e = c.in_ok-count.ensures in
    record {
      few = e.whole.0;
      ranged = e.whole.1;
      stands = subst (λ y. StandsSo y.variables (trail_in m) mid.words.now k a.result) f.layout
          (subst (λ p. StandsSo mid.layout.variables p.trail mid.words.now k a.result) (same_position (4 * n) n m mid f (omega arith) (omega arith)) a.ensures);
    }
