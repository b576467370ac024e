use Rattle.std.proofs.Common.{◌-◌, ◌*◌, refl, subst, arith, rules}
use Rattle.rules.specs.Sources.{LawfulAt}
use Rattle.session.proofs.Asking.{asked}
use Rattle.session.proofs.Planning.{frame_sound}
use Rattle.session.proofs.memory.Memory.ask.Goals as goal

pub invariant_of-self : goal.invariant_of-self
invariant_of-self g c =
    let s = g.S.Source.meaning c.args.source.now in
    let m = c.args.self.now in
    let n = m.layout.variables in
    let h = asked n _ _ _ m.sound.coherent s (subst (λ k. LawfulAt k s) c.requires (g.met.S.Source.lawful c.args.source.now)) (5 * n - 3 * n) (omega arith) c.requires c.question.result c.question.new.page c.question.ensures.told c.question.ensures.page in
    record { sound = frame_sound m (4 * n) n _ (omega arith) (omega arith) h.outside (search rules) }

pub returns : goal.returns
returns g c =
    let s = g.S.Source.meaning c.args.source.now in
    let m = c.args.self.now in
    let n = m.layout.variables in
    let h = asked n _ _ _ m.sound.coherent s (subst (λ k. LawfulAt k s) c.requires (g.met.S.Source.lawful c.args.source.now)) (5 * n - 3 * n) (omega arith) c.requires c.question.result c.question.new.page c.question.ensures.told c.question.ensures.page in
    record { told = h.told; whole = h.whole; frame = record { layout = refl; extent = refl; size = search rules; outside = h.outside } }
