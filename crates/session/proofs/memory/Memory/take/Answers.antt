use Rattle.std.proofs.Common.{◌≡◌, true, get_or, pos, refl, sym, subst, w32, SFits, arith, rules}
use Rattle.std.proofs.lemmas.Int.{to_z-of_z}
use Rattle.rules.specs.Literals.{in_range}
use Rattle.theory.specs.Trail.{Entry.assumed, Entry.decided}
use Rattle.theory.specs.Search.{Kind.assuming, Kind.deciding, Kind.implying, Kind.conflicting, placed}
use Rattle.session.specs.Words.{word_at, clause_at}
use Rattle.session.specs.Decode.{literal_at}
use Rattle.session.specs.Memories.{trail_in, position_in, clause_in}
use Rattle.session.specs.Plans.{Ready, Taken}
use Rattle.session.proofs.Words.{words_all}
use Rattle.session.proofs.Asserting.{unit_placeable}
use Rattle.session.proofs.Stepping.{chunk_most}
use Rattle.session.proofs.memory.Memory.take.Goals as goal

pub returns-in-Assume-clause-taken : goal.returns-in-Assume-clause-taken
returns-in-Assume-clause-taken c =
    let m = c.args.self.now in
    let p = position_in c.place.new.self in
    let l = get_or m.words.now c.in-Assume.number (pos 0) in
    let fits : SFits w32 l = search rules in
    subst (λ step. Taken m step assuming 0 p) (sym c.in-Assume.is)
    (record { kind = refl; none = refl; leads = subst (λ x. p ≡ placed (position_in m) (assumed x)) (to_z-of_z w32 l fits) c.place.ensures.placed })

pub returns-in-Decide-clause-taken : goal.returns-in-Decide-clause-taken
returns-in-Decide-clause-taken c =
    let m = c.args.self.now in
    let p = position_in c.place-in-Decide.new.self in
    let l = c.in-Decide.literal in
    let fits : SFits w32 l = search rules in
    subst (λ step. Taken m step deciding 0 p) (sym c.in-Decide.is)
    (record { kind = refl; none = refl; leads = subst (λ x. p ≡ placed (position_in m) (decided x)) (to_z-of_z w32 l fits) c.place-in-Decide.ensures.placed })

pub imply-requires-clause-placeable : goal.imply-requires-clause-placeable
imply-requires-clause-placeable c =
    let m = c.args.self.now in
    let n = m.layout.variables in
    let ws = m.words.now in
    let k = c.in-Imply.count in
    let u = subst (Ready m) c.in-Imply.is c.requires.ready in
    unit_placeable n (trail_in m) (clause_in m k) (words_all (λ l. in_range n l ≡ true) ws (clause_at n 0) k u.ranged) (word_at ws (clause_at n c.in-Imply.at)) u.stands

pub returns-in-Imply-clause-taken : goal.returns-in-Imply-clause-taken
returns-in-Imply-clause-taken c =
    let m = c.args.self.now in
    subst (λ step. Taken m step implying 0 (position_in c.imply.new.self)) (sym c.in-Imply.is) (record { kind = refl; none = refl; leads = c.imply.ensures.placed })

pub returns-in-Repair-clause-taken : goal.returns-in-Repair-clause-taken
returns-in-Repair-clause-taken c =
    let m = c.args.self.now in
    subst (λ step. Taken m step conflicting c.repair.result (position_in c.repair.new.self)) (sym c.in-Repair.is) (record { kind = refl; many = c.repair.ensures.undone; leads = c.repair.ensures.repairs })

pub returns-in-Repair-clause-few : goal.returns-in-Repair-clause-few
returns-in-Repair-clause-few c =
    let m = c.args.self.now in
    let many = c.repair.ensures.undone in
    let most = chunk_most m.layout.variables m.layout.slots m.extent.trail m.words.now m.sound.coherent (literal_at m.layout.variables m.words.now c.in-Repair.root) in
    omega arith
