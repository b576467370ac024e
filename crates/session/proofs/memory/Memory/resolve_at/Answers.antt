use Rattle.std.proofs.Common.{◌≡◌, true, ◌||◌, sym, ap, ◌∙◌, subst, arith, rules, ◌+◌}
use Rattle.weights.specs.declared.weigher.Standing.TheVariants.{Implied}
use Rattle.theory.proofs.Trails.{AllFalse}
use Rattle.session.specs.Words.{word_at, row_at}
use Rattle.session.specs.Decode.{stands, trail_of, marked_index}
use Rattle.session.specs.Analysis.{held, names_index}
use Rattle.session.proofs.Decode.{front_formed, reason_false}
use Rattle.session.proofs.Resolving.{hit_some, forgotten, replaced, both_few}
use Rattle.session.proofs.memory.Memory.resolve_at.Goals as goal

pub include_all-requires-clause-formed : goal.include_all-requires-clause-formed
include_all-requires-clause-formed c =
    let m = c.args.self.now in
    let h = c.requires.within in
    front_formed m.layout.variables m.extent.trail m.words.now m.sound.coherent.formed c.args.place (omega arith)

pub include_all-requires-clause-falsified : goal.include_all-requires-clause-falsified
include_all-requires-clause-falsified c =
    let m = c.args.self.now in
    let n = m.layout.variables in
    let ws = m.words.now in
    subst (AllFalse (trail_of n c.args.place ws)) (sym c.reason.ensures)
    (reason_false n m.extent.trail ws m.sound.coherent.formed c.args.place c.requires.within c.variable-x.result c.variable-x.ensures.is (search rules))

pub overflow_add-result : goal.overflow_add-result
overflow_add-result c =
    let m = c.args.self.now in
    let n = m.layout.variables in
    let K = marked_index n m.words.now in
    let f = both_few K (held c.args.scratch.now) n (c.args.place + 1) m.words.now in
    let g = both_few K (held c.include_all.new.scratch) n c.args.place m.words.now in
    let t = c.requires.touching in
    let a = c.include_all.ensures.new in
    let p = c.requires.within in
    let fits = m.sound.coherent.fits in
    let z = m.layout.small in
    search rules

pub returns-clause-touching : goal.returns-clause-touching
returns-clause-touching c =
    let m = c.args.self.now in
    let B = held c.args.scratch.now in
    let C = held c.forget.new.scratch in
    let h = sym c.if-not-is_hit.ensures in
    let s = hit_some _ _ _ _ m.sound.coherent _ c.requires.within _ c.variable-x.ensures.is B _ h c.requires.touching in
    let f = forgotten _ _ _ _ m.sound.coherent _ c.requires.within _ c.variable-x.ensures.is B C c.forget.ensures in
    let a = c.include_all.ensures.new in
    omega arith

pub returns-clause-set : goal.returns-clause-set
returns-clause-set c =
    let m = c.args.self.now in
    let n = m.layout.variables in
    let B = held c.args.scratch.now in
    let C = held c.forget.new.scratch in
    let D = held c.include_all.new.scratch in
    let h = sym c.if-not-is_hit.ensures in
    let implied : stands (word_at m.words.now (row_at n c.variable-x.result 0)) Implied ≡ true = search rules in
    replaced _ _ _ _ m.sound.coherent _ c.requires.within _ c.variable-x.ensures.is B C D h implied c.forget.ensures
    (λ y. c.include_all.ensures.held y ∙ ap (λ xs. C y || names_index xs y) c.reason.ensures)
