use Rattle.std.proofs.Common.{◌≡◌, true, length, All, ◌*◌, refl, sym, ap, ◌∙◌, subst, arith, position}
use Rattle.std.specs.Option.{is_some}
use Rattle.rules.specs.Literals.{in_range, any_pass}
use Rattle.theory.specs.Trail.{Entry.implied, Placeable}
use Rattle.theory.specs.Chunks.{chunk}
use Rattle.theory.specs.Conflict.{learned, others_of, written}
use Rattle.session.specs.Words.{word_at, clause_at}
use Rattle.session.specs.Decode.{literal_at, clause_of, unmarked, marked}
use Rattle.session.specs.InUse.{trail_at, position_at}
use Rattle.session.specs.Memories.{trail_in, position_in, clause_in}
use Rattle.session.specs.Repair.{Repairs}
use Rattle.session.proofs.Words.{position_any}
use Rattle.session.proofs.Decode.{length_trail}
use Rattle.session.proofs.Planning.{rebased, margin_position}
use Rattle.session.proofs.Repairing.{Resolved, Found, first_left, left_all, touching_left, closed, same_learned, entry_is, placeable, undone_count, repairs}
use Rattle.session.proofs.memory.Memory.repair.Goals as goal
use Rattle.session.proofs.memory.Memory.repair.Goals.{After-analyse-left, After-unwrap-at, After-undo_marked-undone}

-- what the analysis leaves, by the layout and the extent that it leaves
resolved : (c : goal.After-analyse-left)
    → Resolved c.analyse-left.new.self.layout.variables c.analyse-left.new.self.layout.slots c.analyse-left.new.self.extent.assumptions c.analyse-left.new.self.extent.trail c.analyse-left.new.self.extent.slots
    c.args.k c.analyse-left.result c.args.root c.analyse-left.ensures.left.0 c.args.self.now.words.now c.analyse-left.new.self.words.now
resolved c =
    let m = c.args.self.now in
    let mid = c.analyse-left.new.self in
    let a = c.analyse-left.ensures in
    rebased mid m (sym a.frame.layout) (sym a.frame.extent) (λ y e. Resolved y.variables y.slots e.assumptions e.trail e.slots c.args.k c.analyse-left.result c.args.root a.left.0 m.words.now mid.words.now)
    record {
      sound = m.sound;
      few = a.few;
      decision = c.requires.conflict.touched.decision;
      conflict = c.requires.conflict.stands;
      touching = c.requires.conflict.touched.touching;
      analysed = a.left.1;
      clause = a.left.2;
      marks = a.marked;
      frame = a.frame.outside;
    }

pub first_marked-requires : goal.first_marked-requires
first_marked-requires c = subst (All (λ l. in_range c.analyse-left.new.self.layout.variables l ≡ true)) (sym c.clause.ensures) (left_all _ _ _ _ _ _ _ _ _ _ _ (resolved (goal.at.first_marked-requires c).After-analyse-left))

pub unwrap-at-requires : goal.unwrap-at-requires
unwrap-at-requires c =
    let mid = c.analyse-left.new.self in
    let test = marked mid.layout.variables mid.words.now in
    ap is_some c.first_marked.ensures ∙ position_any test c.clause.result.now ∙ ap (any_pass test) c.clause.ensures ∙ touching_left _ _ _ _ _ _ _ _ _ _ _ (resolved (goal.at.unwrap-at-requires c).After-analyse-left)

-- the literal to place
found : (c : goal.After-unwrap-at)
    → Found c.analyse-left.new.self.layout.variables c.analyse-left.new.self.layout.slots c.analyse-left.new.self.extent.assumptions c.analyse-left.new.self.extent.trail c.analyse-left.new.self.extent.slots
    c.args.k c.analyse-left.result c.args.root c.unwrap-at.result c.analyse-left.ensures.left.0 c.args.self.now.words.now c.analyse-left.new.self.words.now
found c =
    let mid = c.analyse-left.new.self in
    let test = marked mid.layout.variables mid.words.now in
    let p = first_left mid.layout.variables c.analyse-left.result c.unwrap-at.result mid.words.now (ap (position test) (sym c.clause.ensures) ∙ sym c.first_marked.ensures ∙ c.unwrap-at.ensures) in
    record { resolved = resolved (goal.at.After-unwrap-at c).After-analyse-left; within = p.0; found = p.1 }

pub undo_marked-undone-requires : goal.undo_marked-undone-requires
undo_marked-undone-requires c = closed _ _ _ _ _ _ _ _ _ _ _ _ (found (goal.at.undo_marked-undone-requires c).After-unwrap-at)

pub imply-requires-clause-among : goal.imply-requires-clause-among
imply-requires-clause-among c = (found (goal.at.imply-requires-clause-among c).After-unwrap-at).within

pub imply-requires-clause-placeable : goal.imply-requires-clause-placeable
imply-requires-clause-placeable c =
    let u = c.undo_marked-undone.ensures in
    let mid = c.undo_marked-undone.new.self in
    let at = c.unwrap-at.result in
    subst (λ y. Placeable y.variables (trail_in mid) (implied (word_at mid.words.now (clause_at y.variables at)) (others_of (word_at mid.words.now (clause_at y.variables at)) (clause_of y.variables c.analyse-left.result mid.words.now))))
    (sym u.keeps.layout) (placeable _ _ _ _ _ _ _ _ _ _ _ _ (found (goal.at.imply-requires-clause-placeable c).After-unwrap-at) mid.words.now u.outside (trail_in mid) (ap (λ p. p.trail) u.position))

-- the clause in hand is the learned one
left_in_hand : (c : goal.After-undo_marked-undone) → clause_in c.undo_marked-undone.new.self c.analyse-left.result ≡ learned c.analyse-left.new.self.layout.variables c.analyse-left.ensures.left.0
left_in_hand c =
    let u = c.undo_marked-undone.ensures in
    let mid = c.undo_marked-undone.new.self in
    ap (λ y. clause_of y.variables c.analyse-left.result mid.words.now) u.keeps.layout ∙ same_learned _ _ _ _ _ _ _ _ _ _ _ _ (found (goal.at.After-undo_marked-undone c).After-unwrap-at) mid.words.now u.outside

pub learn-requires-clause-ranged : goal.learn-requires-clause-ranged
learn-requires-clause-ranged c =
    let mid = c.analyse-left.new.self in
    let same = c.imply.ensures.keeps.layout ∙ c.undo_marked-undone.ensures.keeps.layout in
    let is = c.imply.ensures.clause ∙ left_in_hand (goal.at.learn-requires-clause-ranged c).After-undo_marked-undone in
    let h = resolved (goal.at.learn-requires-clause-ranged c).After-analyse-left in
    subst (λ y. All (λ l. in_range y.variables l ≡ true) (clause_in c.imply.new.self c.analyse-left.result)) (sym same)
    (subst (All (λ l. in_range mid.layout.variables l ≡ true)) (h.clause ∙ sym is) (left_all _ _ _ _ _ _ _ _ _ _ _ h))

pub returns-clause-repairs : goal.returns-clause-repairs
returns-clause-repairs c =
    let m = c.args.self.now in
    let mid = c.analyse-left.new.self in
    let n = mid.layout.variables in
    let f = c.analyse-left.ensures.frame in
    let g = found (goal.at.returns-clause-repairs c).After-unwrap-at in
    let u = c.undo_marked-undone.ensures in
    let undone = c.undo_marked-undone.new.self in
    let p = position_at mid.layout mid.extent m.words.now in
    let same = margin_position n mid.layout.slots mid.extent.assumptions mid.extent.trail mid.extent.slots (4 * n) (2 * n) m.words.now mid.words.now (omega arith) (omega arith) g.resolved.sound g.resolved.frame in
    let at = c.unwrap-at.result in
    let k = c.analyse-left.result in
    let e = implied (word_at undone.words.now (clause_at undone.layout.variables at)) (others_of (word_at undone.words.now (clause_at undone.layout.variables at)) (clause_in undone k)) in
    let entry = ap (λ y. implied (word_at undone.words.now (clause_at y.variables at)) (others_of (word_at undone.words.now (clause_at y.variables at)) (clause_of y.variables k undone.words.now))) u.keeps.layout
    ∙ entry_is _ _ _ _ _ _ _ _ _ _ _ _ g undone.words.now u.outside in
    let second : position_in undone ≡ record { assumptions = p.assumptions; trail = unmarked n mid.words.now (trail_in mid); slots = p.slots }
    = u.position ∙ (λ i. record { assumptions = (same i).assumptions; trail = unmarked n mid.words.now (trail_in mid); slots = (same i).slots }) in
    let third = position_in c.imply.new.self in
    let layout = c.imply.ensures.keeps.layout ∙ u.keeps.layout in
    let fourth = c.learn.ensures.position ∙ ap (λ y. record { assumptions = third.assumptions; trail = third.trail; slots = written y.slots third.slots (clause_in c.imply.new.self k) }) layout in
    rebased m mid f.layout f.extent (λ y x. Repairs y.variables y.slots (position_at y x m.words.now) (clause_of y.variables c.args.k m.words.now) (literal_at y.variables m.words.now c.args.root) (position_in c.learn.new.self))
    (repairs _ _ _ _ _ _ _ _ _ _ _ _ g p (position_in undone) third (position_in c.learn.new.self) e (clause_in undone k) (clause_in c.imply.new.self k) refl second entry c.imply.ensures.placed
    c.imply.ensures.clause (left_in_hand (goal.at.returns-clause-repairs c).After-undo_marked-undone) fourth)

pub returns-clause-undone : goal.returns-clause-undone
returns-clause-undone c =
    let m = c.args.self.now in
    let mid = c.analyse-left.new.self in
    let f = c.analyse-left.ensures.frame in
    let g = found (goal.at.returns-clause-undone c).After-unwrap-at in
    let u = c.undo_marked-undone.ensures in
    let undone = c.undo_marked-undone.new.self in
    rebased m mid f.layout f.extent (λ y x. c.undo_marked-undone.result ≡ length (chunk (trail_at y x m.words.now) (literal_at y.variables m.words.now c.args.root)))
    (undone_count _ _ _ _ _ _ _ _ _ _ _ _ g c.undo_marked-undone.result undone.extent.trail u.undone
    (sym (ap (λ p. length p.trail) u.position) ∙ length_trail undone.layout.variables undone.extent.trail undone.words.now))
