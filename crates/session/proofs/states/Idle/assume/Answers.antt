use Rattle.std.proofs.Common.{◌≡◌, ◌<◌, true, false, [], ◌∷◌, ◌++◌, length, sym, ap, ◌∙◌, subst, arith, w32, to_z, of_z, rules}
use Rattle.std.proofs.lemmas.Int.{to_z-of_z}
use Rattle.rules.specs.Literals.{in_range}
use Rattle.session.specs.Sessions.{standing}
use Rattle.session.proofs.Calling.{standing_long, joined, joined_ranged, outside_promised, full_promised, joined_promised, full_answer, joined_answer}
use Rattle.session.proofs.states.Idle.assume.Goals as goal

pub returns-then-not-is_in_range-clause-promised : goal.returns-then-not-is_in_range-clause-promised
returns-then-not-is_in_range-clause-promised c =
    let s = c.args.self.now in
    let l = c.args.literal in
    let out : in_range s.layout.variables l ≡ false = search rules in
    outside_promised s.layout.variables s.layout.slots (standing s) l out

pub returns-then-self-clause-answer : goal.returns-then-self-clause-answer
returns-then-self-clause-answer c =
    let s = c.args.self.now in
    let n = s.layout.variables in
    let r : in_range n c.args.literal ≡ true = search rules in
    let long = standing_long s.assumptions s.words.now in
    let h = c.if-self.true in
    full_answer n s.layout.slots (standing s) c.args.literal (length (standing s)) r (omega arith)

pub returns-then-self-clause-promised : goal.returns-then-self-clause-promised
returns-then-self-clause-promised c =
    let s = c.args.self.now in
    let n = s.layout.variables in
    let r : in_range n c.args.literal ≡ true = search rules in
    let long = standing_long s.assumptions s.words.now in
    let h = c.if-self.true in
    full_promised n s.layout.slots (standing s) c.args.literal r (omega arith)

pub invariant_of-self : goal.invariant_of-self
invariant_of-self c =
    let s = c.args.self.now in
    let n = s.layout.variables in
    let l = c.args.literal in
    let r : in_range n l ≡ true = search rules in
    let room = s.room in
    let few = c.if-self.false in
    let within : s.assumptions < length s.words.now = omega arith in
    let r' = subst (λ x. in_range n x ≡ true) (sym (to_z-of_z w32 l c.ranges.literal)) r in
    record { room = search rules; few = omega arith; ranged = joined_ranged n s.assumptions s.words.now (to_z w32 (of_z w32 l)) within s.ranged r' }

pub returns-clause-answer : goal.returns-clause-answer
returns-clause-answer c =
    let s = c.args.self.now in
    let n = s.layout.variables in
    let r : in_range n c.args.literal ≡ true = search rules in
    let few = c.if-self.false in
    let long = standing_long s.assumptions s.words.now in
    joined_answer n s.layout.slots (standing s) c.args.literal (length (standing s)) r (omega arith)

pub returns-clause-assumptions : goal.returns-clause-assumptions
returns-clause-assumptions c =
    let s = c.args.self.now in
    let l = c.args.literal in
    let room = s.room in
    let few = c.if-self.false in
    joined s.assumptions s.words.now (to_z w32 (of_z w32 l)) (omega arith) ∙ ap (λ x. standing s ++ (x ∷ [])) (to_z-of_z w32 l c.ranges.literal)

pub returns-clause-promised : goal.returns-clause-promised
returns-clause-promised c =
    let s = c.args.self.now in
    let n = s.layout.variables in
    let l = c.args.literal in
    let r : in_range n l ≡ true = search rules in
    let room = s.room in
    let few = c.if-self.false in
    let long = standing_long s.assumptions s.words.now in
    let more = joined s.assumptions s.words.now (to_z w32 (of_z w32 l)) (omega arith) ∙ ap (λ x. standing s ++ (x ∷ [])) (to_z-of_z w32 l c.ranges.literal) in
    joined_promised n s.layout.slots (standing s) l r (omega arith) _ more
