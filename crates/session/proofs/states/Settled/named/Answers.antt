use Rattle.session.specs.declared.report.Verdict.TheVariants.{Refuted}
use Rattle.std.proofs.Common.{◌≡◌, ◌≢◌, rules}
use Rattle.std.proofs.Common.{◌≡◌, true, false, ◌||◌, sym, ap, ◌∙◌, subst, w32, rules}
use Rattle.std.proofs.lemmas.Int.{to_z-of_z}
use Rattle.rules.specs.Literals.{in_range, has}
use Rattle.session.specs.Searches.{failed_is}
use Rattle.session.proofs.Calling.{marked_roots, named_has, not_refuted_promised, no_name_promised, name_promised}
use Rattle.session.proofs.states.Settled.named.Goals as goal

pub returns-then-ne-clause-promised : goal.returns-then-ne-clause-promised
returns-then-ne-clause-promised c =
    let other : c.args.self.now.progress.verdict ≢ Refuted = search rules in
    (not_refuted_promised c.args.self.now c.args.literal other).1

pub returns-then-not-is_in_range-clause-promised : goal.returns-then-not-is_in_range-clause-promised
returns-then-not-is_in_range-clause-promised c =
    let s = c.args.self.now in
    let is : s.progress.verdict ≡ Refuted = search rules in
    let out : in_range s.progress.memory.layout.variables c.args.literal ≡ false = search rules in
    let h = no_name_promised s c.args.literal is out in
    h.1

pub returns-then-is_failed-clause-promised : goal.returns-then-is_failed-clause-promised
returns-then-is_failed-clause-promised c =
    let s = c.args.self.now in
    let is : s.progress.verdict ≡ Refuted = search rules in
    let l = c.args.literal in
    let r : in_range s.progress.memory.layout.variables l ≡ true = search rules in
    let yes = subst (λ x. failed_is s.progress.memory.words.now s.progress.failed x ≡ true) (to_z-of_z w32 l c.ranges.literal) (sym c.if-is_failed.ensures) in
    let named = named_has s l is ∙ ap (λ b. b || has (marked_roots s) l) yes in
    let h = name_promised s l is r c.is_failed.result (c.if-is_failed.true ∙ sym named) in
    h.1

pub returns-else-is_failed-clause-promised : goal.returns-else-is_failed-clause-promised
returns-else-is_failed-clause-promised c =
    let s = c.args.self.now in
    let is : s.progress.verdict ≡ Refuted = search rules in
    let l = c.args.literal in
    let r : in_range s.progress.memory.layout.variables l ≡ true = search rules in
    let no = subst (λ x. failed_is s.progress.memory.words.now s.progress.failed x ≡ false) (to_z-of_z w32 l c.ranges.literal) (sym c.if-is_failed.ensures) in
    let named = named_has s l is ∙ ap (λ b. b || has (marked_roots s) l) no in
    let root = c.is_marked_root.ensures ∙ ap (has (marked_roots s)) (to_z-of_z w32 l c.ranges.literal) in
    let h = name_promised s l is r c.is_marked_root.result (root ∙ sym named) in
    h.1
