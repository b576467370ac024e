use Rattle.std.proofs.Common.{◌≡◌, ◌<◌, sym, ap, ◌∙◌, subst, rules, w32}
use Rattle.std.proofs.lemmas.Int.{to_z-of_z}
use Rattle.rules.specs.Literals.{var}
use Rattle.rules.specs.RowBuffers.{content, pushed}
use Rattle.rules.specs.GroupFilling.{groups_of}
use Rattle.rules.proofs.GroupFillings.{Kept, kept_pushed, group_pushed}
use Rattle.rules.proofs.groups.filling.GroupBookBook.push.Goals as goal

pub invariant_of-self-then-self-variable : goal.invariant_of-self-then-self-variable
invariant_of-self-then-self-variable c =
    let b = c.args.self.now in
    let l = c.args.literal in
    let v : c.unsigned_abs-variable.result ≡ var l = c.unsigned_abs-variable.ensures.value ∙ ap var (to_z-of_z w32 l c.ranges.literal) in
    let e : content c.push.new.self ≡ pushed (content b.buffer) l = search rules in
    let up : b.last < var l = subst (λ k. b.last < k) v c.if-self-variable.true in
    let kept = subst (λ k. Kept k (content c.push.new.self)) (sym v) (subst (Kept (var l)) (sym e) (kept_pushed b.last (content b.buffer) l (b.fit, b.drafted) (search rules) up)) in
    record { fit = kept.0; drafted = kept.1 }

pub returns-then-self-variable : goal.returns-then-self-variable
returns-then-self-variable c =
    let b = c.args.self.now in
    let l = c.args.literal in
    let v : c.unsigned_abs-variable.result ≡ var l = c.unsigned_abs-variable.ensures.value ∙ ap var (to_z-of_z w32 l c.ranges.literal) in
    let e : content c.push.new.self ≡ pushed (content b.buffer) l = search rules in
    ap (groups_of (content c.push.new.self)) v ∙ ap (λ d. groups_of d (var l)) e
    ∙ group_pushed b.last (content b.buffer) l (b.fit, b.drafted) (search rules) (subst (λ k. b.last < k) v c.if-self-variable.true)
