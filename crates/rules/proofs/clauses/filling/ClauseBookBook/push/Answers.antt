use Rattle.std.proofs.Common.{◌≡◌, sym, subst, rules}
use Rattle.rules.specs.RowBuffers.{content, pushed}
use Rattle.rules.proofs.ClauseFillings.{Kept, kept_pushed}
use Rattle.rules.proofs.clauses.filling.ClauseBookBook.push.Goals as goal

pub invariant_of-self-then-not-has : goal.invariant_of-self-then-not-has
invariant_of-self-then-not-has c =
    let b = c.args.self.now in
    let e : content c.push.new.self ≡ pushed (content b.buffer) c.args.literal = search rules in
    let kept = subst (Kept b.count) (sym e) (kept_pushed b.count (content b.buffer) c.args.literal (b.fit, b.drafted, b.counted) (search rules) (search rules)) in
    record { fit = kept.0; drafted = kept.1; counted = kept.2 }
