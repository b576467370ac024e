use Rattle.std.proofs.Common.{◌≡◌, ◌+◌, ◌<◌, pos, sym, ap, ◌∙◌, subst, rules}
use Rattle.rules.specs.RowBuffers.{content, free, pushed, joined}
use Rattle.rules.specs.GroupFilling.{groups_of, most_of}
use Rattle.rules.proofs.GroupFillings.{Kept, limit_room, kept_ended, group_ended}
use Rattle.rules.proofs.groups.GroupBook.end.Goals as goal

pub join-requires : goal.join-requires
join-requires c =
    let b = c.args.self.now in
    let e : content c.push.new.self ≡ pushed (content b.buffer) (pos (most_of c.args.limit + 1)) = search rules in
    subst (λ d. 0 < free d) (sym e) (limit_room (content b.buffer) b.last _ (b.fit, b.drafted) _ c.lacks_place-full.ensures (sym c.in_ok-admit.ensures.answer))

pub invariant_of-self-2 : goal.invariant_of-self-2
invariant_of-self-2 c =
    let b = c.args.self.now in
    let e : content c.join.new.self ≡ joined (pushed (content b.buffer) (pos (most_of c.args.limit + 1))) = search rules in
    let kept = subst (Kept 0) (sym e) (kept_ended (content b.buffer) b.last _ (b.fit, b.drafted) _ c.lacks_place-full.ensures (sym c.in_ok-admit.ensures.answer)) in
    record { fit = kept.0; drafted = kept.1 }

pub returns-clause-after : goal.returns-clause-after
returns-clause-after c =
    let b = c.args.self.now in
    let e : content c.join.new.self ≡ joined (pushed (content b.buffer) (pos (most_of c.args.limit + 1))) = search rules in
    ap (λ d. groups_of d 0) e ∙ group_ended (content b.buffer) b.last _ (b.fit, b.drafted) _ c.lacks_place-full.ensures (sym c.in_ok-admit.ensures.answer)
