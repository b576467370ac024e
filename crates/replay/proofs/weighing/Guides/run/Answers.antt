use Rattle.std.proofs.Common.{length, sym, ap, ◌∙◌, subst}
use Rattle.weights.specs.Weighing.{table_weight}
use Rattle.weights.specs.Scales.{plain, plain_plus, plain_at_most, ranked_zero, ranked_plus, ranked_at_most}
use Rattle.theory.specs.Search.{Guide}
use Rattle.theory.specs.Calls.{Call.run}
use Rattle.session.specs.Guides.{guided}
use Rattle.session.specs.Reports.{reported_as}
use Rattle.session.specs.Sessions.{search_state, Promised}
use Rattle.replay.specs.Guides.{weighed}
use Rattle.replay.proofs.weighing.Guides.run.Goals as goal

pub returns-in-Plain-clause-promised : goal.returns-in-Plain-clause-promised
returns-in-Plain-clause-promised g c =
    let s = c.args.search.now in
    let layout = s.progress.memory.layout in
    let m = g.S.Source.meaning c.args.source.now in
    let preferences = c.as_slice-preferences.ensures.value in
    let weights = c.new.ensures ∙ c.deref.ensures.value in
    subst (λ (guide : Guide). Promised layout.variables layout.slots (search_state s) (run c.args.limit guide (length c.args.scratch.now)) (reported_as c.run-in-Plain.result) (search_state c.run-in-Plain.new.self))
    ((λ i. guided m (preferences i) plain_at_most (plain 0) plain_plus (λ member. table_weight (plain 0) (weights i) member.literal))
    ∙ ap (λ w. weighed w m c.args.self.now.preferences.items) (sym c.in-Plain.is)) c.run-in-Plain.ensures.promised

pub returns-in-Ranked-clause-promised : goal.returns-in-Ranked-clause-promised
returns-in-Ranked-clause-promised g c =
    let s = c.args.search.now in
    let layout = s.progress.memory.layout in
    let m = g.S.Source.meaning c.args.source.now in
    let preferences = c.as_slice-preferences.ensures.value in
    let weights = c.new-in-Ranked.ensures ∙ c.deref-in-Ranked.ensures.value in
    subst (λ (guide : Guide). Promised layout.variables layout.slots (search_state s) (run c.args.limit guide (length c.args.scratch.now)) (reported_as c.run-in-Ranked.result) (search_state c.run-in-Ranked.new.self))
    ((λ i. guided m (preferences i) ranked_at_most ranked_zero ranked_plus (λ member. table_weight ranked_zero (weights i) member.literal))
    ∙ ap (λ w. weighed w m c.args.self.now.preferences.items) (sym c.in-Ranked.is)) c.run-in-Ranked.ensures.promised
