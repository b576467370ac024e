use Rattle.std.proofs.Common.{◌≡◌, ◌*◌, Some, None, sym, ◌∙◌, subst, arith}
use Rattle.session.specs.Memories.{position_in}
use Rattle.session.specs.Words.{Outside}
use Rattle.session.specs.Plans.{Conclusive, verdict_at, names_at}
use Rattle.session.specs.Searches.{search_at}
use Rattle.session.specs.declared.report.Verdict.TheVariants.{Refuted}
use Rattle.session.proofs.Words.{outside_both, outside_wider}
use Rattle.session.proofs.Finishing.{within_none, within_some, refuted_memory, denied_falsified, denied_names}
use Rattle.session.proofs.progress.Progress.conclude.Goals as goal

pub mark_roots-requires-in-Denied : goal.mark_roots-requires-in-Denied
mark_roots-requires-in-Denied c =
    let m = c.args.self.now.memory in
    let h = subst (Conclusive m) c.in-Denied.is c.requires in
    denied_falsified m c.recall_assumption.new.self c.in-Denied.number h.0 c.recall_assumption.ensures.frame c.recall_assumption.ensures.clause h.1

pub returns-in-Contradicted-clause-search : goal.returns-in-Contradicted-clause-search
returns-in-Contradicted-clause-search c =
    let m = c.args.self.now.memory in
    let n = m.layout.variables in
    let now = c.mark_roots.new.self in
    let f = c.mark_roots.ensures.frame in
    let o = outside_wider (5 * n) n (4 * n) (2 * n) m.words.now now.words.now (omega arith) (omega arith) f.outside in
    subst (λ end. search_at now.layout now.extent Refuted None now.words.now ≡ record { position = position_in m; verdict = verdict_at end; named = names_at m end }) (sym c.in-Contradicted.is)
    (refuted_memory m now f.layout f.extent o None (within_none m.extent.assumptions) _ c.mark_roots.ensures.named)

pub returns-in-Denied-clause-search : goal.returns-in-Denied-clause-search
returns-in-Denied-clause-search c =
    let m = c.args.self.now.memory in
    let n = m.layout.variables in
    let mid = c.recall_assumption.new.self in
    let now = c.mark_roots-in-Denied.new.self in
    let h = subst (Conclusive m) c.in-Denied.is c.requires in
    let i = c.in-Denied.number in
    let r = c.recall_assumption.ensures in
    let e = c.mark_roots-in-Denied.ensures in
    let later = subst (λ y. Outside (5 * y.variables) y.variables mid.words.now now.words.now) r.frame.layout e.frame.outside in
    let o = outside_both (4 * n) (2 * n) m.words.now mid.words.now now.words.now (outside_wider (4 * n) n (4 * n) (2 * n) m.words.now mid.words.now (omega arith) (omega arith) r.frame.outside)
    (outside_wider (5 * n) n (4 * n) (2 * n) mid.words.now now.words.now (omega arith) (omega arith) later) in
    subst (λ end. search_at now.layout now.extent Refuted (Some i) now.words.now ≡ record { position = position_in m; verdict = verdict_at end; named = names_at m end }) (sym c.in-Denied.is)
    (refuted_memory m now (e.frame.layout ∙ r.frame.layout) (e.frame.extent ∙ r.frame.extent) o (Some i) (within_some m.extent.assumptions i h.0) _ (denied_names m mid i h.0 r.frame r.clause now.words.now e.named))
