-- The steps of a run, one after another.
use Rattle.std.proofs.Common.{◌≡◌, ℕ, suc, ◌<◌, List, [], length, ℤ, sym, refl, ap, ◌∙◌, subst}
use Rattle.rules.proofs.Statuses.{falsified_all}
use Rattle.theory.specs.Trail.{Entry.assumed, Entry.decided, Entry.implied, on}
use Rattle.theory.specs.Chunks.{chunk}
use Rattle.theory.specs.Conflict.{others_of, repaired}
use Rattle.theory.specs.Look.{Position}
use Rattle.theory.specs.Search.{Guide, Verdict, Verdict.paused, Ends, Kind, Kind.assuming, Kind.deciding, Kind.implying, Kind.conflicting, placed, Step}
use Rattle.theory.specs.Run.{Search, Report, no_steps, one_step, added, Goes, Goes.ends, Goes.pauses, Goes.steps}
use Rattle.theory.proofs.RunLaws.{none_added, added_assoc}
use Rattle.theory.proofs.Analysis.{analyse_analysed, one_touching}
use Rattle.theory.proofs.Uniqueness.{end_or_step}
use Rattle.theory.proofs.Compute.{left_over}
use Rattle.session.specs.Words.{word_at, clause_at}
use Rattle.session.specs.Decode.{literal_at}
use Rattle.session.specs.Memories.{trail_in, position_in, clause_in}
use Rattle.session.specs.Plans.{Ready, Taken}
use Rattle.session.specs.declared.memory.Memory.{Memory}
use Rattle.session.specs.declared.plan.Step.{Step as Due}
use Rattle.session.specs.declared.plan.Step.TheVariants.{Assume, Decide, Imply, Repair}

-- What is known after the steps of a report, which led from p₀ to p: any run on from p is one from p₀, with these steps in front.
abbrev pub Onward : ℕ → ℕ → Guide → ℕ → Position → ℕ → Position → Report → Type 0
Onward n L g limit p₀ left p a = (r : Report) (q : Search) → Goes n L g left p r q → Goes n L g limit p₀ (added a r) q

-- after no steps, a run on from there is the whole run
pub onward_start : (n L : ℕ) (g : Guide) (limit : ℕ) (p : Position) (left : ℕ) → left ≡ limit → (a : Report) (v : Verdict) → a ≡ no_steps v
    → Onward n L g limit p left p a
onward_start n L g limit p left e a v h r q go =
    subst (λ x. Goes n L g limit p x q) (sym (none_added v r) ∙ ap (λ b. added b r) (sym h)) (subst (λ k. Goes n L g k p r q) e go)

module _ (n L : ℕ) (g : Guide) (limit left : ℕ) (p₀ p : Position) (a : Report) (on : Onward n L g limit p₀ left p a) where
  pub onward_step : (k : Kind) (undone : ℕ) (p' : Position) → Step n L g p k undone p' → 0 < left → (left' : ℕ) → suc left' ≡ left → (b : Report) → b ≡ added a (one_step k undone) → Onward n L g limit p₀ left' p' b
  onward_step k undone p' st h left' e b s r q go =
      subst (λ x. Goes n L g limit p₀ x q) (added_assoc a (one_step k undone) r ∙ ap (λ c. added c r) (sym s))
      (on (added (one_step k undone) r) q (subst (λ l. Goes n L g l p (added (one_step k undone) r) q) e (steps k undone p' st go)))

  pub onward_end : (v : Verdict) (ns : List ℤ) → Ends n g.source p v ns → (b : Report) → b ≡ added a (no_steps v) → (q : Search) → q ≡ record { position = p; verdict = v; named = ns } → Goes n L g limit p₀ b q
  onward_end v ns e b s q i = subst (λ x. Goes n L g limit p₀ x q) (sym s) (subst (Goes n L g limit p₀ (added a (no_steps v))) (sym i) (on (no_steps v) (record { position = p; verdict = v; named = ns }) (ends v ns e)))

  pub onward_pause : left ≡ 0 → (k : Kind) (undone : ℕ) (p' : Position) → Step n L g p k undone p' → (b : Report) → b ≡ added a (no_steps paused) → Goes n L g limit p₀ b (record { position = p; verdict = paused; named = [] })
  onward_pause z k undone p' st b s = subst (λ x. Goes n L g limit p₀ x (record { position = p; verdict = paused; named = [] })) (sym s)
      (on (no_steps paused) (record { position = p; verdict = paused; named = [] })
      (subst (λ l. Goes n L g l p (no_steps paused) (record { position = p; verdict = paused; named = [] })) (sym z) (pauses (λ v ns e. end_or_step n L g p e st))))

-- where a step is due there is what it comes to: a pause before it is no end
pub ready_kind : (m : Memory) (step : Due) → Ready m step → (k : Kind) × (undone : ℕ) × (p' : Position) × Taken m step k undone p'
ready_kind m (Assume i) r = (assuming, 0, placed (position_in m) (assumed (word_at m.words.now i)), record { kind = refl; none = refl; leads = refl })
ready_kind m (Decide l) r = (deciding, 0, placed (position_in m) (decided l), record { kind = refl; none = refl; leads = refl })
ready_kind m (Imply count at) r =
    let l = word_at m.words.now (clause_at m.layout.variables at) in
    (implying, 0, placed (position_in m) (implied l (others_of l (clause_in m count))), record { kind = refl; none = refl; leads = refl })
ready_kind m (Repair count root) r =
    let n = m.layout.variables in
    let p = position_in m in
    let t = trail_in m in
    let C = clause_in m count in
    let d = literal_at n m.words.now root in
    let formed = m.sound.coherent.formed in
    let an = analyse_analysed n t formed d C (falsified_all (on t) C r.stands) in
    let u = one_touching n t formed d C r.touched.touching an in (
      conflicting,
      length (chunk t d),
      repaired n m.layout.slots p d u.0 (left_over t d C),
      record { kind = refl; many = refl; leads = record { placed = u.0; left = left_over t d C; analysed = an; is_left = u.1; touched = u.2; leads = refl } },
    )
