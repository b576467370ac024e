-- The ends of a search are right, and a run keeps what a search keeps.
use Rattle.std.proofs.Common.{◌≡◌, ℕ, ◌+◌, ◌≤◌, Bool, true, false, List, [], ◌∷◌, ℤ, neg_ℤ, None, All, filter, sym, refl, ap, ◌∙◌, arith}
use Rattle.std.proofs.lemmas.List.Elements.{All-cons, All-head, All-tail}
use mathlib.Core.Bool.{false≢true}
use Rattle.std.proofs.lemmas.Bool.{not-false}
use Rattle.rules.specs.Literals.{in_range, has}
use Rattle.rules.specs.Sources.{makes, assignment, Answer.silent, Meaning, LawfulAt}
use Rattle.rules.proofs.Literals.{all_has, has_all, range_bounds}
use Rattle.rules.proofs.Statuses.{kept_in, in_kept, falsified_all}
use Rattle.theory.specs.Trail.{on, assumed_literals, valuation}
use Rattle.theory.specs.Chunks.{in_chunk, touches}
use Rattle.theory.specs.Look.{Position, Look, Look.no_clause}
use Rattle.theory.specs.Search.{Guide, Verdict, Verdict.paused, Verdict.model, Verdict.refuted, ended, Ends, Ends.contradicts, Ends.denies, Ends.completes, missing, Kind, Kind.assuming, Kind.deciding, Kind.implying, Kind.conflicting}
use Rattle.theory.specs.Run.{Search, Report, one_step, Goes, Goes.ends, Goes.pauses, Goes.steps}
use Rattle.theory.specs.Promise.{Fulfils, Impossible, Judged}
use Rattle.theory.proofs.Levels.{level, level_most}
use Rattle.theory.proofs.Soundness.{makes_one, level_0_true, no_assignment}
use Rattle.theory.proofs.Valuations.{valuation_valid, valuation_full, valuation_assignment, assignment_length, assignment_makes}
use Rattle.theory.proofs.Invariant.{Orderly, Admitted, Sound, potential, first_has, look_entailed}
use Rattle.theory.proofs.Steps.{step_advances, step_sound}
use Rattle.theory.proofs.Placing.{no_decision}

pub model_refuted : model ≡ refuted → ⊥
model_refuted e = let z : ◌≡◌ {A = ℕ} 0 1 = cc in omega arith

-- a search that has not ended has no verdict to be right about
pub open_judged : (n : ℕ) (m : Meaning) (gs : List ℤ) (q : Search) → ended q.verdict ≡ false → Judged n m gs q
open_judged n m gs q h = record {
  refuted_so = λ e. absurd (not_ended refuted e refl);
  refuted_when = λ e _. absurd (false≢true (sym h ∙ e));
  named_so = λ e. absurd (not_ended refuted e refl);
  named_assumed = λ e. absurd (not_ended refuted e refl);
  model_so = λ e. absurd (not_ended model e refl);
}
  where
    not_ended : (v : Verdict) → q.verdict ≡ v → ended v ≡ true → ⊥
    not_ended v e k = false≢true (sym h ∙ ap ended e ∙ k)

refuted_judged : (n : ℕ) (m : Meaning) (p : Position) (ns : List ℤ) → All (λ l. has p.assumptions l ≡ true) ns → Impossible n m ns
    → Judged n m p.assumptions (record { position = p; verdict = refuted; named = ns })
refuted_judged n m p ns among never = record {
  refuted_so = λ _ bs f. never bs (
    f.0,
    f.1,
    has_all (λ l. makes bs l ≡ true) ns
        (λ x h. all_has (λ l. makes bs l ≡ true) p.assumptions f.2 x (all_has (λ l. has p.assumptions l ≡ true) ns among x h)),
  );
  refuted_when = λ _ _. refl;
  named_so = λ _. never;
  named_assumed = λ _. among;
  model_so = λ e. absurd (model_refuted (sym e));
}

model_judged : (n : ℕ) (m : Meaning) (p : Position) → Fulfils n m p.assumptions (assignment n (on p.trail))
    → Judged n m p.assumptions (record { position = p; verdict = model; named = [] })
model_judged n m p f = record {
  refuted_so = λ e. absurd (model_refuted e);
  refuted_when = λ _ never. absurd (never (assignment n (on p.trail)) f);
  named_so = λ e. absurd (model_refuted e);
  named_assumed = λ e. absurd (model_refuted e);
  model_so = λ _. f;
}

module _ (n L : ℕ) (m : Meaning) (p : Position) (law : LawfulAt n m) (o : Orderly n L p) (s : Sound n m p) where
  -- the assumed literals that pass a test are assumptions
  named_among : (test : ℤ → Bool) → All (λ l. has p.assumptions l ≡ true) (filter test (assumed_literals p.trail))
  named_among test = has_all (λ l. has p.assumptions l ≡ true) (filter test (assumed_literals p.trail))
      (λ x h. o.rooted x (kept_in test (assumed_literals p.trail) x h).0)

  -- an assignment that makes those true makes each of them true
  made : (test : ℤ → Bool) (bs : List Bool) → All (λ l. makes bs l ≡ true) (filter test (assumed_literals p.trail))
      → (r : ℤ) → has (assumed_literals p.trail) r ≡ true → test r ≡ true → makes bs r ≡ true
  made test bs h r a t = all_has (λ l. makes bs l ≡ true) (filter test (assumed_literals p.trail)) h r (in_kept test (assumed_literals p.trail) r a t)

  ends_judged : {v : Verdict} {ns : List ℤ} → Ends n m p v ns → Judged n m p.assumptions (record { position = p; verdict = v; named = ns })
  ends_judged (contradicts C lk fa nd) =
      let test : ℤ → Bool = λ r. touches p.trail r C in
      refuted_judged n m p (filter test (assumed_literals p.trail)) (named_among test) (λ bs f.
      no_assignment (Admitted n m) n p.trail o.formed s.reasons C (falsified_all (on p.trail) C fa) (look_entailed n m p law s.slots lk) nd
      bs (f.0, f.1) (made test bs f.2))
  ends_judged (denies a lk fi h) =
      let test : ℤ → Bool = λ r. in_chunk r p.trail (neg_ℤ a) in
      let i = first_has (missing p.trail) fi in
      let d = no_decision n L p o a fi in
      let z : level p.trail (neg_ℤ a) ≡ 0 = let b = level_most p.trail (neg_ℤ a) in omega arith in
      let r = all_has (λ x. in_range n x ≡ true) p.assumptions o.ranged a i in
      let others = filter test (assumed_literals p.trail) in
      refuted_judged n m p (a ∷ others) (All-cons (λ l. has p.assumptions l ≡ true) a others i (named_among test)) (λ bs f.
      let holds : ℤ → Type 0 = λ l. makes bs l ≡ true in
      makes_one bs a (range_bounds n a r).0 (All-head holds a others f.2)
      (level_0_true (Admitted n m) n bs (f.0, f.1) p.trail o.formed s.reasons (neg_ℤ a) h z (made test bs (All-tail holds a others f.2))))
  ends_judged (completes lk al c) = model_judged n m p (
    assignment_length n (on p.trail),
    ap m.admits (sym (valuation_assignment n p.trail o.formed))
        ∙ law.quiet (valuation n p.trail) (valuation_valid n p.trail) (valuation_full n p.trail o.formed c) (silence lk),
    has_all (λ l. makes (assignment n (on p.trail)) l ≡ true) p.assumptions (λ x h.
        assignment_makes n p.trail o.formed x (all_has (λ y. in_range n y ≡ true) p.assumptions o.ranged x h)
        (not-false (on p.trail x) (all_has (λ y. missing p.trail y ≡ false) p.assumptions al x h))),
  )
    where
      silence : Look n m p None → m.answer (valuation n p.trail) ≡ silent
      silence (no_clause e f u) = e

-- the steps are those of each kind
abbrev pub Sums : Report → Type 0
Sums r = r.steps ≡ r.assumed + r.decided + r.implied + r.conflicts

pub one_step_counts : (k : Kind) (u : ℕ) → ((one_step k u).steps ≡ 1) × ((one_step k u).undone ≡ u) × Sums (one_step k u)
one_step_counts assuming u = (refl, refl, refl)
one_step_counts deciding u = (refl, refl, refl)
one_step_counts implying u = (refl, refl, refl)
one_step_counts conflicting u = (refl, refl, refl)

-- from lawful sources alone: the position stays orderly, and each reported step raised the potential
pub goes_orderly : (n L : ℕ) (g : Guide) → LawfulAt n g.source → {limit : ℕ} {p : Position} {r : Report} {q : Search} → Goes n L g limit p r q → Orderly n L p
    → Orderly n L q.position × (potential n p + r.steps ≤ potential n q.position)
goes_orderly n L g law (ends v ns e) o = (o, omega arith)
goes_orderly n L g law (pauses h) o = (o, omega arith)
goes_orderly n L g law (steps {p = p} k u p' st go) o =
    let a = step_advances n L g p law o st in
    let b = goes_orderly n L g law go a.orderly in
    let c = a.rises in let d = b.1 in let e = (one_step_counts k u).0 in
    (b.0, omega arith)

-- with the source's assignments: what it entails stays so, and the verdict is right
pub goes_judged : (n L : ℕ) (g : Guide) → LawfulAt n g.source → {limit : ℕ} {p : Position} {r : Report} {q : Search} → Goes n L g limit p r q → Orderly n L p → Sound n g.source p
    → Sound n g.source q.position × Judged n g.source q.position.assumptions q
goes_judged n L g law (ends {p = p} v ns e) o s = (s, ends_judged n L g.source p law o s e)
goes_judged n L g law (pauses {p} h) o s = (s, open_judged n g.source p.assumptions (record { position = p; verdict = paused; named = [] }) refl)
goes_judged n L g law (steps {p = p} k u p' st go) o s = goes_judged n L g law go (step_advances n L g p law o st).orderly (step_sound n L g p law o s st)
