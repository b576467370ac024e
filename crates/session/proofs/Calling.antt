-- The calls of a session one by one, each by its rule.
use Rattle.std.proofs.Common.{◌≡◌, ℕ, ◌+◌, ◌-◌, ◌*◌, ◌<◌, ◌≤◌, Bool, true, false, cond, ◌||◌, leb, List, [], ◌∷◌, ◌++◌, length, set, ℤ, pos, Some, None, Ok, Err, filter, Option, sym, refl, ap, ◌∙◌, subst, zero-add, arith}
use Rattle.std.specs.List.{list_all}
use Rattle.std.proofs.lemmas.List.FromFn.{length-map-range_with_len, get_or-map-range_with_len}
use Rattle.std.proofs.lemmas.Bool.{cond-true, and_left, and_right, lt-ltb, le-ltb, lt-leb}
use Rattle.rules.specs.Literals.{in_range, has}
use Rattle.rules.specs.Sources.{makes, assignment}
use Rattle.rules.proofs.Literals.{range_bounds}
use Rattle.std.proofs.lemmas.List.Elements.{All-get_or}
use Rattle.std.proofs.lemmas.List.Sums.{AllPass-from_list_all, list_all-from_AllPass}
use Rattle.rules.proofs.RowLaws.{pass_push}
use Rattle.theory.specs.Trail.{Trail, on, assumed_literals}
use Rattle.theory.specs.Search.{Verdict.model, Verdict.refuted}
use Rattle.theory.specs.Calls.{Call.assume, Call.value, Call.named, Reply.done, Reply.said, Reply.refused, State.idle, Next.assumes, Next.assumes_outside, Next.assumes_full, Next.values, Next.values_without, Next.values_outside, Next.names, Next.names_without, Next.names_outside}
use Rattle.session.specs.Words.{word_at, Wrote}
use Rattle.session.specs.Decode.{assumptions_of, trail_of, marked}
use Rattle.session.specs.Reports.{verdict_of}
use Rattle.session.specs.Searches.{with_failed, failed_is, names_by, search_in}
use Rattle.session.specs.Sessions.{settled_state, Promised, assume_answer, is_model, is_refuted, value_answer, named_answer}
use Rattle.session.specs.declared.report.Verdict.{Verdict}
use Rattle.session.specs.declared.report.Verdict.TheVariants.{Open, Paused, Model, Refuted}
use Rattle.session.specs.declared.report.Refusal.TheVariants.{NoVariable, Full, NoModel, NotRefuted}
use Rattle.session.specs.declared.states.Settled.{Settled}
use Rattle.session.proofs.Words.{wrote, words_all}
use Rattle.session.proofs.Implying.{words_push}
use Rattle.session.proofs.Promising.{promised}

-- ASSUMPTIONS

pub standing_long : (k : ℕ) (ws : List ℤ) → length (assumptions_of k ws) ≡ k
standing_long k ws = length-map-range_with_len (word_at ws) 0 k

pub joined : (k : ℕ) (ws : List ℤ) (l : ℤ) → k < length ws → assumptions_of (k + 1) (set ws k l) ≡ assumptions_of k ws ++ (l ∷ [])
joined k ws l h = words_push ws (set ws k l) 0 k l (subst (λ i. Wrote i l ws (set ws k l)) (sym (zero-add k)) (wrote ws k l h))

pub joined_ranged : (n k : ℕ) (ws : List ℤ) (l : ℤ) → k < length ws → list_all (in_range n) (assumptions_of k ws) ≡ true → in_range n l ≡ true → list_all (in_range n) (assumptions_of (k + 1) (set ws k l)) ≡ true
joined_ranged n k ws l h a r = subst (λ xs. list_all (in_range n) xs ≡ true) (sym (joined k ws l h)) (pass_push (in_range n) (assumptions_of k ws) l a r)

pub all_ranged : (n k : ℕ) (ws : List ℤ) → list_all (in_range n) (assumptions_of k ws) ≡ true → (i : ℕ) → i < k → in_range n (word_at ws i) ≡ true
all_ranged n k ws a i h =
    let e = standing_long k ws in
    ap (in_range n) (sym (get_or-map-range_with_len (word_at ws) 0 k i i (pos 0) h (omega arith))) ∙ All-get_or (λ l. in_range n l ≡ true) (assumptions_of k ws) i (pos 0) (omega arith) (AllPass-from_list_all (in_range n) (assumptions_of k ws) a)

pub ranged_all : (n k : ℕ) (ws : List ℤ) → ((i : ℕ) → i < k → in_range n (word_at ws i) ≡ true) → list_all (in_range n) (assumptions_of k ws) ≡ true
ranged_all n k ws h = list_all-from_AllPass (in_range n) (assumptions_of k ws) (words_all (λ l. in_range n l ≡ true) ws 0 k (λ i b. subst (λ j. in_range n (word_at ws j) ≡ true) (sym (zero-add i)) (h i b)))

module _ (n L : ℕ) (ls : List ℤ) (l : ℤ) where
  pub outside_promised : in_range n l ≡ false → Promised n L (idle ls) (assume l) (refused 2) (idle ls)
  outside_promised r = promised n L (idle ls) (assume l) (refused 2) (idle ls) tt (assumes_outside l r)

  pub full_promised : in_range n l ≡ true → 2 * n ≤ length ls → Promised n L (idle ls) (assume l) (refused 3) (idle ls)
  full_promised r f = promised n L (idle ls) (assume l) (refused 3) (idle ls) tt (assumes_full l r f)

  pub joined_promised : in_range n l ≡ true → length ls < 2 * n → (ls' : List ℤ) → ls' ≡ ls ++ (l ∷ []) → Promised n L (idle ls) (assume l) done (idle ls')
  joined_promised r f ls' e = subst (λ x. Promised n L (idle ls) (assume l) done (idle x)) (sym e) (promised n L (idle ls) (assume l) done (idle (ls ++ (l ∷ []))) tt (assumes l r f))

  pub full_answer : (k : ℕ) → in_range n l ≡ true → 2 * n ≤ k → Err Full ≡ assume_answer n k l
  full_answer k r f = rw (r, le-ltb k (2 * n) f)

  pub joined_answer : (k : ℕ) → in_range n l ≡ true → k < 2 * n → Ok tt ≡ assume_answer n k l
  joined_answer k r f = rw (r, lt-ltb k (2 * n) f)

-- VALUES

value_makes : (n : ℕ) (t : Trail) (v : ℕ) → in_range n (pos v) ≡ true → makes (assignment n (on t)) (pos v) ≡ on t (pos v)
value_makes n t v h = let b = range_bounds n (pos v) h in let low = b.0 in let high = b.1 in get_or-map-range_with_len (λ u. on t (pos u)) 1 n (v - 1) v false (omega arith) (omega arith)

pub range_low : (n v : ℕ) → v ≡ 0 → in_range n (pos v) ≡ false
range_low n v e = and_left (leb 1 v) (leb v n) (lt-leb 1 v (omega arith))

pub range_high : (n v : ℕ) → n < v → in_range n (pos v) ≡ false
range_high n v h = and_right (leb 1 v) (leb v n) (lt-leb v n h)

no_model : (v : Verdict) → (v ≡ Model → ⊥) → (is_model v ≡ false) × (verdict_of v ≡ model → ⊥)
no_model Open h = (refl, λ e. let z : ◌≡◌ {A = ℕ} 0 1 = cc in omega arith)
no_model Paused h = (refl, λ e. let z : ◌≡◌ {A = ℕ} 0 1 = cc in omega arith)
no_model Model h = absurd (h refl)
no_model Refuted h = (refl, λ e. let z : ◌≡◌ {A = ℕ} 0 1 = cc in omega arith)

not_refuted : (v : Verdict) → (v ≡ Refuted → ⊥) → (is_refuted v ≡ false) × (verdict_of v ≡ refuted → ⊥)
not_refuted Open h = (refl, λ e. let z : ◌≡◌ {A = ℕ} 0 1 = cc in omega arith)
not_refuted Paused h = (refl, λ e. let z : ◌≡◌ {A = ℕ} 0 1 = cc in omega arith)
not_refuted Model h = (refl, λ e. let z : ◌≡◌ {A = ℕ} 0 1 = cc in omega arith)
not_refuted Refuted h = absurd (h refl)

module _ (s : Settled) (v : ℕ) where
  pub no_model_promised : (s.progress.verdict ≡ Model → ⊥) → (Err NoModel ≡ value_answer s v) × Promised s.progress.memory.layout.variables s.progress.memory.layout.slots (settled_state s) (value v) (refused 6) (settled_state s)
  no_model_promised h = let e = no_model s.progress.verdict h in (rw e.0, promised s.progress.memory.layout.variables s.progress.memory.layout.slots (settled_state s) (value v) (refused 6) (settled_state s) tt (values_without v e.1))

  pub no_value_promised : s.progress.verdict ≡ Model → in_range s.progress.memory.layout.variables (pos v) ≡ false
      → (Err NoVariable ≡ value_answer s v) × Promised s.progress.memory.layout.variables s.progress.memory.layout.slots (settled_state s) (value v) (refused 2) (settled_state s)
  no_value_promised e r = (rw (e, r), promised s.progress.memory.layout.variables s.progress.memory.layout.slots (settled_state s) (value v) (refused 2) (settled_state s) tt (values_outside v (ap verdict_of e) r))

  pub value_promised : s.progress.verdict ≡ Model → in_range s.progress.memory.layout.variables (pos v) ≡ true → (b : Bool) → b ≡ on (search_in s.progress).position.trail (pos v)
      → (Ok b ≡ value_answer s v) × Promised s.progress.memory.layout.variables s.progress.memory.layout.slots (settled_state s) (value v) (said b) (settled_state s)
  value_promised e r b h =
      let m = h ∙ sym (value_makes s.progress.memory.layout.variables (search_in s.progress).position.trail v r) in (
        rw (e, r) (ap Ok m),
        subst (λ x. Promised s.progress.memory.layout.variables s.progress.memory.layout.slots (settled_state s) (value v) (said x) (settled_state s)) (sym m)
            (promised s.progress.memory.layout.variables s.progress.memory.layout.slots (settled_state s) (value v) (said (makes (assignment s.progress.memory.layout.variables (on (search_in s.progress).position.trail)) (pos v))) (settled_state s) tt (values v (ap verdict_of e) r)),
      )

-- NAMES

has_failed : (ws : List ℤ) (failed : Option ℕ) (ls : List ℤ) (l : ℤ) → has (with_failed ws failed ls) l ≡ (failed_is ws failed l || has ls l)
has_failed ws None ls l = refl
has_failed ws (Some i) ls l = refl

-- the marked assumed literals
abbrev pub marked_roots : Settled → List ℤ
marked_roots s = filter (marked s.progress.memory.layout.variables s.progress.memory.words.now) (assumed_literals (trail_of s.progress.memory.layout.variables s.progress.memory.extent.trail s.progress.memory.words.now))

module _ (s : Settled) (l : ℤ) where
  pub named_has : s.progress.verdict ≡ Refuted → has (search_in s.progress).named l ≡ (failed_is s.progress.memory.words.now s.progress.failed l || has (marked_roots s) l)
  named_has e = ap (λ v. has (names_by v (with_failed s.progress.memory.words.now s.progress.failed (marked_roots s))) l) e ∙ has_failed s.progress.memory.words.now s.progress.failed (marked_roots s) l

  pub not_refuted_promised : (s.progress.verdict ≡ Refuted → ⊥) → (Err NotRefuted ≡ named_answer s l) × Promised s.progress.memory.layout.variables s.progress.memory.layout.slots (settled_state s) (named l) (refused 7) (settled_state s)
  not_refuted_promised h = let e = not_refuted s.progress.verdict h in (rw e.0, promised s.progress.memory.layout.variables s.progress.memory.layout.slots (settled_state s) (named l) (refused 7) (settled_state s) tt (names_without l e.1))

  pub no_name_promised : s.progress.verdict ≡ Refuted → in_range s.progress.memory.layout.variables l ≡ false
      → (Err NoVariable ≡ named_answer s l) × Promised s.progress.memory.layout.variables s.progress.memory.layout.slots (settled_state s) (named l) (refused 2) (settled_state s)
  no_name_promised e r = (rw (e, r), promised s.progress.memory.layout.variables s.progress.memory.layout.slots (settled_state s) (named l) (refused 2) (settled_state s) tt (names_outside l (ap verdict_of e) r))

  pub name_promised : s.progress.verdict ≡ Refuted → in_range s.progress.memory.layout.variables l ≡ true → (b : Bool) → b ≡ has (search_in s.progress).named l
      → (Ok b ≡ named_answer s l) × Promised s.progress.memory.layout.variables s.progress.memory.layout.slots (settled_state s) (named l) (said b) (settled_state s)
  name_promised e r b h = (
    ap Ok h ∙ sym (cond-true (in_range s.progress.memory.layout.variables l) (Ok (has (search_in s.progress).named l)) (Err NoVariable) r)
        ∙ sym (cond-true (is_refuted s.progress.verdict) (cond (in_range s.progress.memory.layout.variables l) (Ok (has (search_in s.progress).named l)) (Err NoVariable)) (Err NotRefuted) (ap is_refuted e)),
    subst (λ x. Promised s.progress.memory.layout.variables s.progress.memory.layout.slots (settled_state s) (named l) (said x) (settled_state s)) (sym h)
        (promised s.progress.memory.layout.variables s.progress.memory.layout.slots (settled_state s) (named l) (said (has (search_in s.progress).named l)) (settled_state s) tt (names l (ap verdict_of e) r)),
  )
