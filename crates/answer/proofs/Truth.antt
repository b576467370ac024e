-- The printed lines are truthful.
use Rattle.std.proofs.Common.{◌≡◌, ◌∷◌, ◌⊎◌, inl, inr, append_assoc, ℕ, Bool, true, false, ◌==◌, List, [], Err, ◌++◌, drop, get_or, ℤ, codes, refl, sym, ap, ◌∙◌, arith}
use Rattle.std.proofs.lemmas.Bool.{false≢true}
use Rattle.std.proofs.lemmas.List.Elements.{All-nil, All-cons}
use Rattle.rules.specs.Sources.{Meaning, Lawful, assignment}
use Rattle.theory.specs.Trail.{on}
use Rattle.theory.specs.Search.{Verdict, Verdict.still_open, Verdict.paused, Verdict.model, Verdict.refuted, ended}
use Rattle.theory.specs.Run.{Search, Report, Run}
use Rattle.theory.specs.Calls.{State.searching, Next.begins, Next.runs, begun}
use Rattle.theory.specs.Promise.{History, History.opening, History.more, Holds.under_way, Judged}
use Rattle.theory.proofs.Counts.{run_kept}
use Rattle.theory.proofs.RunLaws.{paused_at_limit, run_verdict}
use Rattle.theory.proofs.Theorem.{promise_kept}
use Rattle.std.specs.Fmt.{decimal}
use Rattle.rulefile.specs.Faults.{Fault}
use Rattle.rulefile.specs.Outcomes.{Rule}
use Rattle.rulefile.specs.Grammar.{obeys}
use Rattle.answer.specs.Lines.{line, refusal_line, true_literals, values_text, kinds_text, counts_text, answer_lines}
use Rattle.answer.specs.Reading.{reading}
use Rattle.answer.specs.Searching.{standing_guide, Searched, searched}
use Rattle.answer.specs.Answers.{Readable, Truthful}
use Rattle.answer.proofs.Readings.{reading_refused}

-- WHICH LINE STANDS FIRST

-- texts with another byte at some place
apart : (i byte : ℕ) (xs ys : List ℕ) → xs ≡ ys → get_or xs i 0 == byte ≡ false → get_or ys i 0 == byte ≡ true → ⊥
apart i byte xs ys e x y = false≢true (sym x ∙ ap (λ zs. get_or zs i 0 == byte) e ∙ y)

refuted_first : (v : Verdict) (ls : List ℤ) (r : Report) (rest : List ℕ) → answer_lines v ls r ≡ line (codes "s UNSATISFIABLE") ++ rest → v ≡ refuted
refuted_first still_open ls r rest e = absurd (apart 4 83 _ _ e refl refl)
refuted_first paused ls r rest e = absurd (apart 4 83 _ _ e refl refl)
refuted_first model ls r rest e = absurd (apart 2 85 _ _ e refl refl)
refuted_first refuted ls r rest e = refl

model_first : (v : Verdict) (ls : List ℤ) (r : Report) (rest : List ℕ) → answer_lines v ls r ≡ line (codes "s SATISFIABLE") ++ rest
    → (v ≡ model) × (rest ≡ line (values_text ls) ++ line (counts_text r))
model_first still_open ls r rest e = absurd (apart 2 83 _ _ e refl refl)
model_first paused ls r rest e = absurd (apart 2 83 _ _ e refl refl)
model_first model ls r rest e = (refl, sym (ap (drop 14) e))
model_first refuted ls r rest e = absurd (apart 2 83 _ _ e refl refl)

unknown_first : (v : Verdict) (ls : List ℤ) (r : Report) (rest : List ℕ) → answer_lines v ls r ≡ line (codes "s UNKNOWN") ++ rest
    → ((v ≡ still_open) ⊎ (v ≡ paused)) × (rest ≡ line (counts_text r))
unknown_first still_open ls r rest e = (inl refl, sym (ap (drop 10) e))
unknown_first paused ls r rest e = (inr refl, sym (ap (drop 10) e))
unknown_first model ls r rest e = absurd (apart 2 85 _ _ e refl refl)
unknown_first refuted ls r rest e = absurd (apart 4 75 _ _ e refl refl)

not_refused : (v : Verdict) (ls : List ℤ) (r : Report) (rest : List ℕ) → answer_lines v ls r ≡ codes "refused" ++ rest → ⊥
not_refused still_open ls r rest e = apart 0 114 _ _ e refl refl
not_refused paused ls r rest e = apart 0 114 _ _ e refl refl
not_refused model ls r rest e = apart 0 114 _ _ e refl refl
not_refused refuted ls r rest e = apart 0 114 _ _ e refl refl

-- WHAT A SEARCH SAYS OF ITS RULES

pub search_judged : (m : Meaning) → Lawful m → (r : Report) (q : Search) → Run m.count 16 (standing_guide m) 1000000 (begun []) r q → Judged m.count m [] q
search_judged m lawful r q ran =
    let h : History m.count 16 _ (searching q) = more (more opening begins) (runs 1000000 (standing_guide m) m.count r refl (omega arith) ran) in
    (promise_kept m.count 16 _ (searching q) h).verdicts q under_way m (record { counts = refl; lawful = lawful; unchanged = All-cons (λ g. g.guide.source ≡ m) _ [] refl (All-nil _) })

-- a run that has not ended took all its steps
steps_taken : (m : Meaning) (r : Report) (q : Search) → Run m.count 16 (standing_guide m) 1000000 (begun []) r q → (r.verdict ≡ still_open) ⊎ (r.verdict ≡ paused) → r.steps ≡ 1000000
steps_taken m r q ran (inl e) = elim (run_verdict m.count 16 (standing_guide m) ran) [
  | inl p ↦ let both = sym e ∙ p in cc
  | inr p ↦ let both = sym p ∙ ap ended e in cc
]
steps_taken m r q ran (inr e) = paused_at_limit m.count 16 (standing_guide m) 1000000 (begun []) q r ran e

-- WHAT THE LINES SAY OF THE FILE

pub searched_truthful : (text : List ℕ) (n : ℕ) (rules : List Rule) (m : Meaning) (printed : List ℕ) → Readable text n rules → n ≡ m.count
    → ((bs : List Bool) → m.admits bs ≡ obeys rules bs) → Lawful m → Searched m printed → Truthful text printed
searched_truthful text n rules m _ readable count admits lawful (searched r q ran) =
    let judged = search_judged m lawful r q ran in
    let kept = run_kept m.count 16 (standing_guide m) ran in
    let bs = assignment m.count (on q.position.trail) in
    let ls = true_literals m.count bs in
    record {
      unsatisfiable = λ rest e. let found = refuted_first r.verdict ls r rest e in
          record { variables = n; rules = rules; readable = readable; none = λ cs o. judged.refuted_so (sym kept.1 ∙ found) cs (o.0 ∙ count, admits cs ∙ o.1, All-nil _) };
      satisfiable = λ rest e. let found = model_first r.verdict ls r rest e in
          let model = judged.model_so (sym kept.1 ∙ found.0) in
          record {
            variables = n;
            rules = rules;
            readable = readable;
            values = bs;
            obeyed = (model.0 ∙ sym count, sym (admits bs) ∙ model.1);
            rest = line (counts_text r);
            shown = found.1 ∙ ap (λ k. line (values_text (true_literals k bs)) ++ line (counts_text r)) (sym count);
          };
      unknown = λ rest e. let found = unknown_first r.verdict ls r rest e in
          record {
            variables = n;
            rules = rules;
            readable = readable;
            rest = line (kinds_text r);
            shown = found.1 ∙ ap (λ k. line (codes "c steps " ++ (decimal k ++ kinds_text r))) (steps_taken m r q ran found.0)
                ∙ ap (λ k. codes "c steps " ++ k) (append_assoc (decimal 1000000) (kinds_text r) (10 ∷ []));
          };
      refused = λ rest e k others x. not_refused r.verdict ls r rest e;
    }

pub refusal_truthful : (text : List ℕ) (f : Fault) → reading text ≡ Err f → Truthful text (refusal_line f)
refusal_truthful text f e = record {
  unsatisfiable = λ rest i. absurd (apart 0 115 _ _ i refl refl);
  satisfiable = λ rest i. absurd (apart 0 115 _ _ i refl refl);
  unknown = λ rest i. absurd (apart 0 115 _ _ i refl refl);
  refused = λ rest i. reading_refused text f e;
}
