-- A clause book while it is filled: what keeps it as it should be, and that a clause pushed literal by literal is the whole clause.
use Rattle.std.proofs.Common.{◌≡◌, ℕ, ◌+◌, ◌≤◌, Bool, true, false, cond, not, ◌&&◌, ltb, leb, List, [], ◌∷◌, ◌++◌, length, ℤ, Some, None, Ok, Err, fold, Option, sym, refl, ap, ◌∙◌, subst, inl, inr, arith}
use mathlib.Core.Bool.{false≢true}
use Rattle.std.specs.List.{list_all}
use Rattle.std.proofs.lemmas.List.{length_push}
use Rattle.std.proofs.lemmas.Bool.{cond_both, cases_Bool, and_parts, and_from, or_parts, or_from, or_left, not-true, not_from_false, le-leb, ltb-false, cond-true, cond-false}
use Rattle.rules.specs.Literals.{same, in_range, has}
use Rattle.rules.specs.Books.{no_repeat, clause_fits}
use Rattle.rules.specs.Rows.{words_of}
use Rattle.rules.specs.RowBuffers.{Content}
use Rattle.rules.specs.RowBuffers as B
use Rattle.rules.specs.Drafts.{unless, Reply, reply}
use Rattle.rules.specs.declared.refusal.Refusal.{Refusal}
use Rattle.rules.specs.declared.refusal.Refusal.TheVariants.{NoVariable, NoRoom}
use Rattle.rules.specs.ClauseFilling.{Filling, writing, clean, faulted, extended, written, noted, pushed, no_place, ending, settled, once_after, once, answer_to}
use Rattle.rules.proofs.Literals.{has_push, same_true, eq_same}
use Rattle.rules.proofs.RowLaws.{pass_push}
use Rattle.rules.proofs.RowBuffers.{pushed_both}
use Rattle.rules.proofs.DraftLaws.{whole_rule}

abbrev parts : ℕ → ℕ → List (List ℤ) → List ℤ → Option Refusal → Filling
parts v s cs d f = record { variables = v; size = s; clauses = cs; draft = d; fault = f }

-- fillings with the same parts are the same
pub same_parts : {v v' s s' : ℕ} {cs cs' : List (List ℤ)} {d d' : List ℤ} {f f' : Option Refusal} → v ≡ v' → s ≡ s' → cs ≡ cs' → d ≡ d' → f ≡ f'
    → parts v s cs d f ≡ parts v' s' cs' d' f'
same_parts a b c e g = cc

no_repeat_push : (ls : List ℤ) (l : ℤ) → no_repeat ls ≡ true → has ls l ≡ false → no_repeat (ls ++ (l ∷ [])) ≡ true
no_repeat_push [] l h e = refl
no_repeat_push (k ∷ ls) l h e =
    let q = and_parts (not (has ls k)) (no_repeat ls) h in
    let r = or_parts (same l k) (has ls l) e in
    let apart : same k l ≡ false = flip k l r.0 in
    and_from (not (has (ls ++ (l ∷ [])) k)) (no_repeat (ls ++ (l ∷ [])))
    (not_from_false (has (ls ++ (l ∷ [])) k) (has_push ls l k ∙ or_from (has ls k) (same k l) (not-true (has ls k) q.0) apart))
    (no_repeat_push ls l q.1 r.1)
  where
    flip : (x y : ℤ) → same y x ≡ false → same x y ≡ false
    flip x y n = by (same x y) refl
      where
        by : (b : Bool) → same x y ≡ b → same x y ≡ false
        by true i = absurd (false≢true (sym n ∙ eq_same y x (sym (same_true x y i))))
        by false i = i

fits_push : (n : ℕ) (ls : List ℤ) (l : ℤ) → clause_fits n ls ≡ true → in_range n l ≡ true → has ls l ≡ false → clause_fits n (ls ++ (l ∷ [])) ≡ true
fits_push n ls l h r e =
    let q = and_parts (list_all (in_range n) ls) (no_repeat ls) h in
    and_from (list_all (in_range n) (ls ++ (l ∷ []))) (no_repeat (ls ++ (l ∷ []))) (pass_push (in_range n) ls l q.0 r) (no_repeat_push ls l q.1 e)

-- A LITERAL PUSHED

-- what a book of k clauses keeps
abbrev pub Kept : ℕ → Content → Type 0
Kept k b = (list_all (clause_fits b.variables) b.standing ≡ true) × (unless b.fault (clause_fits b.variables) b.draft ≡ true) × (k ≡ length b.standing)

-- a new literal in range, as a word of the rows
pub kept_pushed : (k : ℕ) (b : Content) (l : ℤ) → Kept k b → in_range b.variables l ≡ true → has b.draft l ≡ false → Kept k (B.pushed b l)
kept_pushed k b l h r e =
    let fits = clause_fits b.variables in
    pushed_both b l (Kept k) (λ _ _. h)
    (λ f. (h.0, subst (λ x. unless x fits (b.draft ++ (l ∷ [])) ≡ true) (sym f) (fits_push b.variables b.draft l (subst (λ x. unless x fits b.draft ≡ true) f h.1) r e), h.2))
    (h.0, refl, h.2)

-- A CLAUSE LITERAL BY LITERAL

once_long : (seen ls : List ℤ) → length seen ≤ length (once_after seen ls)
once_long seen [] = omega arith
once_long seen (l ∷ ls) = cond_both (has seen l) (once_after seen ls) (once_after (seen ++ (l ∷ [])) ls) (λ k. length seen ≤ length k)
    (λ _. once_long seen ls) (λ _. let i = once_long (seen ++ (l ∷ [])) ls in let p = length_push seen l in omega arith)

-- what a clause comes to: the reply, and the book that it leaves
abbrev refused : Filling → Refusal → Reply × Filling
refused b r = (Err r, clean b)

-- by all its literals C; the refusal that it has earned; whether the literals ahead are in range; and whether the book is full for it
abbrev comes : Filling → List ℤ → Option Refusal → Bool → Bool → Reply × Filling
comes b C (Some r) inside full = cond inside (refused b r) (refused b NoVariable)
comes b C None inside full = cond inside (cond full (refused b NoRoom) (Ok tt, settled b C (Ok tt))) (refused b NoVariable)

abbrev outcome : Filling → List ℤ → Reply × Filling
outcome b ls = comes b (once_after b.draft ls) b.fault (list_all (in_range b.variables) ls) (no_place b (length (once_after b.draft ls)))

-- one literal more leaves it as it was
one_pushed : (b : Filling) (l : ℤ) (ls : List ℤ) → outcome (pushed b l) ls ≡ outcome b (l ∷ ls)
one_pushed b l ls = by b.fault (in_range b.variables l)
  where
    outside : cond (list_all (in_range b.variables) ls) (refused b NoVariable) (refused b NoVariable) ≡ refused b NoVariable
    outside = cond_both (list_all (in_range b.variables) ls) (refused b NoVariable) (refused b NoVariable) (λ k. k ≡ refused b NoVariable) (λ _. refl) (λ _. refl)

    wrote : let b = writing b b.draft None in let C = once_after (b.draft ++ (l ∷ [])) ls in outcome (written b l) ls ≡ comes b C None (list_all (in_range b.variables) ls) (no_place b (length C))
    wrote =
        let b = writing b b.draft None in
        let C = once_after (b.draft ++ (l ∷ [])) ls in
        let at = words_of b.clauses + length b.draft in
        let i = once_long (b.draft ++ (l ∷ [])) ls in
        let p = length_push b.draft l in
        elim (cases_Bool (ltb at b.size)) [
          | inl t ↦ ap (λ k. outcome k ls) (cond-true (ltb at b.size) (extended b l) (faulted b NoRoom) t)
          | inr t ↦
              let q = ltb-false at b.size t in
              let full : no_place b (length C) ≡ true = or_left (leb b.size (words_of b.clauses + length C)) (leb 65535 (length b.clauses)) (le-leb b.size (words_of b.clauses + length C) (omega arith)) in
              ap (λ k. outcome k ls) (cond-false (ltb at b.size) (extended b l) (faulted b NoRoom) t) ∙ sym (ap (comes b C None (list_all (in_range b.variables) ls)) full)
        ]

    new : (h : Bool) → let b = writing b b.draft None in let C = cond h (once_after b.draft ls) (once_after (b.draft ++ (l ∷ [])) ls) in
        outcome (cond h b (written b l)) ls ≡ comes b C None (list_all (in_range b.variables) ls) (no_place b (length C))
    new true = refl
    new false = wrote

    by : (f : Option Refusal) (i : Bool) → let b = writing b b.draft f in let C = once_after b.draft (l ∷ ls) in
        outcome (cond i (noted b l f) (faulted b NoVariable)) ls ≡ comes b C f (i && list_all (in_range b.variables) ls) (no_place b (length C))
    by (Some r) false = outside
    by (Some r) true = refl
    by None false = outside
    by None true = new (has b.draft l)

-- at the end
outcome_ended : (b : Filling) → outcome b [] ≡ (ending b, settled b b.draft (ending b))
outcome_ended b = by b.fault (no_place b (length b.draft))
  where
    by : (f : Option Refusal) (full : Bool) → comes b b.draft f true full ≡ (reply f full, settled b b.draft (reply f full))
    by (Some r) full = refl
    by None true = refl
    by None false = refl

-- at the start
outcome_whole : (b : Filling) (ls : List ℤ) → outcome (clean b) ls ≡ (answer_to b ls, settled b (once ls) (answer_to b ls))
outcome_whole b ls = by (list_all (in_range b.variables) ls) (no_place b (length (once ls)))
  where
    by : (i p : Bool) → let a = cond i (cond p (Err NoRoom) (Ok tt)) (Err NoVariable) in comes (clean b) (once ls) None i p ≡ (a, settled b (once ls) a)
    by false p = refl
    by true false = refl
    by true true = refl

-- a clause pushed literal by literal and ended is answered as a whole, and leaves what the whole leaves
pub pushed_whole : (b : Filling) (ls : List ℤ) (e : Filling) → e ≡ fold pushed (clean b) ls → (r : Reply) → r ≡ ending e → (x : Filling) → x ≡ settled e e.draft r
    → (r ≡ answer_to b ls) × (x ≡ settled b (once ls) r)
pushed_whole b ls = whole_rule pushed outcome one_pushed ending (λ e. settled e e.draft) outcome_ended (clean b) ls (answer_to b ls) (settled b (once ls)) (outcome_whole b ls)
