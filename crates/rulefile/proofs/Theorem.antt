-- What a reading says of its text: the theorem on rule files.
use Rattle.std.proofs.Common.{◌≡◌, ℕ, ◌≤◌, Bool, true, false, cond, ◌&&◌, ◌||◌, eqb, ltb, List, [], ◌∷◌, ◌++◌, map, ℤ, Ok, Err, fold, Result, sym, refl, ap, ◌∙◌, append_assoc, append-nil}
use Rattle.std.specs.List.{list_all}
use Rattle.std.proofs.lemmas.Bool.{cond-true, cond-false, eq-eqb, le-ltb, false≢true}
use Rattle.std.proofs.Math.Bool.{or_assoc, or-false}
use Rattle.rules.specs.Literals.{has, any_pass}
use Rattle.rules.specs.Sources.{makes, satisfies, Meaning, together, mute}
use Rattle.rules.specs.Books.{Group, keeps, clause_book, group_book}
use Rattle.rules.specs.Drafts.{book_count}
use Rattle.rules.specs.ClauseFilling as C
use Rattle.rules.specs.GroupFilling as G
use Rattle.rules.proofs.Literals.{has_any, any_push}
use Rattle.rulefile.specs.declared.faults.BookFault.{BookFault}
use Rattle.rulefile.specs.Words.{Seen}
use Rattle.rulefile.specs.Outcomes.{Rule, clause, group, Books, with_rule, outcome, told}
use Rattle.rulefile.specs.Grammar.{clauses_of, groups_of, holding, meaning, Accepted, Judged}
use Rattle.rulefile.proofs.GrammarLaws.{file_sound, file_complete, file_once}

-- WHAT THE BOOKS HOLD

rules_held : (n c g : ℕ) (Cs : List (List ℤ)) (Gs : List Group) (rs : List Rule) → fold with_rule (holding n c g Cs Gs) rs ≡ holding n c g (Cs ++ map C.once (clauses_of rs)) (Gs ++ groups_of rs)
rules_held n c g Cs Gs [] = rw (append-nil Cs, append-nil Gs) refl
rules_held n c g Cs Gs (clause ls ∷ rs) = rules_held n c g (Cs ++ (C.once ls ∷ [])) Gs rs ∙ ap (λ k. holding n c g k (Gs ++ groups_of rs)) (append_assoc Cs (C.once ls ∷ []) (map C.once (clauses_of rs)))
rules_held n c g Cs Gs (group k ls ∷ rs) = rules_held n c g Cs (Gs ++ (G.group_of k ls ∷ [])) rs ∙ ap (holding n c g (Cs ++ map C.once (clauses_of rs))) (append_assoc Gs (G.group_of k ls ∷ []) (groups_of rs))

count_same : (n : ℕ) → n ≤ 1000 → book_count n ≡ n
count_same n h = cond-false (ltb 1000 n) 0 n (le-ltb 1000 n h)

-- WHAT THEY ADMIT

or_repeat : (a b c : Bool) → (b ≡ true → a ≡ true) → (a || c) ≡ (a || (b || c))
or_repeat true b c h = refl
or_repeat false true c h = absurd (false≢true (h refl))
or_repeat false false c h = refl

-- repeats make no difference
any_once : (p : ℤ → Bool) (kept ls : List ℤ) → any_pass p (C.once_after kept ls) ≡ (any_pass p kept || any_pass p ls)
any_once p kept [] = sym (or-false (any_pass p kept))
any_once p kept (l ∷ ls) = by (has kept l) refl (λ k. any_once p k ls)
  where
    by : (t : Bool) → has kept l ≡ t → ((k : List ℤ) → any_pass p (C.once_after k ls) ≡ (any_pass p k || any_pass p ls))
        → any_pass p (cond t (C.once_after kept ls) (C.once_after (kept ++ (l ∷ [])) ls)) ≡ (any_pass p kept || (p l || any_pass p ls))
    by true h ih = ih kept ∙ or_repeat (any_pass p kept) (p l) (any_pass p ls) (λ e. has_any p kept l h e)
    by false h ih = ih (kept ++ (l ∷ [])) ∙ ap (λ b. b || any_pass p ls) (any_push p kept l) ∙ or_assoc (any_pass p kept) (p l) (any_pass p ls)

satisfies_once : (bs : List Bool) (ls : List ℤ) → satisfies bs (C.once ls) ≡ satisfies bs ls
satisfies_once bs ls = any_once (makes bs) [] ls

all_once : (bs : List Bool) (Cs : List (List ℤ)) → list_all (satisfies bs) (map C.once Cs) ≡ list_all (satisfies bs) Cs
all_once bs [] = refl
all_once bs (ls ∷ Cs) = ap (λ b. b && list_all (satisfies bs) (map C.once Cs)) (satisfies_once bs ls) ∙ ap (λ b. satisfies bs ls && b) (all_once bs Cs)

books_meaning : (n c g : ℕ) (Cs : List (List ℤ)) (Gs : List Group) → meaning (holding n c g Cs Gs) ≡ together (clause_book n Cs) (group_book n Gs)
books_meaning n c g Cs Gs = cond-true (eqb n n) _ mute (eq-eqb n n refl)

-- THE THEOREM

accepted : (c g : ℕ) (ts : List Seen) (b : Books) → outcome c g ts ≡ Ok b → Accepted c g ts b
accepted c g ts b e =
    let t = file_sound c g ts b e in
    let n = t.variables in
    let rs = t.rules in
    let held : b ≡ holding n c g (map C.once (clauses_of rs)) (groups_of rs) = t.is ∙ rules_held (book_count n) c g [] [] rs ∙ ap (λ k. holding k c g (map C.once (clauses_of rs)) (groups_of rs)) (count_same n t.low) in
    let means = ap meaning held ∙ books_meaning n c g (map C.once (clauses_of rs)) (groups_of rs) in
    record {
      variables = n;
      rules = rs;
      file = t.file;
      only = λ m ss f. file_once ts m n ss rs f t.file;
      taken = t.taken;
      held = held;
      counts = ap (λ (m : Meaning). m.count) means;
      admits = λ bs. ap (λ (m : Meaning). m.admits bs) means ∙ ap (λ k. k && list_all (keeps bs) (groups_of rs)) (all_once bs (clauses_of rs));
    }

pub judged : {X : Type 0} (r : Result X BookFault) (c g : ℕ) (ts : List Seen) (b : Books) → told r b ≡ outcome c g ts → Judged r c g ts b
judged (Ok x) c g ts b e = accepted c g ts b (sym e)
judged (Err f) c g ts b e = λ n rules file taken. cc (file_complete c g ts n rules file taken)
