-- What a fault says of its text.
use Rattle.std.proofs.Common.{◌≡◌, ℕ, zero, suc, ◌+◌, ◌-◌, ◌≤◌, Bool, true, false, cond, eqb, inl, inr, List, [], ◌∷◌, ◌++◌, length, take, ℤ, pos, nat_abs, Some, None, Ok, Err, codes, fold, All, Option, Result, sym, refl, ap, ◌∙◌, subst, arith}
use Rattle.std.specs.Str.{bytes_eq}
use Rattle.std.specs.Prelude.{IfErr}
use Rattle.std.proofs.Math.Seq.{take-length}
use Rattle.std.proofs.lemmas.Bool.{eqb-false}
use Rattle.std.proofs.lemmas.List.Elements.{All-head, All-tail}
use Rattle.std.proofs.lemmas.Slice.Eq.{bytes_eq-Decides}
use Rattle.rules.specs.Rows.{is_zero}
use Rattle.rules.specs.Drafts.{Reply}
use Rattle.rules.specs.declared.refusal.Refusal.{Refusal}
use Rattle.rulefile.specs.Bytes.{class_of}
use Rattle.rulefile.specs.declared.bytes.Class.{Class}
use Rattle.rulefile.specs.declared.bytes.Class.TheVariants.{Blank, LineEnd, Digit, Minus, Other}
use Rattle.rulefile.specs.declared.words.Mode.{Mode}
use Rattle.rulefile.specs.declared.words.Mode.TheVariants.{Fresh, Inside}
use Rattle.rulefile.specs.declared.words.Misspelling.{Misspelling}
use Rattle.rulefile.specs.declared.words.Position.{Position}
use Rattle.rulefile.specs.declared.faults.Misfit.TheVariants.{NotAllowed, Count}
use Rattle.rulefile.specs.declared.faults.FormFault.{FormFault}
use Rattle.rulefile.specs.declared.faults.FormFault.TheVariants as F
use Rattle.rulefile.specs.declared.faults.BookFault.{BookFault}
use Rattle.rulefile.specs.declared.faults.BookFault.TheVariants as B
use Rattle.rulefile.specs.declared.form.Number.{Number}
use Rattle.rulefile.specs.Numbers.{number_of}
use Rattle.rulefile.specs.Words.{passed, line_after, Seen, number, other, bad, end, position, meant, begun, word_seen, At, shown, seen_in}
use Rattle.rulefile.specs.Words as W
use Rattle.rulefile.specs.Places.{feeds, Stands, Shows}
use Rattle.rulefile.specs.Form.{Taken, negative, count_next, opening, literals_next, literals_from}
use Rattle.rulefile.specs.Outcomes.{Rule, clause, group, extended, all, broken, rule, between, limit, within, rules_in, Books, fresh, answer, with_rule, filled, counted, opened, outcome, told}
use Rattle.rulefile.specs.Grammar.{Literals, no_more, one_more, RuleIn, clause_in, group_in, HeadIn, head, clauses_of, takes}
use Rattle.rulefile.specs.Findings.{seen_at, form_at, Has, RulesTo, no_rule, one_rule, Starts, Refused, Found}
use Rattle.rulefile.proofs.FillingLaws.{ruled, clause_all, group_all, number_ruled, within_ruled}
use Rattle.rulefile.proofs.GrammarLaws.{literals_sound, literals_shorter, plain_is, head_of}
use Rattle.rulefile.proofs.PlaceLaws.{text_shows}
use Rattle.rulefile.proofs.StopLaws.{Closed, text_stops}

-- THE END

module _ (ts : List Seen) (h : Closed ts) where
  meant_closed : (w : List ℕ) (a : Position) (z : Result ℤ Misspelling) → Closed (meant w a z ∷ ts)
  meant_closed w a (Ok z) = h
  meant_closed w a (Err k) = h

  begun_closed : (k : Class) (w : List ℕ) (a : Position) → Closed (begun k w a ∷ ts)
  begun_closed Blank w a = h
  begun_closed LineEnd w a = h
  begun_closed Digit w a = meant_closed w a (number_of w)
  begun_closed Minus w a = meant_closed w a (number_of w)
  begun_closed Other w a = h

  word_closed : (w : List ℕ) (a : Position) → Closed (word_seen w a ∷ ts)
  word_closed [] a = h
  word_closed (b ∷ bs) a = begun_closed (class_of b) (b ∷ bs) a

walk_closed : (bs : List ℕ) (st : At) (p l : ℕ) → Closed (shown st p l bs)
walk_closed [] (W.between m) p l = tt
walk_closed [] (W.within w a) p l = word_closed (end (position l p) ∷ []) tt w a
walk_closed (b ∷ bs) (W.between m) p l = by (passed m b) (walk_closed bs)
  where
    by : (o : Option Mode) → ((st : At) (p l : ℕ) → Closed (shown st p l bs))
        → Closed (elim o as (λ _. List Seen) [ None ↦ shown (W.within (b ∷ []) (position l p)) (p + 1) l bs | Some n ↦ shown (W.between n) (p + 1) (line_after l b) bs ])
    by None ih = ih (W.within (b ∷ []) (position l p)) (p + 1) l
    by (Some n) ih = ih (W.between n) (p + 1) (line_after l b)
walk_closed (b ∷ bs) (W.within w a) p l = by (passed Inside b) (walk_closed bs)
  where
    by : (o : Option Mode) → ((st : At) (p l : ℕ) → Closed (shown st p l bs))
        → Closed (elim o as (λ _. List Seen) [ None ↦ shown (W.within (w ++ (b ∷ [])) a) (p + 1) l bs | Some n ↦ word_seen w a ∷ shown (W.between n) (p + 1) (line_after l b) bs ])
    by None ih = ih (W.within (w ++ (b ∷ [])) a) (p + 1) l
    by (Some n) ih = word_closed (shown (W.between n) (p + 1) (line_after l b) bs) (ih (W.between n) (p + 1) (line_after l b)) w a

-- PLACES

module _ (text : List ℕ) where
  seen_stands : (t : Seen) → Shows text t → Stands text (seen_at t)
  seen_stands (number w z p) s = s.0
  seen_stands (other w p) s = s.0
  seen_stands (bad f) s = s.0
  seen_stands (end p) s = (omega (arith, s.1), s.0 ∙ ap (λ k. 1 + feeds k) (sym (ap (λ k. take k text) s.1 ∙ take-length text)))

  has_place : (t : Seen) (f : FormFault) → Has t f → form_at f ≡ seen_at t
  has_place (number w z p) f (inl e) = ap form_at e
  has_place (number w z p) f (inr (inl e)) = ap form_at e
  has_place (number w z p) f (inr (inr e)) = ap form_at e
  has_place (other w p) f e = ap form_at e
  has_place (bad x) f e = ap form_at e
  has_place (end p) f (inl e) = ap form_at e
  has_place (end p) f (inr e) = ap form_at e

  here_shows : (before : List Seen) (t : Seen) (after : List Seen) → All (Shows text) (before ++ (t ∷ after)) → Shows text t
  here_shows [] t after a = All-head (Shows text) t after a
  here_shows (u ∷ us) t after a = here_shows us t after (All-tail (Shows text) u (us ++ (t ∷ after)) a)

  form_found : (c g : ℕ) (f : FormFault) → outcome c g (seen_in text) ≡ Err (B.Form f) → Found text c g (B.Form f)
  form_found c g f e =
      let s = text_stops f c g (seen_in text) (walk_closed text (W.between Fresh) 0 1) e in
      let shows = here_shows s.before s.here s.after (subst (All (Shows text)) s.split (text_shows text)) in
      record { stands = subst (Stands text) (sym (has_place s.here f s.fault)) (seen_stands s.here shows); explained = (s, shows) }

-- FAULTS OF THE BOOKS

-- rules at the front that the books take, and then one that they refuse
record Refusing (n : ℕ) (b : Books) (ts : List Seen) (e : Refusal) (p : Position) : Type 0 where
  rules : List Rule
  here : List Seen
  before : RulesTo ts rules here
  taken : takes b rules
  refused : Rule
  after : List Seen
  ruled : RuleIn here refused after
  starts : Starts here p
  few : length (clauses_of rules) + length (clauses_of (refused ∷ [])) ≤ n
  answered : answer (fold with_rule b rules) refused ≡ Err e

clauses_more : (r : Rule) (rs : List Rule) → length (clauses_of (r ∷ rs)) ≡ length (clauses_of (r ∷ [])) + length (clauses_of rs)
clauses_more (clause ls) rs = omega arith
clauses_more (group k ls) rs = omega arith

module _ (e : Refusal) (p : Position) where
  -- the books' fault in a text of at most k words is such
  abbrev Refuses : ℕ → Type 0
  Refuses k = (n : ℕ) (ts : List Seen) (b : Books) → length ts ≤ k → filled b (rules_in n between ts) ≡ Err (B.Book e p) → Refusing n b ts e p

  one_refused : (k m n : ℕ) (b : Books) (ts : List Seen) (r : Rule) (q : Position) (after : List Seen) → RuleIn ts r after → Starts ts q → length (clauses_of (r ∷ [])) + m ≤ n → length after ≤ k → Refuses k
      → filled b (rule r q (rules_in m between after)) ≡ Err (B.Book e p) → Refusing n b ts e p
  one_refused k m n b ts r q after first starts cost l ih h = by (answer b r) refl h
    where
      by : (a : Reply) → answer b r ≡ a → elim a as (λ _. Result Books BookFault) [ Ok _ ↦ filled (with_rule b r) (rules_in m between after) | Err x ↦ Err (B.Book x q) ] ≡ Err (B.Book e p) → Refusing n b ts e p
      by (Ok u) i j =
          let tail = ih m after (with_rule b r) l j in
          let more = clauses_more r tail.rules in
          record {
            rules = r ∷ tail.rules;
            here = tail.here;
            before = one_rule ts r after tail.rules tail.here first tail.before;
            taken = (i, tail.taken);
            refused = tail.refused;
            after = tail.after;
            ruled = tail.ruled;
            starts = tail.starts;
            few = omega (arith, tail.few, cost, more);
            answered = tail.answered;
          }
      by (Err x) i j =
          let why : x ≡ e = cc in
          let where_it_is : q ≡ p = cc in
          record { rules = []; here = ts; before = no_rule ts; taken = tt; refused = r; after = after; ruled = first; starts = subst (Starts ts) where_it_is starts; few = omega (arith, cost); answered = i ∙ ap Err why }

  -- by the rule's literals
  ruled_refused : (k m n : ℕ) (b : Books) (ts us : List Seen) (r : Rule) (q : Position) → ((ls : List ℤ) (after : List Seen) → Literals us ls after → RuleIn ts (fold extended r ls) after) → Starts ts q → ((ls : List ℤ) → length (clauses_of (fold extended r ls ∷ [])) + m ≤ n) → length us ≤ suc k → Refuses k
      → (L : Taken (List ℤ)) → literals_next us ≡ L → filled b (ruled m r q L) ≡ Err (B.Book e p) → Refusing n b ts e p
  ruled_refused k m n b ts us r q makes starts cost l ih (Err f) i h = cc
  ruled_refused k m n b ts us r q makes starts cost l ih (Ok t) i h =
      let lits = literals_sound us t.0 t.1 i in
      let short = literals_shorter us t.0 t.1 lits in
      one_refused k m n b ts (fold extended r t.0) q t.1 (makes t.0 t.1 lits) starts (cost t.0) (omega arith) ih h

  limit_refused : (k n : ℕ) (q : Position) (us : List Seen) (b : Books) → length us ≤ k → Refuses k → filled b (rules_in n (limit q) us) ≡ Err (B.Book e p) → Refusing n b (other (codes "a") q ∷ us) e p
  limit_refused k n q [] b l ih h = cc
  limit_refused k n q (other v s ∷ us) b l ih h = cc
  limit_refused k n q (bad f ∷ us) b l ih h = cc
  limit_refused k n q (end s ∷ us) b l ih h = cc
  limit_refused k n q (number v z s ∷ us) b l ih h = by (negative z) refl h
    where
      by : (t : Bool) → negative z ≡ t → filled b (cond t (broken (F.Form NotAllowed s)) (rules_in n (within (group (nat_abs z) []) q) us)) ≡ Err (B.Book e p) → Refusing n b (other (codes "a") q ∷ number v z s ∷ us) e p
      by true i h = cc
      by false i h =
          let m = nat_abs z in
          subst (λ y. Refusing n b (other (codes "a") q ∷ number v y s ∷ us) e p) (sym (plain_is z i))
          (ruled_refused k n n b (other (codes "a") q ∷ number v (pos m) s ∷ us) us (group m []) q
          (λ ls after lits. subst (λ r. RuleIn (other (codes "a") q ∷ number v (pos m) s ∷ us) r after) (sym (group_all m [] ls)) (group_in q s v m us ls after lits))
          refl (λ ls. omega (arith, ap (λ r. length (clauses_of (r ∷ []))) (group_all m [] ls))) (omega arith) ih (literals_next us) refl (ap (filled b) (sym (within_ruled n q (group m []) us)) ∙ h))

  rules_refused : (k : ℕ) → Refuses k
  rules_refused k n [] b l h = cc
  rules_refused k n (bad f ∷ ts) b l h = cc
  rules_refused k n (end s ∷ ts) b l h = by (eqb n 0) h
    where
      by : (t : Bool) → filled b (cond t all (broken (F.Form Count s))) ≡ Err (B.Book e p) → Refusing n b (end s ∷ ts) e p
      by true h = cc
      by false h = cc
  rules_refused zero n (other v s ∷ ts) b l h = absurd (omega arith)
  rules_refused zero n (number v z s ∷ ts) b l h = absurd (omega arith)
  rules_refused (suc k) n (number v z s ∷ ts) b l h = by (eqb n 0) refl h (rules_refused k)
    where
      by : (t : Bool) → eqb n 0 ≡ t → filled b (cond t (broken (F.Form Count s)) (cond (is_zero z) (rule (clause []) s (rules_in (n - 1) between ts)) (rules_in (n - 1) (within (clause (z ∷ [])) s) ts))) ≡ Err (B.Book e p)
          → Refuses k → Refusing n b (number v z s ∷ ts) e p
      by true i h ih = cc
      by false i h ih =
          let ne = eqb-false n 0 i in
          ruled_refused k (n - 1) n b (number v z s ∷ ts) (number v z s ∷ ts) (clause []) s
          (λ ls after lits. subst (λ r. RuleIn (number v z s ∷ ts) r after) (sym (clause_all [] ls)) (clause_in (number v z s ∷ ts) ls after lits))
          refl (λ ls. omega (arith, ap (λ r. length (clauses_of (r ∷ []))) (clause_all [] ls))) l ih (literals_from z ts) refl (ap (filled b) (sym (number_ruled (n - 1) s (clause []) z ts (within_ruled (n - 1) s (clause (z ∷ [])) ts))) ∙ h)
  rules_refused (suc k) n (other v s ∷ ts) b l h = by (bytes_eq v (codes "a")) refl h (rules_refused k)
    where
      by : (t : Bool) → bytes_eq v (codes "a") ≡ t → filled b (cond t (rules_in n (limit s) ts) (broken (F.Form NotAllowed s))) ≡ Err (B.Book e p) → Refuses k → Refusing n b (other v s ∷ ts) e p
      by true i h ih = subst (λ x. Refusing n b (other x s ∷ ts) e p) (sym ((bytes_eq-Decides v (codes "a")).0 i)) (limit_refused k n s ts b (omega arith) ih h)
      by false i h ih = cc

  book_refused : (c g : ℕ) (ts : List Seen) → outcome c g ts ≡ Err (B.Book e p) → Refused c g ts e p
  book_refused c g ts h = by (opening ts) refl h
    where
      by : (t : Taken (Number ℕ)) → opening ts ≡ t → opened c g t ≡ Err (B.Book e p) → Refused c g ts e p
      by (Err f) q h = cc
      by (Ok t) q h = on (count_next 65535 t.1) refl h
        where
          on : (u : Taken (Number ℕ)) → count_next 65535 t.1 ≡ u → counted (fresh t.0.value c g) u ≡ Err (B.Book e p) → Refused c g ts e p
          on (Err f) i h = cc
          on (Ok u) i h =
              let m = rules_refused (length u.1) u.0.value u.1 (fresh t.0.value c g) (omega arith) h in
              record {
                variables = t.0.value;
                count = u.0.value;
                body = u.1;
                headed = head_of ts t u q i;
                rules = m.rules;
                here = m.here;
                before = m.before;
                taken = m.taken;
                refused = m.refused;
                after = m.after;
                ruled = m.ruled;
                starts = m.starts;
                few = m.few;
                answered = m.answered;
              }

-- what is left behind a part stands in the text too
module _ (P : Seen → Type 0) where
  literals_keep : (ts : List Seen) (ls : List ℤ) (after : List Seen) → Literals ts ls after → All P ts → All P after
  literals_keep ts0 ls0 after0 (no_more w p after) a = All-tail P (number w (pos 0) p) after a
  literals_keep ts0 ls0 after0 (one_more w z p ts ls after h more) a = literals_keep ts ls after more (All-tail P (number w z p) ts a)

  rule_keeps : (ts : List Seen) (r : Rule) (after : List Seen) → RuleIn ts r after → All P ts → All P after
  rule_keeps ts0 r0 after0 (clause_in ts ls after lits) a = literals_keep ts ls after lits a
  rule_keeps ts0 r0 after0 (group_in p q w k ts ls after lits) a =
      literals_keep ts ls after lits (All-tail P (number w (pos k) q) ts (All-tail P (other (codes "a") p) (number w (pos k) q ∷ ts) a))

  rules_keep : (ts : List Seen) (rs : List Rule) (after : List Seen) → RulesTo ts rs after → All P ts → All P after
  rules_keep ts0 rs0 after0 (no_rule ts) a = a
  rules_keep ts0 rs0 after0 (one_rule ts r middle rs after first more) a = rules_keep middle rs after more (rule_keeps ts r middle first a)

  head_keeps : (ts : List Seen) (n m : ℕ) (after : List Seen) → HeadIn ts n m after → All P ts → All P after
  head_keeps ts0 n0 m0 after0 (head p q r s v w n m after hn hm) a =
      All-tail P (number w (pos m) s) after (All-tail P (number v (pos n) r) (number w (pos m) s ∷ after)
      (All-tail P (other (codes "cnf") q) (number v (pos n) r ∷ number w (pos m) s ∷ after) (All-tail P (other (codes "p") p) (other (codes "cnf") q ∷ number v (pos n) r ∷ number w (pos m) s ∷ after) a)))

module _ (text : List ℕ) where
  starts_stands : (ts : List Seen) (p : Position) → Starts ts p → All (Shows text) ts → Stands text p
  starts_stands [] p s a = absurd s
  starts_stands (t ∷ ts) p s a = subst (Stands text) s (seen_stands text t (All-head (Shows text) t ts a))

  book_found : (c g : ℕ) (e : Refusal) (p : Position) → outcome c g (seen_in text) ≡ Err (B.Book e p) → Found text c g (B.Book e p)
  book_found c g e p h =
      let r = book_refused e p c g (seen_in text) h in
      let a = rules_keep (Shows text) r.body r.rules r.here r.before (head_keeps (Shows text) (seen_in text) r.variables r.count r.body r.headed (text_shows text)) in
      record { stands = starts_stands r.here p r.starts a; explained = r }

  pub found : {X : Type 0} (r : Result X BookFault) (c g : ℕ) (b : Books) → told r b ≡ outcome c g (seen_in text) → IfErr r (Found text c g)
  found (Ok x) c g b e = tt
  found (Err (B.Form f)) c g b e = form_found text c g f (sym e)
  found (Err (B.Book x p)) c g b e = book_found c g x p (sym e)
