-- The fault of a form is of the first word with which a text cannot go on to a file.
use Rattle.std.proofs.Common.{◌≡◌, ℕ, zero, suc, ◌-◌, ◌≤◌, Bool, true, false, cond, eqb, ltb, inl, inr, List, [], ◌∷◌, ◌++◌, length, ℤ, pos, nat_abs, Ok, Err, codes, Result, sym, refl, ap, ◌∙◌, subst, arith}
use Rattle.std.specs.Str.{bytes_eq}
use Rattle.std.proofs.lemmas.Bool.{cond-true, cond-false, eqb-false, le-ltb}
use Rattle.std.proofs.lemmas.Slice.Eq.{bytes_eq-Decides}
use Rattle.rules.specs.Rows.{is_zero}
use Rattle.rules.specs.Drafts.{Reply}
use Rattle.rules.proofs.RowLaws.{zero_word}
use Rattle.rulefile.specs.declared.words.Position.{Position}
use Rattle.rulefile.specs.declared.faults.Misfit.TheVariants.{NotAllowed, TooLarge, Count, Ends}
use Rattle.rulefile.specs.declared.faults.FormFault.{FormFault}
use Rattle.rulefile.specs.declared.faults.FormFault.TheVariants as F
use Rattle.rulefile.specs.declared.faults.BookFault.{BookFault}
use Rattle.rulefile.specs.declared.faults.BookFault.TheVariants as B
use Rattle.rulefile.specs.declared.form.Number.{Number}
use Rattle.rulefile.specs.Words.{Seen, number, other, bad, end, position}
use Rattle.rulefile.specs.Form.{Taken, negative, misfit, limited, count_next, word_next, and_then, opening}
use Rattle.rulefile.specs.Outcomes.{Rule, clause, group, extended, Rules, all, broken, rule, State, between, limit, within, rules_in, Books, fresh, answer, with_rule, filled, counted, opened, outcome}
use Rattle.rulefile.specs.Grammar.{Literals, no_more, one_more, clause_in, group_in, RulesIn, no_rule, one_rule, HeadIn, head, clauses_of, File}
use Rattle.rulefile.specs.Findings.{Has, Stops}
use Rattle.rulefile.proofs.RuleLaws.{ok_first, ok_second}
use Rattle.rulefile.proofs.GrammarLaws.{plain_is, word_ok, count_ok, head_read, Whole, file_whole}

-- these end with the text's end
abbrev pub Closed : List Seen → Type 0
Closed [] = ⊥
Closed (number w z p ∷ ts) = Closed ts
Closed (other w p ∷ ts) = Closed ts
Closed (bad f ∷ ts) = Closed ts
Closed (end p ∷ ts) = Unit {0}

-- HOW A FILE CAN GO ON

-- rules to the end, with n clauses
record Rest (n : ℕ) (ts : List Seen) : Type 0 where
  rules : List Rule
  ruled : RulesIn ts rules
  counted : length (clauses_of rules) ≡ n

-- the same behind literals, and behind a limit and literals
record Tail (n : ℕ) (ts : List Seen) : Type 0 where
  literals : List ℤ
  middle : List Seen
  is : Literals ts literals middle
  rest : Rest n middle

record Limited (n : ℕ) (ts : List Seen) : Type 0 where
  word : List ℕ
  value : ℕ
  at : Position
  after : List Seen
  is : ts ≡ number word (pos value) at ∷ after
  tail : Tail n after

abbrev GoesOn : ℕ → State → List Seen → Type 0
GoesOn n between ts = Rest n ts
GoesOn n (limit a) ts = Limited n ts
GoesOn n (within r a) ts = Tail n ts

abbrev start : Position
start = position 0 0

abbrev nought : Seen
nought = number [] (pos 0) start

clause_rest : (n m : ℕ) (ts : List Seen) → n ≡ suc m → Tail m ts → Rest n ts
clause_rest n m ts e t = record {
  rules = clause t.literals ∷ t.rest.rules;
  ruled = one_rule ts (clause t.literals) t.middle t.rest.rules (clause_in ts t.literals t.middle t.is) t.rest.ruled;
  counted = omega (arith, e, t.rest.counted);
}

group_rest : (n : ℕ) (p : Position) (ts : List Seen) → Limited n ts → Rest n (other (codes "a") p ∷ ts)
group_rest n p ts l =
    let t = l.tail in
    subst (λ k. Rest n (other (codes "a") p ∷ k)) (sym l.is)
    (record {
      rules = group l.value t.literals ∷ t.rest.rules;
      ruled = one_rule (other (codes "a") p ∷ number l.word (pos l.value) l.at ∷ l.after) (group l.value t.literals) t.middle t.rest.rules (group_in p l.at l.word l.value l.after t.literals t.middle t.is) t.rest.ruled;
      counted = t.rest.counted;
    })

zero_tail : (n : ℕ) (w : List ℕ) (z : ℤ) (p : Position) (ts : List Seen) → is_zero z ≡ true → Rest n ts → Tail n (number w z p ∷ ts)
zero_tail n w z p ts h r = record { literals = []; middle = ts; is = subst (λ k. Literals (number w k p ∷ ts) [] ts) (sym (zero_word z h)) (no_more w p ts); rest = r }

literal_tail : (n : ℕ) (w : List ℕ) (z : ℤ) (p : Position) (ts : List Seen) → is_zero z ≡ false → Tail n ts → Tail n (number w z p ∷ ts)
literal_tail n w z p ts h t = record { literals = z ∷ t.literals; middle = t.middle; is = one_more w z p ts t.literals t.middle h t.is; rest = t.rest }

some_rest : (n : ℕ) → (ts : List Seen) × Rest n ts
some_rest zero = (end start ∷ [], record { rules = []; ruled = no_rule start []; counted = refl })
some_rest (suc n) = let r = some_rest n in (nought ∷ r.0, clause_rest (suc n) n (nought ∷ r.0) refl (zero_tail n [] (pos 0) start r.0 refl r.1))

some_tail : (n : ℕ) → (ts : List Seen) × Tail n ts
some_tail n = let r = some_rest n in (nought ∷ r.0, zero_tail n [] (pos 0) start r.0 refl r.1)

some_way : (n : ℕ) (st : State) → (ts : List Seen) × GoesOn n st ts
some_way n between = some_rest n
some_way n (limit a) = let t = some_tail n in (nought ∷ t.0, record { word = []; value = 0; at = start; after = t.0; is = refl; tail = t.1 })
some_way n (within r a) = some_tail n

-- RULES

-- a word that rules cannot go on with: before it they can, and with it they come to the same, whatever follows
record Stop (n : ℕ) (st : State) (ts : List Seen) (R : Rules) (f : FormFault) : Type 0 where
  before : List Seen
  here : Seen
  after : List Seen
  split : ts ≡ before ++ (here ∷ after)
  fault : Has here f
  same : (us : List Seen) → rules_in n st (before ++ (here ∷ us)) ≡ R
  begins : (us : List Seen) × GoesOn n st (before ++ us)

-- the fault that breaks rules off, if any, is such
abbrev Breaks : Rules → (FormFault → Type 0) → Type 0
Breaks all P = Unit {0}
Breaks (broken f) P = P f
Breaks (rule r p rest) P = Breaks rest P

breaks_map : (P Q : FormFault → Type 0) → ((f : FormFault) → P f → Q f) → (R : Rules) → Breaks R P → Breaks R Q
breaks_map P Q i all h = tt
breaks_map P Q i (broken f) h = i f h
breaks_map P Q i (rule r p rest) h = breaks_map P Q i rest h

module _ (n : ℕ) (st : State) (t : Seen) (ts : List Seen) (R : Rules) where
  stop_here : (f : FormFault) → Has t f → ((us : List Seen) → rules_in n st (t ∷ us) ≡ R) → Stop n st (t ∷ ts) R f
  stop_here f h e = record { before = []; here = t; after = ts; split = refl; fault = h; same = e; begins = some_way n st }

  stop_later : (n' : ℕ) (st' : State) (R' : Rules) → ((us : List Seen) → rules_in n' st' us ≡ R' → rules_in n st (t ∷ us) ≡ R) → ((us : List Seen) → GoesOn n' st' us → GoesOn n st (t ∷ us))
      → Breaks R' (Stop n' st' ts R') → Breaks R' (Stop n st (t ∷ ts) R)
  stop_later n' st' R' e g b = breaks_map (Stop n' st' ts R') (Stop n st (t ∷ ts) R) one R' b
    where
      one : (f : FormFault) → Stop n' st' ts R' f → Stop n st (t ∷ ts) R f
      one f s = record {
        before = t ∷ s.before;
        here = s.here;
        after = s.after;
        split = ap (λ k. t ∷ k) s.split;
        fault = s.fault;
        same = λ us. e (s.before ++ (s.here ∷ us)) (s.same us);
        begins = (s.begins.0, g (s.before ++ s.begins.0) s.begins.1);
      }

rules_stop : (n : ℕ) (st : State) (ts : List Seen) → Closed ts → Breaks (rules_in n st ts) (Stop n st ts (rules_in n st ts))
rules_stop n st [] h = absurd h
rules_stop n st (bad f ∷ ts) h = stop_here n st (bad f) ts (broken (F.Word f)) (F.Word f) refl (λ us. refl)
rules_stop n between (end p ∷ ts) h = by (eqb n 0) refl
  where
    by : (t : Bool) → eqb n 0 ≡ t → Breaks (cond t all (broken (F.Form Count p))) (Stop n between (end p ∷ ts) (cond t all (broken (F.Form Count p))))
    by true i = tt
    by false i = stop_here n between (end p) ts (broken (F.Form Count p)) (F.Form Count p) (inr refl) (λ us. cond-false (eqb n 0) _ _ i)
rules_stop n (limit a) (end p ∷ ts) h = stop_here n (limit a) (end p) ts (broken (F.Form Ends p)) (F.Form Ends p) (inl refl) (λ us. refl)
rules_stop n (within r a) (end p ∷ ts) h = stop_here n (within r a) (end p) ts (broken (F.Form Ends p)) (F.Form Ends p) (inl refl) (λ us. refl)
rules_stop n between (other w p ∷ ts) h = by (bytes_eq w (codes "a")) refl (rules_stop n (limit p) ts h)
  where
    by : (t : Bool) → bytes_eq w (codes "a") ≡ t → Breaks (rules_in n (limit p) ts) (Stop n (limit p) ts (rules_in n (limit p) ts))
        → Breaks (cond t (rules_in n (limit p) ts) (broken (F.Form NotAllowed p))) (Stop n between (other w p ∷ ts) (cond t (rules_in n (limit p) ts) (broken (F.Form NotAllowed p))))
    by true i s = stop_later n between (other w p) ts (rules_in n (limit p) ts) n (limit p) (rules_in n (limit p) ts) (λ us q. cond-true (bytes_eq w (codes "a")) _ _ i ∙ q)
        (λ us l. subst (λ k. Rest n (other k p ∷ us)) (sym ((bytes_eq-Decides w (codes "a")).0 i)) (group_rest n p us l)) s
    by false i s = stop_here n between (other w p) ts (broken (F.Form NotAllowed p)) (F.Form NotAllowed p) refl (λ us. cond-false (bytes_eq w (codes "a")) _ _ i)
rules_stop n (limit a) (other w p ∷ ts) h = stop_here n (limit a) (other w p) ts (broken (F.Form NotAllowed p)) (F.Form NotAllowed p) refl (λ us. refl)
rules_stop n (within r a) (other w p ∷ ts) h = stop_here n (within r a) (other w p) ts (broken (F.Form NotAllowed p)) (F.Form NotAllowed p) refl (λ us. refl)
rules_stop n between (number w z p ∷ ts) h = by (eqb n 0) refl (is_zero z) refl (rules_stop (n - 1) between ts h) (rules_stop (n - 1) (within (clause (z ∷ [])) p) ts h)
  where
    by : (s : Bool) → eqb n 0 ≡ s → (t : Bool) → is_zero z ≡ t → Breaks (rules_in (n - 1) between ts) (Stop (n - 1) between ts (rules_in (n - 1) between ts))
        → Breaks (rules_in (n - 1) (within (clause (z ∷ [])) p) ts) (Stop (n - 1) (within (clause (z ∷ [])) p) ts (rules_in (n - 1) (within (clause (z ∷ [])) p) ts))
        → Breaks (cond s (broken (F.Form Count p)) (cond t (rule (clause []) p (rules_in (n - 1) between ts)) (rules_in (n - 1) (within (clause (z ∷ [])) p) ts)))
        (Stop n between (number w z p ∷ ts) (cond s (broken (F.Form Count p)) (cond t (rule (clause []) p (rules_in (n - 1) between ts)) (rules_in (n - 1) (within (clause (z ∷ [])) p) ts))))
    by true i t j x y = stop_here n between (number w z p) ts (broken (F.Form Count p)) (F.Form Count p) (inr (inr refl)) (λ us. cond-true (eqb n 0) _ _ i)
    by false i true j x y =
        let ne = eqb-false n 0 i in
        stop_later n between (number w z p) ts (rule (clause []) p (rules_in (n - 1) between ts)) (n - 1) between (rules_in (n - 1) between ts)
        (λ us q. cond-false (eqb n 0) _ _ i ∙ cond-true (is_zero z) _ _ j ∙ ap (rule (clause []) p) q)
        (λ us r. clause_rest n (n - 1) (number w z p ∷ us) (omega arith) (zero_tail (n - 1) w z p us j r)) x
    by false i false j x y =
        let ne = eqb-false n 0 i in
        stop_later n between (number w z p) ts (rules_in (n - 1) (within (clause (z ∷ [])) p) ts) (n - 1) (within (clause (z ∷ [])) p) (rules_in (n - 1) (within (clause (z ∷ [])) p) ts)
        (λ us q. cond-false (eqb n 0) _ _ i ∙ cond-false (is_zero z) _ _ j ∙ q)
        (λ us r. clause_rest n (n - 1) (number w z p ∷ us) (omega arith) (literal_tail (n - 1) w z p us j r)) y
rules_stop n (limit a) (number w z p ∷ ts) h = by (negative z) refl (rules_stop n (within (group (nat_abs z) []) a) ts h)
  where
    by : (t : Bool) → negative z ≡ t → Breaks (rules_in n (within (group (nat_abs z) []) a) ts) (Stop n (within (group (nat_abs z) []) a) ts (rules_in n (within (group (nat_abs z) []) a) ts))
        → Breaks (cond t (broken (F.Form NotAllowed p)) (rules_in n (within (group (nat_abs z) []) a) ts)) (Stop n (limit a) (number w z p ∷ ts) (cond t (broken (F.Form NotAllowed p)) (rules_in n (within (group (nat_abs z) []) a) ts)))
    by true i x = stop_here n (limit a) (number w z p) ts (broken (F.Form NotAllowed p)) (F.Form NotAllowed p) (inl refl) (λ us. cond-true (negative z) _ _ i)
    by false i x = stop_later n (limit a) (number w z p) ts (rules_in n (within (group (nat_abs z) []) a) ts) n (within (group (nat_abs z) []) a) (rules_in n (within (group (nat_abs z) []) a) ts)
        (λ us q. cond-false (negative z) _ _ i ∙ q)
        (λ us t. record { word = w; value = nat_abs z; at = p; after = us; is = ap (λ k. number w k p ∷ us) (plain_is z i); tail = t }) x
rules_stop n (within r a) (number w z p ∷ ts) h = by (is_zero z) refl (rules_stop n between ts h) (rules_stop n (within (extended r z) a) ts h)
  where
    by : (t : Bool) → is_zero z ≡ t → Breaks (rules_in n between ts) (Stop n between ts (rules_in n between ts))
        → Breaks (rules_in n (within (extended r z) a) ts) (Stop n (within (extended r z) a) ts (rules_in n (within (extended r z) a) ts))
        → Breaks (cond t (rule r a (rules_in n between ts)) (rules_in n (within (extended r z) a) ts)) (Stop n (within r a) (number w z p ∷ ts) (cond t (rule r a (rules_in n between ts)) (rules_in n (within (extended r z) a) ts)))
    by true i x y = stop_later n (within r a) (number w z p) ts (rule r a (rules_in n between ts)) n between (rules_in n between ts)
        (λ us q. cond-true (is_zero z) _ _ i ∙ ap (rule r a) q) (λ us t. zero_tail n w z p us i t) x
    by false i x y = stop_later n (within r a) (number w z p) ts (rules_in n (within (extended r z) a) ts) n (within (extended r z) a) (rules_in n (within (extended r z) a) ts)
        (λ us q. cond-false (is_zero z) _ _ i ∙ q) (λ us t. literal_tail n w z p us i t) y

module _ (f : FormFault) where
  filled_breaks : (P : FormFault → Type 0) (R : Rules) (b : Books) → Breaks R P → filled b R ≡ Err (B.Form f) → P f
  filled_breaks P all b h e = cc
  filled_breaks P (broken x) b h e = let q : x ≡ f = cc in subst P q h
  filled_breaks P (rule r p rest) b h e = by (answer b r) e (filled_breaks P rest (with_rule b r) h)
    where
      by : (a : Reply) → elim a as (λ _. Result Books BookFault) [ Ok _ ↦ filled (with_rule b r) rest | Err x ↦ Err (B.Book x p) ] ≡ Err (B.Form f) → (filled (with_rule b r) rest ≡ Err (B.Form f) → P f) → P f
      by (Ok u) q ih = ih q
      by (Err x) q ih = cc

  -- rules that break off do not reach the end
  broken_off : (R : Rules) (b : Books) → filled b R ≡ Err (B.Form f) → (rs : List Rule) → Whole R rs → ⊥
  broken_off all b e rs w = cc
  broken_off (broken x) b e rs w = w
  broken_off (rule r p rest) b e [] w = w
  broken_off (rule r p rest) b e (s ∷ rs) (i, w) = by (answer b r) e (broken_off rest (with_rule b r))
    where
      by : (a : Reply) → elim a as (λ _. Result Books BookFault) [ Ok _ ↦ filled (with_rule b r) rest | Err x ↦ Err (B.Book x p) ] ≡ Err (B.Form f)
          → (filled (with_rule b r) rest ≡ Err (B.Form f) → (rs : List Rule) → Whole rest rs → ⊥) → ⊥
      by (Ok u) q ih = ih q rs w
      by (Err x) q ih = cc

-- THE HEAD

head_same : (ts : List Seen) (n m : ℕ) (us : List Seen) (n' m' : ℕ) (us' : List Seen) → HeadIn ts n m us → HeadIn ts n' m' us' → (m ≡ m') × (us ≡ us')
head_same ts n m us n' m' us' f g =
    let a = head_read ts n m us f in
    let b = head_read ts n' m' us' g in
    let opens = sym a.opens ∙ b.opens in
    let counts = sym a.counts ∙ ap (count_next 65535) (ok_second opens) ∙ b.counts in
    (sym a.count_is ∙ ap (λ (x : Number ℕ). x.value) (ok_first counts) ∙ b.count_is, ok_second counts)

-- a fault of the first word, whatever follows
record First {X : Type 0} (read : List Seen → Taken X) (ts : List Seen) (f : FormFault) : Type 0 where
  here : Seen
  after : List Seen
  is : ts ≡ here ∷ after
  fault : Has here f
  same : (us : List Seen) → read (here ∷ us) ≡ Err f

word_first : (key : List ℕ) (f : FormFault) (ts : List Seen) → Closed ts → word_next key ts ≡ Err f → First (word_next key) ts f
word_first key f [] h e = absurd h
word_first key f (number w z p ∷ ts) h e = let q : F.Form NotAllowed p ≡ f = cc in record { here = number w z p; after = ts; is = refl; fault = inl (sym q); same = λ us. e }
word_first key f (bad g ∷ ts) h e = let q : F.Word g ≡ f = cc in record { here = bad g; after = ts; is = refl; fault = sym q; same = λ us. e }
word_first key f (end p ∷ ts) h e = let q : F.Form Ends p ≡ f = cc in record { here = end p; after = ts; is = refl; fault = inl (sym q); same = λ us. e }
word_first key f (other w p ∷ ts) h e = by (bytes_eq w key) refl e
  where
    by : (t : Bool) → bytes_eq w key ≡ t → cond {A = Taken (Unit {0})} t (Ok (tt, ts)) (misfit NotAllowed p) ≡ Err f → First (word_next key) (other w p ∷ ts) f
    by true i k = cc
    by false i k = let q : F.Form NotAllowed p ≡ f = cc in record { here = other w p; after = ts; is = refl; fault = sym q; same = λ us. cond-false (bytes_eq w key) _ _ i ∙ k }

count_first : (most : ℕ) (f : FormFault) (ts : List Seen) → Closed ts → count_next most ts ≡ Err f → First (count_next most) ts f
count_first most f [] h e = absurd h
count_first most f (other w p ∷ ts) h e = let q : F.Form NotAllowed p ≡ f = cc in record { here = other w p; after = ts; is = refl; fault = sym q; same = λ us. e }
count_first most f (bad g ∷ ts) h e = let q : F.Word g ≡ f = cc in record { here = bad g; after = ts; is = refl; fault = sym q; same = λ us. e }
count_first most f (end p ∷ ts) h e = let q : F.Form Ends p ≡ f = cc in record { here = end p; after = ts; is = refl; fault = inl (sym q); same = λ us. e }
count_first most f (number w z p ∷ ts) h e = by (negative z) refl e
  where
    large : negative z ≡ false → (t : Bool) → ltb most (nat_abs z) ≡ t → cond {A = Taken (Number ℕ)} t (misfit TooLarge p) (Ok (record { value = nat_abs z; at = p }, ts)) ≡ Err f → First (count_next most) (number w z p ∷ ts) f
    large i false j k = cc
    large i true j k =
        let q : F.Form TooLarge p ≡ f = cc in
        record { here = number w z p; after = ts; is = refl; fault = inr (inl (sym q)); same = λ us. ap (limited most) (cond-false (negative z) _ _ i) ∙ cond-true (ltb most (nat_abs z)) _ _ j ∙ k }

    by : (t : Bool) → negative z ≡ t → limited most (cond {A = Taken (Number ℕ)} t (misfit NotAllowed p) (Ok (record { value = nat_abs z; at = p }, ts))) ≡ Err f → First (count_next most) (number w z p ∷ ts) f
    by true i k = let q : F.Form NotAllowed p ≡ f = cc in record { here = number w z p; after = ts; is = refl; fault = inl (sym q); same = λ us. ap (limited most) (cond-true (negative z) _ _ i) ∙ k }
    by false i k = large i (ltb most (nat_abs z)) refl k

unopened : (f : FormFault) (ts : List Seen) → opening ts ≡ Err f → (n : ℕ) (rules : List Rule) → File ts n rules → ⊥
unopened f ts e n rules file = let h = head_read ts n file.count file.body file.headed in let x = sym e ∙ h.opens in cc

no_rules : (p q r : Position) (v : List ℕ) (n : ℕ) → n ≤ 1000 → File (other (codes "p") p ∷ other (codes "cnf") q ∷ number v (pos n) r ∷ nought ∷ end start ∷ []) n []
no_rules p q r v n l = record { count = 0; body = end start ∷ []; headed = head p q r start v [] n 0 (end start ∷ []) l (omega arith); ruled = no_rule start []; counted = refl }

module _ (f : FormFault) (p : Position) where
  module _ (q : Position) where
    module _ (r : Position) (v : List ℕ) (n : ℕ) (low : n ≤ 1000) where
      rules_stops : (s : Position) (w : List ℕ) (m : ℕ) → m ≤ 65535 → (ts : List Seen) (b : Books) → Closed ts → filled b (rules_in m between ts) ≡ Err (B.Form f)
          → Stops (other (codes "p") p ∷ other (codes "cnf") q ∷ number v (pos n) r ∷ number w (pos m) s ∷ ts) f
      rules_stops s w m few ts b closed e =
          let t = filled_breaks f (Stop m between ts (rules_in m between ts)) (rules_in m between ts) b (rules_stop m between ts closed) e in
          record {
            before = other (codes "p") p ∷ other (codes "cnf") q ∷ number v (pos n) r ∷ number w (pos m) s ∷ t.before;
            here = t.here;
            after = t.after;
            split = ap (λ k. other (codes "p") p ∷ other (codes "cnf") q ∷ number v (pos n) r ∷ number w (pos m) s ∷ k) t.split;
            fault = t.fault;
            begins = (
              t.begins.0,
              n,
              t.begins.1.rules,
              record {
                count = m;
                body = t.before ++ t.begins.0;
                headed = head p q r s v w n m (t.before ++ t.begins.0) low few;
                ruled = t.begins.1.ruled;
                counted = t.begins.1.counted;
              },
            );
            ends = λ us n' rules file.
                let rest = t.before ++ (t.here ∷ us) in
                let all_of = other (codes "p") p ∷ other (codes "cnf") q ∷ number v (pos n) r ∷ number w (pos m) s ∷ rest in
                let h = head_same all_of n m rest n' file.count file.body (head p q r s v w n m rest low few) file.headed in
                broken_off f (rules_in m between ts) b e rules
                (subst (λ k. Whole k rules) (t.same us) (subst (λ k. Whole (rules_in m between k) rules) (sym h.1) (subst (λ k. Whole (rules_in k between file.body) rules) (sym h.0) (file_whole all_of n' rules file))));
          }

      -- from the number of clauses on
      body_stops : (ts : List Seen) (b : Books) → Closed ts → (u : Taken (Number ℕ)) → count_next 65535 ts ≡ u → counted b u ≡ Err (B.Form f) → Stops (other (codes "p") p ∷ other (codes "cnf") q ∷ number v (pos n) r ∷ ts) f
      body_stops ts b closed (Ok u) i e =
          let c = count_ok 65535 ts u.0 u.1 i in
          subst (λ k. Stops (other (codes "p") p ∷ other (codes "cnf") q ∷ number v (pos n) r ∷ k) f) (sym c.is)
          (rules_stops c.at c.word u.0.value c.low u.1 b (subst Closed c.is closed) e)
      body_stops ts b closed (Err x) i e =
          let same : x ≡ f = cc in
          let t = count_first 65535 f ts closed (i ∙ ap Err same) in
          record {
            before = other (codes "p") p ∷ other (codes "cnf") q ∷ number v (pos n) r ∷ [];
            here = t.here;
            after = t.after;
            split = ap (λ k. other (codes "p") p ∷ other (codes "cnf") q ∷ number v (pos n) r ∷ k) t.is;
            fault = t.fault;
            begins = (nought ∷ end start ∷ [], n, [], no_rules p q r v n low);
            ends = λ us n' rules file.
                let all_of = other (codes "p") p ∷ other (codes "cnf") q ∷ number v (pos n) r ∷ t.here ∷ us in
                let h = head_read all_of n' file.count file.body file.headed in
                let o : ◌≡◌ {A = Taken (Number ℕ)} (Ok (record { value = n; at = r }, t.here ∷ us)) (Ok (h.variables, h.rest)) = sym (cond-false (ltb 1000 n) _ _ (le-ltb 1000 n low)) ∙ h.opens in
                let x = sym (t.same us) ∙ ap (count_next 65535) (ok_second o) ∙ h.counts in
                cc;
          }

    -- from the number of variables on
    variables_stop : (c g : ℕ) (ts : List Seen) → Closed ts → (t : Taken (Number ℕ)) → count_next 1000 ts ≡ t → opened c g t ≡ Err (B.Form f) → Stops (other (codes "p") p ∷ other (codes "cnf") q ∷ ts) f
    variables_stop c g ts closed (Ok t) i e =
        let k = count_ok 1000 ts t.0 t.1 i in
        subst (λ k. Stops (other (codes "p") p ∷ other (codes "cnf") q ∷ k) f) (sym k.is)
        (body_stops k.at k.word t.0.value k.low t.1 (fresh t.0.value c g) (subst Closed k.is closed) (count_next 65535 t.1) refl e)
    variables_stop c g ts closed (Err x) i e =
        let same : x ≡ f = cc in
        let t = count_first 1000 f ts closed (i ∙ ap Err same) in
        record {
          before = other (codes "p") p ∷ other (codes "cnf") q ∷ [];
          here = t.here;
          after = t.after;
          split = ap (λ k. other (codes "p") p ∷ other (codes "cnf") q ∷ k) t.is;
          fault = t.fault;
          begins = (nought ∷ nought ∷ end start ∷ [], 0, [], no_rules p q start [] 0 (omega arith));
          ends = λ us. unopened f (other (codes "p") p ∷ other (codes "cnf") q ∷ t.here ∷ us) (t.same us);
        }

  -- from the word `cnf` on
  cnf_stops : (c g : ℕ) (ts : List Seen) → Closed ts → (t : Taken (Unit {0})) → word_next (codes "cnf") ts ≡ t → opened c g (and_then t (count_next 1000)) ≡ Err (B.Form f) → Stops (other (codes "p") p ∷ ts) f
  cnf_stops c g ts closed (Ok t) i e =
      let k = word_ok (codes "cnf") ts t i in
      subst (λ k. Stops (other (codes "p") p ∷ k) f) (sym k.1) (variables_stop k.0 c g t.1 (subst Closed k.1 closed) (count_next 1000 t.1) refl e)
  cnf_stops c g ts closed (Err x) i e =
      let same : x ≡ f = cc in
      let t = word_first (codes "cnf") f ts closed (i ∙ ap Err same) in
      record {
        before = other (codes "p") p ∷ [];
        here = t.here;
        after = t.after;
        split = ap (λ k. other (codes "p") p ∷ k) t.is;
        fault = t.fault;
        begins = (other (codes "cnf") start ∷ nought ∷ nought ∷ end start ∷ [], 0, [], no_rules p start start [] 0 (omega arith));
        ends = λ us. unopened f (other (codes "p") p ∷ t.here ∷ us) (ap (λ k. and_then k (count_next 1000)) (t.same us));
      }

pub text_stops : (f : FormFault) (c g : ℕ) (ts : List Seen) → Closed ts → outcome c g ts ≡ Err (B.Form f) → Stops ts f
text_stops f c g ts closed e = by (word_next (codes "p") ts) refl e
  where
    by : (t : Taken (Unit {0})) → word_next (codes "p") ts ≡ t → opened c g (and_then t (λ rest. and_then (word_next (codes "cnf") rest) (count_next 1000))) ≡ Err (B.Form f) → Stops ts f
    by (Ok t) i h =
        let k = word_ok (codes "p") ts t i in
        subst (λ k. Stops k f) (sym k.1) (cnf_stops f k.0 c g t.1 (subst Closed k.1 closed) (word_next (codes "cnf") t.1) refl h)
    by (Err x) i h =
        let same : x ≡ f = cc in
        let t = word_first (codes "p") f ts closed (i ∙ ap Err same) in
        record {
          before = [];
          here = t.here;
          after = t.after;
          split = t.is;
          fault = t.fault;
          begins = (other (codes "p") start ∷ other (codes "cnf") start ∷ nought ∷ nought ∷ end start ∷ [], 0, [], no_rules start start start [] 0 (omega arith));
          ends = λ us. unopened f (t.here ∷ us) (ap (λ k. and_then k (λ rest. and_then (word_next (codes "cnf") rest) (count_next 1000))) (t.same us));
        }
