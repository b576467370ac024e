-- A text is read exactly when it is a file whose rules the books take.
use Rattle.std.proofs.Common.{◌≡◌, ℕ, zero, suc, ◌-◌, ◌<◌, ◌≤◌, Bool, true, false, cond, eqb, ltb, List, [], ◌∷◌, length, ℤ, pos, negsuc, nat_abs, Ok, Err, codes, fold, Result, sym, refl, ap, ◌∙◌, subst, arith}
use Rattle.std.specs.Str.{bytes_eq}
use Rattle.std.proofs.lemmas.Slice.Eq.{bytes_eq-Decides}
use Rattle.std.proofs.lemmas.Bool.{cond-true, cond-false, eqb-true, eqb-false, ne_eqb, le-ltb, ltb-false, false≢true}
use Rattle.rules.specs.Rows.{is_zero}
use Rattle.rules.specs.Drafts.{Reply}
use Rattle.rulefile.specs.declared.words.Position.{Position}
use Rattle.rulefile.specs.declared.faults.Misfit.TheVariants.{NotAllowed, Count}
use Rattle.rulefile.specs.declared.faults.FormFault.TheVariants as F
use Rattle.rulefile.specs.declared.faults.BookFault.{BookFault}
use Rattle.rulefile.specs.declared.faults.BookFault.TheVariants as B
use Rattle.rulefile.specs.declared.form.Number.{Number}
use Rattle.rulefile.specs.Words.{Seen, number, other, bad, end}
use Rattle.rulefile.specs.Form.{Taken, negative, misfit, limited, count_next, word_next, and_then, opening, with_literal, literals_next, literals_from}
use Rattle.rulefile.specs.Outcomes.{Rule, clause, group, extended, Rules, all, broken, rule, between, limit, within, rules_in, Books, fresh, answer, with_rule, filled, counted, opened, outcome}
use Rattle.rulefile.specs.Grammar.{Literals, no_more, one_more, RuleIn, clause_in, group_in, RulesIn, no_rule, one_rule, HeadIn, head, clauses_of, File, takes}
use Rattle.rulefile.proofs.RuleLaws.{ok_first, ok_second}
use Rattle.rules.proofs.RowLaws.{zero_word}
use Rattle.rulefile.proofs.FillingLaws.{ruled, clause_all, group_all, number_ruled, within_ruled}

-- LITERALS

with_literal_ok : (z : ℤ) (L : Taken (List ℤ)) (ls : List ℤ) (rest : List Seen) → with_literal z L ≡ Ok (ls, rest) → (ms : List ℤ) × (L ≡ Ok (ms, rest)) × (ls ≡ z ∷ ms)
with_literal_ok z (Ok t) ls rest e = (t.0, ap (λ k. Ok (t.0, k)) (ok_second e), sym (ok_first e))
with_literal_ok z (Err f) ls rest e = cc

pub literals_sound : (ts : List Seen) (ls : List ℤ) (rest : List Seen) → literals_next ts ≡ Ok (ls, rest) → Literals ts ls rest
literals_sound [] ls rest e = cc
literals_sound (other w p ∷ ts) ls rest e = cc
literals_sound (bad f ∷ ts) ls rest e = cc
literals_sound (end p ∷ ts) ls rest e = cc
literals_sound (number w z p ∷ ts) ls rest e = by (is_zero z) refl e (literals_sound ts)
  where
    by : (t : Bool) → is_zero z ≡ t → cond t (Ok ([], ts)) (with_literal z (literals_next ts)) ≡ Ok (ls, rest) → ((ms : List ℤ) (k : List Seen) → literals_next ts ≡ Ok (ms, k) → Literals ts ms k) → Literals (number w z p ∷ ts) ls rest
    by true h q ih = subst (λ k. Literals (number w k p ∷ ts) ls rest) (sym (zero_word z h))
        (subst (λ k. Literals (number w (pos 0) p ∷ ts) k rest) (ok_first q) (subst (λ k. Literals (number w (pos 0) p ∷ ts) [] k) (ok_second q) (no_more w p ts)))
    by false h q ih =
        let r = with_literal_ok z (literals_next ts) ls rest q in
        subst (λ k. Literals (number w z p ∷ ts) k rest) (sym r.2) (one_more w z p ts r.0 rest h (ih r.0 rest r.1))

literals_complete : (ts : List Seen) (ls : List ℤ) (after : List Seen) → Literals ts ls after → literals_next ts ≡ Ok (ls, after)
literals_complete ts0 ls0 after0 (no_more w p after) = refl
literals_complete ts0 ls0 after0 (one_more w z p ts ls after h more) = cond-false (is_zero z) _ _ h ∙ ap (with_literal z) (literals_complete ts ls after more)

-- literals are at least one word, the first a number
record Begun (ts : List Seen) : Type 0 where
  word : List ℕ
  value : ℤ
  at : Position
  rest : List Seen
  is : ts ≡ number word value at ∷ rest

literals_begun : (ts : List Seen) (ls : List ℤ) (after : List Seen) → Literals ts ls after → Begun ts
literals_begun ts0 ls0 after0 (no_more w p after) = record { word = w; value = pos 0; at = p; rest = after; is = refl }
literals_begun ts0 ls0 after0 (one_more w z p ts ls after h more) = record { word = w; value = z; at = p; rest = ts; is = refl }

pub literals_shorter : (ts : List Seen) (ls : List ℤ) (after : List Seen) → Literals ts ls after → length after < length ts
literals_shorter ts0 ls0 after0 (no_more w p after) = omega arith
literals_shorter ts0 ls0 after0 (one_more w z p ts ls after h more) = let i = literals_shorter ts ls after more in omega arith

-- RULES

-- these rules, to the end of the text
abbrev pub Whole : Rules → List Rule → Type 0
Whole all [] = Unit {0}
Whole all (r ∷ rs) = ⊥
Whole (broken f) rs = ⊥
Whole (rule r p rest) [] = ⊥
Whole (rule r p rest) (s ∷ rs) = (r ≡ s) × Whole rest rs

-- a rule with its literals, and the rules after it
record Ruled (n : ℕ) (r : Rule) (ls : Taken (List ℤ)) (rs : List Rule) : Type 0 where
  literals : List ℤ
  after : List Seen
  is : ls ≡ Ok (literals, after)
  more : List Rule
  rules : rs ≡ fold extended r literals ∷ more
  whole : Whole (rules_in n between after) more

ruled_whole : (n : ℕ) (r : Rule) (p : Position) (ls : Taken (List ℤ)) (rs : List Rule) → Whole (ruled n r p ls) rs → Ruled n r ls rs
ruled_whole n r p (Err f) rs w = absurd w
ruled_whole n r p (Ok t) [] w = absurd w
ruled_whole n r p (Ok t) (s ∷ rs) (e, w) = record { literals = t.0; after = t.1; is = refl; more = rs; rules = ap (λ k. k ∷ rs) (sym e); whole = w }

pub plain_is : (z : ℤ) → negative z ≡ false → z ≡ pos (nat_abs z)
plain_is (pos n) e = refl
plain_is (negsuc n) e = absurd (false≢true (sym e))

-- the text is these rules, with n clauses
abbrev Sound : ℕ → List Seen → List Rule → Type 0
Sound n ts rs = RulesIn ts rs × (length (clauses_of rs) ≡ n)

-- what reading a text of at most k words gives is right
abbrev Sounds : ℕ → Type 0
Sounds k = (n : ℕ) (ts : List Seen) (rs : List Rule) → length ts ≤ k → Whole (rules_in n between ts) rs → Sound n ts rs

clause_sound : (k n : ℕ) (ts : List Seen) (rs : List Rule) → length ts ≤ suc k → Sounds k → 0 < n → Ruled (n - 1) (clause []) (literals_next ts) rs → Sound n ts rs
clause_sound k n ts rs l ih some q =
    let lits = literals_sound ts q.literals q.after q.is in
    let short = literals_shorter ts q.literals q.after lits in
    let i = ih (n - 1) q.after q.more (omega arith) q.whole in
    let same : rs ≡ clause q.literals ∷ q.more = q.rules ∙ ap (λ r. r ∷ q.more) (clause_all [] q.literals) in
    subst (Sound n ts) (sym same) (one_rule ts (clause q.literals) q.after q.more (clause_in ts q.literals q.after lits) i.0, omega (arith, i.1))

group_sound : (k n : ℕ) (p q : Position) (w : List ℕ) (m : ℕ) (ts : List Seen) (rs : List Rule) → length ts ≤ k → Sounds k → Ruled n (group m []) (literals_next ts) rs
    → Sound n (other (codes "a") p ∷ number w (pos m) q ∷ ts) rs
group_sound k n p q w m ts rs l ih g =
    let all-ts = other (codes "a") p ∷ number w (pos m) q ∷ ts in
    let lits = literals_sound ts g.literals g.after g.is in
    let short = literals_shorter ts g.literals g.after lits in
    let i = ih n g.after g.more (omega arith) g.whole in
    let same : rs ≡ group m g.literals ∷ g.more = g.rules ∙ ap (λ r. r ∷ g.more) (group_all m [] g.literals) in
    subst (Sound n all-ts) (sym same) (one_rule all-ts (group m g.literals) g.after g.more (group_in p q w m ts g.literals g.after lits) i.0, i.1)

-- after the word `a`
limit_sound : (k n : ℕ) (p : Position) (ts : List Seen) (rs : List Rule) → length ts ≤ k → Sounds k → Whole (rules_in n (limit p) ts) rs → Sound n (other (codes "a") p ∷ ts) rs
limit_sound k n p [] rs l ih w = absurd w
limit_sound k n p (bad f ∷ ts) rs l ih w = absurd w
limit_sound k n p (end q ∷ ts) rs l ih w = absurd w
limit_sound k n p (other v q ∷ ts) rs l ih w = absurd w
limit_sound k n p (number v z q ∷ ts) rs l ih w = by (negative z) refl w
  where
    by : (t : Bool) → negative z ≡ t → Whole (cond t (broken (F.Form NotAllowed q)) (rules_in n (within (group (nat_abs z) []) p) ts)) rs → Sound n (other (codes "a") p ∷ number v z q ∷ ts) rs
    by true e w = absurd w
    by false e w =
        let m = nat_abs z in
        subst (λ y. Sound n (other (codes "a") p ∷ number v y q ∷ ts) rs) (sym (plain_is z e))
        (group_sound k n p q v m ts rs (omega arith) ih (ruled_whole n (group m []) p (literals_next ts) rs (subst (λ x. Whole x rs) (within_ruled n p (group m []) ts) w)))

rules_sound : (k : ℕ) → Sounds k
rules_sound k n [] rs l w = absurd w
rules_sound k n (bad f ∷ ts) rs l w = absurd w
rules_sound k n (end p ∷ ts) rs l w = by (eqb n 0) refl rs w
  where
    by : (t : Bool) → eqb n 0 ≡ t → (rs : List Rule) → Whole (cond t all (broken (F.Form Count p))) rs → Sound n (end p ∷ ts) rs
    by true e [] w = (no_rule p ts, sym (eqb-true n 0 e))
    by true e (r ∷ rs) w = absurd w
    by false e rs w = absurd w
rules_sound zero n (other v p ∷ ts) rs l w = absurd (omega arith)
rules_sound zero n (number v z p ∷ ts) rs l w = absurd (omega arith)
rules_sound (suc k) n (number v z p ∷ ts) rs l w = by (eqb n 0) refl w (rules_sound k)
  where
    by : (t : Bool) → eqb n 0 ≡ t → Whole (cond t (broken (F.Form Count p)) (cond (is_zero z) (rule (clause []) p (rules_in (n - 1) between ts)) (rules_in (n - 1) (within (clause (z ∷ [])) p) ts))) rs → Sounds k → Sound n (number v z p ∷ ts) rs
    by true e w ih = absurd w
    by false e w ih =
        let ne = eqb-false n 0 e in
        clause_sound k n (number v z p ∷ ts) rs l ih (omega arith)
        (ruled_whole (n - 1) (clause []) p (literals_from z ts) rs (subst (λ x. Whole x rs) (number_ruled (n - 1) p (clause []) z ts (within_ruled (n - 1) p (clause (z ∷ [])) ts)) w))
rules_sound (suc k) n (other v p ∷ ts) rs l w = by (bytes_eq v (codes "a")) refl w (rules_sound k)
  where
    by : (t : Bool) → bytes_eq v (codes "a") ≡ t → Whole (cond t (rules_in n (limit p) ts) (broken (F.Form NotAllowed p))) rs → Sounds k → Sound n (other v p ∷ ts) rs
    by true e w ih = subst (λ x. Sound n (other x p ∷ ts) rs) (sym ((bytes_eq-Decides v (codes "a")).0 e)) (limit_sound k n p ts rs (omega arith) ih w)
    by false e w ih = absurd w

-- the other way: a rule is read as such
clause_rules : (n : ℕ) (ts : List Seen) (ls : List ℤ) (after : List Seen) → Literals ts ls after → (p : Position) × (rules_in (suc n) between ts ≡ rule (clause ls) p (rules_in n between after))
clause_rules n ts ls after lits =
    let s = literals_begun ts ls after lits in
    let z = s.value in
    let p = s.at in
    let us = s.rest in
    let less : suc n - 1 ≡ n = omega arith in
    let ne : eqb (suc n) 0 ≡ false = ne_eqb (suc n) 0 (λ q. omega arith) in
    let next : literals_from z us ≡ Ok (ls, after) = ap literals_next (sym s.is) ∙ literals_complete ts ls after lits in (
      p,
      ap (rules_in (suc n) between) s.is ∙ cond-false (eqb (suc n) 0) _ _ ne
          ∙ ap (λ m. cond (is_zero z) (rule (clause []) p (rules_in m between us)) (rules_in m (within (clause (z ∷ [])) p) us)) less
          ∙ number_ruled n p (clause []) z us (within_ruled n p (clause (z ∷ [])) us) ∙ ap (ruled n (clause []) p) next
          ∙ ap (λ r. rule r p (rules_in n between after)) (clause_all [] ls),
    )

group_rules : (n : ℕ) (p : Position) (k : ℕ) (ts : List Seen) (ls : List ℤ) (after : List Seen) → Literals ts ls after → rules_in n (within (group k []) p) ts ≡ rule (group k ls) p (rules_in n between after)
group_rules n p k ts ls after lits =
    within_ruled n p (group k []) ts ∙ ap (ruled n (group k []) p) (literals_complete ts ls after lits) ∙ ap (λ r. rule r p (rules_in n between after)) (group_all k [] ls)

one_complete : (n : ℕ) (ts : List Seen) (r : Rule) (after : List Seen) (rs : List Rule) → RuleIn ts r after → n ≡ length (clauses_of rs) → Whole (rules_in n between after) rs → Whole (rules_in (length (clauses_of (r ∷ rs))) between ts) (r ∷ rs)
one_complete n ts0 r0 after0 rs (clause_in ts ls after lits) e w =
    let q = clause_rules (length (clauses_of rs)) ts ls after lits in
    subst (λ k. Whole k (clause ls ∷ rs)) (sym q.1) (refl, subst (λ k. Whole (rules_in k between after) rs) e w)
one_complete n ts0 r0 after0 rs (group_in p q v k ts ls after lits) e w =
    subst (λ x. Whole x (group k ls ∷ rs)) (sym (group_rules (length (clauses_of rs)) p k ts ls after lits)) (refl, subst (λ k. Whole (rules_in k between after) rs) e w)

rules_complete : (ts : List Seen) (rs : List Rule) → RulesIn ts rs → Whole (rules_in (length (clauses_of rs)) between ts) rs
rules_complete ts0 rs0 (no_rule p ts) = tt
rules_complete ts0 rs0 (one_rule ts r after rs x more) = one_complete (length (clauses_of rs)) ts r after rs x refl (rules_complete after rs more)

-- BOOKS

-- rules to the end of the text that the books took
record Filled (b : Books) (R : Rules) (b' : Books) : Type 0 where
  rules : List Rule
  whole : Whole R rules
  taken : takes b rules
  is : b' ≡ fold with_rule b rules

filled_sound : (R : Rules) (b b' : Books) → filled b R ≡ Ok b' → Filled b R b'
filled_sound all b b' e = record { rules = []; whole = tt; taken = tt; is = sym (cc) }
filled_sound (broken f) b b' e = cc
filled_sound (rule r p rest) b b' e = by (answer b r) refl e (filled_sound rest (with_rule b r) b')
  where
    by : (a : Reply) → answer b r ≡ a → elim a as (λ _. Result Books BookFault) [ Ok _ ↦ filled (with_rule b r) rest | Err f ↦ Err (B.Book f p) ] ≡ Ok b'
        → (filled (with_rule b r) rest ≡ Ok b' → Filled (with_rule b r) rest b') → Filled b (rule r p rest) b'
    by (Ok u) q h ih = let i = ih h in record { rules = r ∷ i.rules; whole = (refl, i.whole); taken = (q, i.taken); is = i.is }
    by (Err f) q h ih = cc

filled_complete : (R : Rules) (rs : List Rule) (b : Books) → Whole R rs → takes b rs → filled b R ≡ Ok (fold with_rule b rs)
filled_complete all [] b w t = refl
filled_complete all (r ∷ rs) b w t = absurd w
filled_complete (broken f) rs b w t = absurd w
filled_complete (rule r p rest) [] b w t = absurd w
filled_complete (rule r p rest) (s ∷ rs) b (e, w) (a, t) =
    ap (λ k. filled b (rule k p rest)) e
    ∙ ap (λ (k : Reply). elim k as (λ _. Result Books BookFault) [ Ok _ ↦ filled (with_rule b s) rest | Err f ↦ Err (B.Book f p) ]) a
    ∙ filled_complete rest rs (with_rule b s) w t

-- THE HEAD

and_then_ok : {X Y : Type 0} (t : Taken X) (next : List Seen → Taken Y) (y : Y × List Seen) → and_then t next ≡ Ok y → (x : X × List Seen) × (t ≡ Ok x) × (next x.1 ≡ Ok y)
and_then_ok (Ok x) next y e = (x, refl, e)
and_then_ok (Err f) next y e = cc

pub word_ok : (key : List ℕ) (ts : List Seen) (x : Unit {0} × List Seen) → word_next key ts ≡ Ok x → (p : Position) × (ts ≡ other key p ∷ x.1)
word_ok key [] x e = cc
word_ok key (number w z p ∷ ts) x e = cc
word_ok key (bad f ∷ ts) x e = cc
word_ok key (end p ∷ ts) x e = cc
word_ok key (other w p ∷ ts) x e = by (bytes_eq w key) refl e
  where
    by : (t : Bool) → bytes_eq w key ≡ t → cond t (Ok (tt, ts)) (misfit NotAllowed p) ≡ Ok x → (q : Position) × (other w p ∷ ts ≡ other key q ∷ x.1)
    by true h q = (p, let i = (bytes_eq-Decides w key).0 h in let j = ok_second q in cc)
    by false h q = cc

pub record CountAt (most : ℕ) (ts : List Seen) (x : Number ℕ) (rest : List Seen) : Type 0 where
  pub word : List ℕ
  pub at : Position
  pub is : ts ≡ number word (pos x.value) at ∷ rest
  pub low : x.value ≤ most

pub count_ok : (most : ℕ) (ts : List Seen) (x : Number ℕ) (rest : List Seen) → count_next most ts ≡ Ok (x, rest) → CountAt most ts x rest
count_ok most [] x rest e = cc
count_ok most (other w p ∷ ts) x rest e = cc
count_ok most (bad f ∷ ts) x rest e = cc
count_ok most (end p ∷ ts) x rest e = cc
count_ok most (number w z p ∷ ts) x rest e = by (negative z) refl (ltb most (nat_abs z)) refl e
  where
    by : (s : Bool) → negative z ≡ s → (t : Bool) → ltb most (nat_abs z) ≡ t
        → limited most (cond s (misfit NotAllowed p) (Ok (record { value = nat_abs z; at = p }, ts))) ≡ Ok (x, rest) → CountAt most (number w z p ∷ ts) x rest
    by true h t i q = cc
    by false h true i q = let j = sym (cond-true (ltb most (nat_abs z)) _ _ i) ∙ q in cc
    by false h false i q =
        let j = sym (cond-false (ltb most (nat_abs z)) _ _ i) ∙ q in
        let v : nat_abs z ≡ x.value = ap (λ (k : Number ℕ). k.value) (ok_first j) in
        record { word = w; at = p; is = ap (λ k. number w k p ∷ ts) (plain_is z h ∙ ap pos v) ∙ ap (λ k. number w (pos x.value) p ∷ k) (ok_second j); low = subst (λ k. k ≤ most) v (ltb-false most (nat_abs z) i) }

-- a head, by what was read of it
pub head_of : (ts : List Seen) (t u : Number ℕ × List Seen) → opening ts ≡ Ok t → count_next 65535 t.1 ≡ Ok u → HeadIn ts t.0.value u.0.value u.1
head_of ts t u q i =
    let x = and_then_ok (word_next (codes "p") ts) (λ rest. and_then (word_next (codes "cnf") rest) (count_next 1000)) t q in
    let y = and_then_ok (word_next (codes "cnf") x.0.1) (count_next 1000) t x.2 in
    let p = word_ok (codes "p") ts x.0 x.1 in
    let cnf = word_ok (codes "cnf") x.0.1 y.0 y.1 in
    let n = count_ok 1000 y.0.1 t.0 t.1 y.2 in
    let m = count_ok 65535 t.1 u.0 u.1 i in
    let is : ts ≡ other (codes "p") p.0 ∷ other (codes "cnf") cnf.0 ∷ number n.word (pos t.0.value) n.at ∷ number m.word (pos u.0.value) m.at ∷ u.1 =
    p.1 ∙ ap (λ k. other (codes "p") p.0 ∷ k) (cnf.1 ∙ ap (λ k. other (codes "cnf") cnf.0 ∷ k) (n.is ∙ ap (λ k. number n.word (pos t.0.value) n.at ∷ k) m.is)) in
    subst (λ k. HeadIn k t.0.value u.0.value u.1) (sym is) (head p.0 cnf.0 n.at m.at n.word m.word t.0.value u.0.value u.1 n.low m.low)

head_low : (ts : List Seen) (n m : ℕ) (after : List Seen) → HeadIn ts n m after → n ≤ 1000
head_low ts0 n0 m0 after0 (head p q r s v w n m after hn hm) = hn

-- a head, and rules that fill the books
record Headed (c g : ℕ) (ts : List Seen) (b : Books) : Type 0 where
  variables : ℕ
  count : ℕ
  rest : List Seen
  headed : HeadIn ts variables count rest
  fills : filled (fresh variables c g) (rules_in count between rest) ≡ Ok b

head_sound : (c g : ℕ) (ts : List Seen) (b : Books) → outcome c g ts ≡ Ok b → Headed c g ts b
head_sound c g ts b e = by (opening ts) refl e
  where
    by : (t : Taken (Number ℕ)) → opening ts ≡ t → opened c g t ≡ Ok b → Headed c g ts b
    by (Err f) q h = cc
    by (Ok t) q h = on (count_next 65535 t.1) refl h
      where
        on : (u : Taken (Number ℕ)) → count_next 65535 t.1 ≡ u → counted (fresh t.0.value c g) u ≡ Ok b → Headed c g ts b
        on (Err f) i k = cc
        on (Ok u) i k = record { variables = t.0.value; count = u.0.value; rest = u.1; headed = head_of ts t u q i; fills = k }

-- a head as it is read
pub record HeadRead (ts : List Seen) (n m : ℕ) (after : List Seen) : Type 0 where
  pub variables : Number ℕ
  pub count : Number ℕ
  pub rest : List Seen
  pub opens : opening ts ≡ Ok (variables, rest)
  pub counts : count_next 65535 rest ≡ Ok (count, after)
  pub variables_is : variables.value ≡ n
  pub count_is : count.value ≡ m

pub head_read : (ts : List Seen) (n m : ℕ) (after : List Seen) → HeadIn ts n m after → HeadRead ts n m after
head_read ts0 n0 m0 after0 (head p q r s v w n m after hn hm) = record {
  variables = record { value = n; at = r };
  count = record { value = m; at = s };
  rest = number w (pos m) s ∷ after;
  opens = cond-false (ltb 1000 n) _ _ (le-ltb 1000 n hn);
  counts = cond-false (ltb 65535 m) _ _ (le-ltb 65535 m hm);
  variables_is = refl;
  count_is = refl;
}

head_complete : (c g : ℕ) (ts : List Seen) (n m : ℕ) (after : List Seen) → HeadIn ts n m after → outcome c g ts ≡ filled (fresh n c g) (rules_in m between after)
head_complete c g ts n m after h =
    let r = head_read ts n m after h in
    ap (opened c g) r.opens ∙ ap (counted (fresh r.variables.value c g)) r.counts
    ∙ ap (λ k. filled (fresh k c g) (rules_in r.count.value between after)) r.variables_is ∙ ap (λ k. filled (fresh n c g) (rules_in k between after)) r.count_is

-- FILES

pub file_whole : (ts : List Seen) (n : ℕ) (rules : List Rule) (f : File ts n rules) → Whole (rules_in f.count between f.body) rules
file_whole ts n rules f = subst (λ m. Whole (rules_in m between f.body) rules) f.counted (rules_complete f.body rules f.ruled)

-- a file whose rules the books took
pub record Taking (c g : ℕ) (ts : List Seen) (b : Books) : Type 0 where
  pub variables : ℕ
  pub low : variables ≤ 1000
  pub rules : List Rule
  pub file : File ts variables rules
  pub taken : takes (fresh variables c g) rules
  pub is : b ≡ fold with_rule (fresh variables c g) rules

pub file_sound : (c g : ℕ) (ts : List Seen) (b : Books) → outcome c g ts ≡ Ok b → Taking c g ts b
file_sound c g ts b e =
    let h = head_sound c g ts b e in
    let f = filled_sound (rules_in h.count between h.rest) (fresh h.variables c g) b h.fills in
    let s = rules_sound (length h.rest) h.count h.rest f.rules (omega arith) f.whole in
    record {
      variables = h.variables;
      low = head_low ts h.variables h.count h.rest h.headed;
      rules = f.rules;
      file = record { count = h.count; body = h.rest; headed = h.headed; ruled = s.0; counted = s.1 };
      taken = f.taken;
      is = f.is;
    }

pub file_complete : (c g : ℕ) (ts : List Seen) (n : ℕ) (rules : List Rule) → File ts n rules → takes (fresh n c g) rules → outcome c g ts ≡ Ok (fold with_rule (fresh n c g) rules)
file_complete c g ts n rules f t =
    head_complete c g ts n f.count f.body f.headed
    ∙ filled_complete (rules_in f.count between f.body) rules (fresh n c g) (file_whole ts n rules f) t

-- A text is one file at most.

whole_once : (R : Rules) (rs ss : List Rule) → Whole R rs → Whole R ss → rs ≡ ss
whole_once all [] [] w v = refl
whole_once all [] (s ∷ ss) w v = absurd v
whole_once all (r ∷ rs) ss w v = absurd w
whole_once (broken f) rs ss w v = absurd w
whole_once (rule r p rest) [] ss w v = absurd w
whole_once (rule r p rest) (s ∷ rs) [] w v = absurd v
whole_once (rule r p rest) (s ∷ rs) (t ∷ ss) (e, w) (d, v) = ap (λ k. k ∷ rs) (sym e ∙ d) ∙ ap (λ k. t ∷ k) (whole_once rest rs ss w v)

pub file_once : (ts : List Seen) (n n' : ℕ) (rules rules' : List Rule) → File ts n rules → File ts n' rules' → (n ≡ n') × (rules ≡ rules')
file_once ts n n' rules rules' f g =
    let a = head_read ts n f.count f.body f.headed in
    let b = head_read ts n' g.count g.body g.headed in
    let opens = sym a.opens ∙ b.opens in
    let counts = sym a.counts ∙ ap (count_next 65535) (ok_second opens) ∙ b.counts in
    let m : f.count ≡ g.count = sym a.count_is ∙ ap (λ (x : Number ℕ). x.value) (ok_first counts) ∙ b.count_is in (
      sym a.variables_is ∙ ap (λ (x : Number ℕ). x.value) (ok_first opens) ∙ b.variables_is,
      whole_once (rules_in g.count between g.body) rules rules'
          (subst (λ k. Whole (rules_in k between g.body) rules) m (subst (λ k. Whole (rules_in f.count between k) rules) (ok_second counts) (file_whole ts n rules f)))
          (file_whole ts n' rules' g),
    )
