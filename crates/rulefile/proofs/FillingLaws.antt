-- Laws of the rules of a file: one rule more, and then the rest.
use Rattle.std.proofs.Common.{◌≡◌, ℕ, ◌-◌, ◌<◌, ◌≤◌, Bool, true, false, cond, eqb, List, [], ◌∷◌, ◌++◌, length, ℤ, nat_abs, Some, None, Ok, Err, codes, fold, Option, Result, sym, refl, ap, ◌∙◌, subst, append_assoc, append-nil, arith}
use Rattle.std.specs.Str.{bytes_eq}
use Rattle.std.proofs.lemmas.Bool.{eqb-false}
use Rattle.rules.specs.Rows.{is_zero}
use Rattle.rules.specs.Drafts.{Reply}
use Rattle.rules.specs.ClauseFilling as C
use Rattle.rules.specs.GroupFilling as G
use Rattle.rulefile.specs.declared.words.Position.{Position}
use Rattle.rulefile.specs.declared.faults.Misfit.TheVariants.{NotAllowed, Count}
use Rattle.rulefile.specs.declared.faults.FormFault.TheVariants as F
use Rattle.rulefile.specs.declared.faults.BookFault.{BookFault}
use Rattle.rulefile.specs.declared.faults.BookFault.TheVariants as B
use Rattle.rulefile.specs.declared.form.Number.{Number}
use Rattle.rulefile.specs.declared.form.Start.{Start}
use Rattle.rulefile.specs.declared.form.Start.TheVariants as S
use Rattle.rulefile.specs.Words.{Seen, number, other, bad, end}
use Rattle.rulefile.specs.Form.{Taken, negative, misfit, natural_next, start_next, with_literal, literals_next, literals_from}
use Rattle.rulefile.specs.Outcomes.{Rule, clause, group, extended, Rules, all, broken, rule, between, limit, within, rules_in, Books, both, filled, told, placed, rule_read, clause_read, group_rule, group_read}
use Rattle.rulefile.proofs.RuleLaws.{ok_first, ok_second}

-- THE RULES OF A TEXT

-- the rules from a rule on, by the literals that are still to come
abbrev pub ruled : ℕ → Rule → Position → Taken (List ℤ) → Rules
ruled n r p (Ok t) = rule (fold extended r t.0) p (rules_in n between t.1)
ruled n r p (Err f) = broken f

module _ (n : ℕ) (p : Position) where
  ruled_one : (r : Rule) (z : ℤ) (ls : Taken (List ℤ)) → ruled n (extended r z) p ls ≡ ruled n r p (with_literal z ls)
  ruled_one r z (Ok t) = refl
  ruled_one r z (Err f) = refl

  -- from a number of a rule on
  pub number_ruled : (r : Rule) (z : ℤ) (ts : List Seen) → rules_in n (within (extended r z) p) ts ≡ ruled n (extended r z) p (literals_next ts)
      → cond (is_zero z) (rule r p (rules_in n between ts)) (rules_in n (within (extended r z) p) ts) ≡ ruled n r p (literals_from z ts)
  number_ruled r z ts h = by (is_zero z)
    where
      by : (t : Bool) → cond t (rule r p (rules_in n between ts)) (rules_in n (within (extended r z) p) ts) ≡ ruled n r p (cond t (Ok ([], ts)) (with_literal z (literals_next ts)))
      by true = refl
      by false = h ∙ ruled_one r z (literals_next ts)

  pub within_ruled : (r : Rule) (ts : List Seen) → rules_in n (within r p) ts ≡ ruled n r p (literals_next ts)
  within_ruled r [] = refl
  within_ruled r (number w z q ∷ ts) = number_ruled r z ts (within_ruled (extended r z) ts)
  within_ruled r (other w q ∷ ts) = refl
  within_ruled r (bad f ∷ ts) = refl
  within_ruled r (end q ∷ ts) = refl

-- the rules from a group's limit on
abbrev grouped : ℕ → Position → Taken (Number ℕ) → Rules
grouped n p (Ok t) = ruled n (group t.0.value []) p (literals_next t.1)
grouped n p (Err f) = broken f

limit_grouped : (n : ℕ) (p : Position) (ts : List Seen) → rules_in n (limit p) ts ≡ grouped n p (natural_next ts)
limit_grouped n p [] = refl
limit_grouped n p (number w z q ∷ ts) = by (negative z)
  where
    by : (t : Bool) → cond t (broken (F.Form NotAllowed q)) (rules_in n (within (group (nat_abs z) []) p) ts) ≡ grouped n p (cond t (misfit NotAllowed q) (Ok (record { value = nat_abs z; at = q }, ts)))
    by true = refl
    by false = within_ruled n p (group (nat_abs z) []) ts
limit_grouped n p (other w q ∷ ts) = refl
limit_grouped n p (bad f ∷ ts) = refl
limit_grouped n p (end q ∷ ts) = refl

-- the rules from what begins between them
abbrev pub started : ℕ → Taken (Option Start) → Rules
started n (Ok t) = elim t.0 [
  | Some k ↦ elim k [ S.Clause x ↦ ruled (n - 1) (clause []) x.at (literals_from x.value t.1) | S.Group p ↦ grouped n p (natural_next t.1) ]
  | None ↦ all
]
started n (Err f) = broken f

pub rules_started : (n : ℕ) (ts : List Seen) → rules_in n between ts ≡ started n (start_next n ts)
rules_started n [] = refl
rules_started n (bad f ∷ ts) = refl
rules_started n (end p ∷ ts) = by (eqb n 0)
  where
    by : (t : Bool) → cond t all (broken (F.Form Count p)) ≡ started n (cond t (Ok (None, end p ∷ ts)) (misfit Count p))
    by true = refl
    by false = refl
rules_started n (other w p ∷ ts) = by (bytes_eq w (codes "a"))
  where
    by : (t : Bool) → cond t (rules_in n (limit p) ts) (broken (F.Form NotAllowed p)) ≡ started n (cond t (Ok (Some (S.Group p), ts)) (misfit NotAllowed p))
    by true = limit_grouped n p ts
    by false = refl
rules_started n (number w z p ∷ ts) = by (eqb n 0)
  where
    by : (t : Bool) → cond t (broken (F.Form Count p)) (cond (is_zero z) (rule (clause []) p (rules_in (n - 1) between ts)) (rules_in (n - 1) (within (clause (z ∷ [])) p) ts)) ≡ started n (cond t (misfit Count p) (Ok (Some (S.Clause (record { value = z; at = p })), ts)))
    by true = refl
    by false = number_ruled (n - 1) p (clause []) z ts (within_ruled (n - 1) p (clause (z ∷ [])) ts)

-- THE WORDS LEFT

-- at most so many words are left, and what was made of the others is as it should be
abbrev Went : {X E : Type 0} → ℕ → (X → Type 0) → Result (X × List Seen) E → Type 0
Went len P (Ok t) = (length t.1 ≤ len) × P t.0
Went len P (Err f) = Unit {0}

-- what begins is one word, and a clause begins only where one is left
abbrev Began : ℕ → ℕ → Taken (Option Start) → Type 0
Began n len (Ok t) = elim t.0 [ Some k ↦ elim k [ S.Clause x ↦ (0 < n) × (length t.1 < len) | S.Group p ↦ length t.1 < len ] | None ↦ Unit {0} ]
Began n len (Err f) = Unit {0}

began : (n : ℕ) (ts : List Seen) → Began n (length ts) (start_next n ts)
began n [] = tt
began n (bad f ∷ ts) = tt
began n (end p ∷ ts) = by (eqb n 0)
  where
    by : (t : Bool) → Began n (length (end p ∷ ts)) (cond t (Ok (None, end p ∷ ts)) (misfit Count p))
    by true = tt
    by false = tt
began n (other w p ∷ ts) = by (bytes_eq w (codes "a"))
  where
    by : (t : Bool) → Began n (length (other w p ∷ ts)) (cond t (Ok (Some (S.Group p), ts)) (misfit NotAllowed p))
    by true = omega arith
    by false = tt
began n (number w z p ∷ ts) = by (eqb n 0) refl
  where
    by : (t : Bool) → eqb n 0 ≡ t → Began n (length (number w z p ∷ ts)) (cond t (misfit Count p) (Ok (Some (S.Clause (record { value = z; at = p })), ts)))
    by true e = tt
    by false e = (let ne = eqb-false n 0 e in omega arith, omega arith)

abbrev Any : {X : Type 0} → X → Type 0
Any x = Unit {0}

literal_went : (len : ℕ) (z : ℤ) (ls : Taken (List ℤ)) → Went len Any ls → Went len Any (with_literal z ls)
literal_went len z (Ok t) h = h
literal_went len z (Err f) h = tt

from_went : (len : ℕ) (z : ℤ) (ts : List Seen) → length ts ≤ len → Went len Any (literals_next ts) → Went len Any (literals_from z ts)
from_went len z ts l h = by (is_zero z)
  where
    by : (t : Bool) → Went len Any (cond t (Ok ([], ts)) (with_literal z (literals_next ts)))
    by true = (l, tt)
    by false = literal_went len z (literals_next ts) h

literals_went : (len : ℕ) (ts : List Seen) → length ts ≤ len → Went len Any (literals_next ts)
literals_went len [] l = tt
literals_went len (number w z p ∷ ts) l = let k : length ts ≤ len = omega arith in from_went len z ts k (literals_went len ts k)
literals_went len (other w p ∷ ts) l = tt
literals_went len (bad f ∷ ts) l = tt
literals_went len (end p ∷ ts) l = tt

rule_went : {B : Type 0} (reply : List ℤ → Reply) (after : List ℤ → B) (p : Position) (P : B → Type 0) → ((ls : List ℤ) → P (after ls)) → (len : ℕ) (ls : Taken (List ℤ)) → Went len Any ls → Went len P (rule_read reply after p ls)
rule_went {B} reply after p P good len (Ok t) h = by (reply t.0)
  where
    by : (r : Reply) → Went len P (told {Y = B × List Seen} (placed r p) (after t.0, t.1))
    by (Ok u) = (h.0, good t.0)
    by (Err e) = tt
rule_went reply after p P good len (Err f) h = tt

clause_went : (b : C.Filling) (p : Position) (z : ℤ) (ts : List Seen) → Went (length ts) (λ c. C.clean c ≡ c) (clause_read b p (literals_from z ts))
clause_went b p z ts =
    rule_went (C.answer_to b) (λ ls. C.settled b (C.once ls) (Ok tt)) p (λ c. C.clean c ≡ c) (λ ls. refl) (length ts) (literals_from z ts)
    (from_went (length ts) z ts (omega arith) (literals_went (length ts) ts (omega arith)))

natural_went : (ts : List Seen) → Went (length ts) Any (natural_next ts)
natural_went [] = tt
natural_went (number w z p ∷ ts) = by (negative z)
  where
    by : (t : Bool) → Went (length (number w z p ∷ ts)) Any (cond {A = Taken (Number ℕ)} t (misfit NotAllowed p) (Ok (record { value = nat_abs z; at = p }, ts)))
    by true = tt
    by false = (omega arith, tt)
natural_went (other w p ∷ ts) = tt
natural_went (bad f ∷ ts) = tt
natural_went (end p ∷ ts) = tt

group_went : (b : G.Filling) (p : Position) (ts : List Seen) → Went (length ts) (λ g. G.clean g ≡ g) (group_read b p (natural_next ts))
group_went b p ts = by (natural_next ts) (natural_went ts)
  where
    by : (k : Taken (Number ℕ)) → Went (length ts) Any k → Went (length ts) (λ g. G.clean g ≡ g) (group_read b p k)
    by (Ok t) h =
        rule_went (G.answer_to b) (λ ls. G.settled b (G.group_of t.0.value ls) (Ok tt)) p (λ g. G.clean g ≡ g) (λ ls. refl) (length ts) (literals_next t.1)
        (literals_went (length ts) t.1 h.0)
    by (Err f) h = tt

-- THE BOOKS

-- what is left after an answer
abbrev pub on : {X : Type 0} → Result X BookFault → Result Books BookFault → Result Books BookFault
on (Ok x) rest = rest
on (Err f) rest = Err f

on_told : {X Y : Type 0} (r : Result X BookFault) (y : Y) (f : BookFault) (rest : Result Books BookFault) → Err f ≡ told r y → Err f ≡ on r rest
on_told (Ok x) y f rest e = cc
on_told (Err g) y f rest e = let q : f ≡ g = cc in ap Err q

on_placed : {X Y : Type 0} (k : Y → List Seen → Result Books BookFault) (r : Result X BookFault) (a : Reply) (p : Position) (x y : Y) (ts rest : List Seen)
    → told {Y = Y × List Seen} (placed a p) (x, ts) ≡ told r (y, rest) → elim a as (λ _. Result Books BookFault) [ Ok u ↦ k x ts | Err e ↦ Err (B.Book e p) ] ≡ on r (k y rest)
on_placed k (Ok z) (Ok u) p x y ts rest e = let a = ok_first e in let b = ok_second e in cc
on_placed k (Ok z) (Err f) p x y ts rest e = cc
on_placed k (Err g) (Ok u) p x y ts rest e = cc
on_placed {X} {Y} k (Err g) (Err f) p x y ts rest e = on_told {X = X} {Y = Y × List Seen} (Err g) (y, rest) (B.Book f p) (k y rest) e

-- a rule with all its literals
pub clause_all : (ls ms : List ℤ) → fold extended (clause ls) ms ≡ clause (ls ++ ms)
clause_all ls [] = ap clause (sym (append-nil ls))
clause_all ls (z ∷ ms) = clause_all (ls ++ (z ∷ [])) ms ∙ ap clause (append_assoc ls (z ∷ []) ms)

pub group_all : (k : ℕ) (ls ms : List ℤ) → fold extended (group k ls) ms ≡ group k (ls ++ ms)
group_all k ls [] = ap (group k) (sym (append-nil ls))
group_all k ls (z ∷ ms) = group_all k (ls ++ (z ∷ [])) ms ∙ ap (group k) (append_assoc ls (z ∷ []) ms)

clause_filled : (b : Books) (n : ℕ) (p : Position) (ls : Taken (List ℤ)) (r : Result (Unit {0}) BookFault) (c : C.Filling) (rest : List Seen) → clause_read b.clauses p ls ≡ told r (c, rest)
    → filled b (ruled n (clause []) p ls) ≡ on r (filled (both c b.groups) (rules_in n between rest))
clause_filled b n p (Ok t) r c rest e =
    ap (λ k. filled b (rule k p (rules_in n between t.1))) (clause_all [] t.0)
    ∙ on_placed (λ x ts. filled (both x b.groups) (rules_in n between ts)) r (C.answer_to b.clauses t.0) p (C.settled b.clauses (C.once t.0) (Ok tt)) c t.1 rest e
clause_filled b n p (Err f) r c rest e = on_told {Y = C.Filling × List Seen} r (c, rest) (B.Form f) _ e

group_filled : (b : Books) (n : ℕ) (p : Position) (k : Taken (Number ℕ)) (r : Result (Unit {0}) BookFault) (g : G.Filling) (rest : List Seen) → group_read b.groups p k ≡ told r (g, rest)
    → filled b (grouped n p k) ≡ on r (filled (both b.clauses g) (rules_in n between rest))
group_filled b n p (Ok t) r g rest e = by (literals_next t.1) e
  where
    by : (ls : Taken (List ℤ)) → group_rule b.groups t.0.value p ls ≡ told r (g, rest) → filled b (ruled n (group t.0.value []) p ls) ≡ on r (filled (both b.clauses g) (rules_in n between rest))
    by (Ok u) h =
        ap (λ x. filled b (rule x p (rules_in n between u.1))) (group_all t.0.value [] u.0)
        ∙ on_placed (λ x ts. filled (both b.clauses x) (rules_in n between ts)) r (G.answer_to b.groups u.0) p (G.settled b.groups (G.group_of t.0.value u.0) (Ok tt)) g u.1 rest h
    by (Err f) h = on_told {Y = G.Filling × List Seen} r (g, rest) (B.Form f) _ h
group_filled b n p (Err f) r g rest e = on_told {Y = G.Filling × List Seen} r (g, rest) (B.Form f) _ e

-- ONE RULE MORE

-- a clause begins, and is read
module _ (b : Books) (n : ℕ) (ts ts' : List Seen) (x : Number ℤ) (starts : start_next n ts ≡ Ok (Some (S.Clause x), ts')) where
  pub clause_left : 0 < n
  clause_left = (subst (Began n (length ts)) starts (began n ts)).0

  pub clause_step : (r : Result (Unit {0}) BookFault) (c : C.Filling) (rest : List Seen) → clause_read b.clauses x.at (literals_from x.value ts') ≡ told r (c, rest)
      → filled b (rules_in n between ts) ≡ on r (filled (both c b.groups) (rules_in (n - 1) between rest))
  clause_step r c rest e = ap (filled b) (rules_started n ts ∙ ap (started n) starts) ∙ clause_filled b (n - 1) x.at (literals_from x.value ts') r c rest e

  pub clause_on : (c : C.Filling) (rest : List Seen) → clause_read b.clauses x.at (literals_from x.value ts') ≡ Ok (c, rest) → (length rest < length ts) × (C.clean c ≡ c)
  clause_on c rest e =
      let w = subst (Went (length ts') (λ k. C.clean k ≡ k)) e (clause_went b.clauses x.at x.value ts') in
      let s = (subst (Began n (length ts)) starts (began n ts)).1 in
      (omega (arith, w.0), w.1)

-- a group begins, and is read
module _ (b : Books) (n : ℕ) (ts ts' : List Seen) (p : Position) (starts : start_next n ts ≡ Ok (Some (S.Group p), ts')) where
  pub group_step : (r : Result (Unit {0}) BookFault) (g : G.Filling) (rest : List Seen) → group_read b.groups p (natural_next ts') ≡ told r (g, rest)
      → filled b (rules_in n between ts) ≡ on r (filled (both b.clauses g) (rules_in n between rest))
  group_step r g rest e = ap (filled b) (rules_started n ts ∙ ap (started n) starts) ∙ group_filled b n p (natural_next ts') r g rest e

  pub group_on : (g : G.Filling) (rest : List Seen) → group_read b.groups p (natural_next ts') ≡ Ok (g, rest) → (length rest < length ts) × (G.clean g ≡ g)
  group_on g rest e =
      let w = subst (Went (length ts') (λ k. G.clean k ≡ k)) e (group_went b.groups p ts') in
      let s : length ts' < length ts = subst (Began n (length ts)) starts (began n ts) in
      (omega (arith, w.0), w.1)
