-- Laws of one rule: a rule that is read literal by literal is answered as a whole.
use Rattle.std.proofs.Common.{◌≡◌, ℕ, List, ℤ, Ok, Err, fold, Result, sym, refl, ap, ◌∙◌}
use Rattle.rules.specs.Drafts.{Reply}
use Rattle.rules.specs.ClauseFilling as C
use Rattle.rules.specs.GroupFilling as G
use Rattle.rules.proofs.ClauseFillings as CF
use Rattle.rules.proofs.GroupFillings as GF
use Rattle.rulefile.specs.declared.words.Position.{Position}
use Rattle.rulefile.specs.declared.faults.BookFault.{BookFault}
use Rattle.rulefile.specs.Words.{Seen}
use Rattle.rulefile.specs.declared.faults.FormFault.{FormFault}
use Rattle.rulefile.specs.declared.faults.BookFault.TheVariants as B
use Rattle.rulefile.specs.declared.form.Number.{Number}
use Rattle.rulefile.specs.Form.{Taken, number_next}
use Rattle.rulefile.specs.Outcomes.{told, pushes, placed, rule_read, clause_read, group_rule, group_read}
use Rattle.rulefile.proofs.FormLaws.{literals_of, literals_number}

-- the two parts of a result
pub ok_first : {X Y E : Type 0} {x x' : X} {y y' : Y} → ◌≡◌ {A = Result (X × Y) E} (Ok (x, y)) (Ok (x', y')) → x ≡ x'
ok_first {X} {Y} {E} {x} {x'} {y} {y'} e = let p : ◌≡◌ {A = X × Y} (x, y) (x', y') = cc in ap (λ k. k.0) p

pub ok_second : {X Y E : Type 0} {x x' : X} {y y' : Y} → ◌≡◌ {A = Result (X × Y) E} (Ok (x, y)) (Ok (x', y')) → y ≡ y'
ok_second {X} {Y} {E} {x} {x'} {y} {y'} e = let p : ◌≡◌ {A = X × Y} (x, y) (x', y') = cc in ap (λ k. k.1) p

-- literals that were all pushed
record Pushed {B : Type 0} (push : B → ℤ → B) (b : B) (ls : Taken (List ℤ)) (b' : B) (rest : List Seen) : Type 0 where
  literals : List ℤ
  is : ls ≡ Ok (literals, rest)
  book : b' ≡ fold push b literals

pushes_ok : {B : Type 0} (push : B → ℤ → B) (b : B) (ls : Taken (List ℤ)) (b' : B) (rest : List Seen) → pushes push b ls ≡ Ok (b', rest) → Pushed push b ls b' rest
pushes_ok push b (Ok t) b' rest e = record { literals = t.0; is = ap (λ k. Ok (t.0, k)) (ok_second e); book = sym (ok_first e) }
pushes_ok push b (Err f) b' rest e = cc

-- A book whose pushes and end come to its answer to the whole rule.
module _ {B : Type 0} (push : B → ℤ → B) (ending : B → Reply) (left : B → Reply → B) (reply : List ℤ → Reply) (after : List ℤ → Reply → B) (b : B)
    (whole : (ls : List ℤ) (e : B) → e ≡ fold push b ls → (r : Reply) → r ≡ ending e → (x : B) → x ≡ left e r → (r ≡ reply ls) × (x ≡ after ls r)) where
  same_told : (ls : List ℤ) (rest : List Seen) (p : Position) (r : Reply) (x : B) → x ≡ after ls r → told {Y = B × List Seen} (placed r p) (after ls (Ok tt), rest) ≡ told (placed r p) (x, rest)
  same_told ls rest p (Ok u) x e = ap (λ k. Ok (k, rest)) (sym e)
  same_told ls rest p (Err f) x e = refl

  rule_ended : (p : Position) (ls : Taken (List ℤ)) (e : B) (rest : List Seen) → pushes push b ls ≡ Ok (e, rest) → (r : Reply) → r ≡ ending e → (x : B) → x ≡ left e r
      → (o : Result (Unit {0}) BookFault) → o ≡ placed r p → rule_read reply (λ k. after k (Ok tt)) p ls ≡ told o (x, rest)
  rule_ended p ls e rest pushed r er x ex o eo =
      let q = pushes_ok push b ls e rest pushed in
      let k = q.literals in
      let w = whole k e q.book r er x ex in
      ap (rule_read reply (λ k. after k (Ok tt)) p) q.is ∙ ap (λ i. told {Y = B × List Seen} (placed i p) (after k (Ok tt), rest)) (sym w.0)
      ∙ same_told k rest p r x w.1 ∙ ap (λ i. told {Y = B × List Seen} i (x, rest)) (sym eo)

-- a clause
pub clause_ended : (b : C.Filling) → C.clean b ≡ b → (p : Position) (ls : Taken (List ℤ)) (e : C.Filling) (rest : List Seen) → pushes C.pushed b ls ≡ Ok (e, rest)
    → (r : Reply) → r ≡ C.ending e → (x : C.Filling) → x ≡ C.settled e e.draft r → (o : Result (Unit {0}) BookFault) → o ≡ placed r p → clause_read b p ls ≡ told o (x, rest)
clause_ended b clean = rule_ended C.pushed C.ending (λ e. C.settled e e.draft) (C.answer_to b) (λ ls. C.settled b (C.once ls)) b
    (λ ls e is. CF.pushed_whole b ls e (is ∙ ap (λ k. fold C.pushed k ls) (sym clean)))

-- a group from its literals on
pub group_ended : (k : ℕ) (b : G.Filling) → G.clean b ≡ b → (p : Position) (ls : Taken (List ℤ)) (e : G.Filling) (rest : List Seen) → pushes G.pushed b ls ≡ Ok (e, rest)
    → (r : Reply) → r ≡ G.ending e → (x : G.Filling) → x ≡ G.settled e (G.group_of k e.draft) r → (o : Result (Unit {0}) BookFault) → o ≡ placed r p
    → group_rule b k p ls ≡ told o (x, rest)
group_ended k b clean = rule_ended G.pushed G.ending (λ e. G.settled e (G.group_of k e.draft)) (G.answer_to b) (λ ls. G.settled b (G.group_of k ls)) b
    (λ ls e is. GF.pushed_whole k b ls e (is ∙ ap (λ i. fold G.pushed i ls) (sym clean)))

-- a group whose limit has been read, by its first number
pub group_first : (b : G.Filling) (p : Position) (limit : Taken (Number ℕ)) (k : Number ℕ) (ts : List Seen) → limit ≡ Ok (k, ts) → (next : Taken (Number ℤ)) → number_next ts ≡ next
    → group_read b p limit ≡ group_rule b k.value p (literals_of next)
group_first b p limit k ts e next n = ap (group_read b p) e ∙ ap (group_rule b k.value p) (literals_number ts ∙ ap literals_of n)

-- literals that could not all be pushed
pushes_err : {B : Type 0} (push : B → ℤ → B) (b : B) (ls : Taken (List ℤ)) (f : FormFault) → pushes push b ls ≡ Err f → ls ≡ Err f
pushes_err push b (Ok t) f e = cc
pushes_err push b (Err g) f e = let q : g ≡ f = cc in ap Err q

pub group_broken : (k : ℕ) (b : G.Filling) (p : Position) (ls : Taken (List ℤ)) (f : FormFault) → pushes G.pushed b ls ≡ Err f → group_rule b k p ls ≡ Err (B.Form f)
group_broken k b p ls f e = ap (group_rule b k p) (pushes_err G.pushed b ls f e)
