-- A book of groups is a lawful source: a clause that it tells negates more literals of a group than may be true.
use Rattle.std.proofs.Common.{◌≡◌, ℕ, ◌+◌, ◌<◌, ◌≤◌, Bool, true, false, not, ◌&&◌, ◌||◌, eqb, ltb, leb, List, [], ◌∷◌, ◌++◌, map, length, take, ℤ, neg_ℤ, All, sym, refl, ap, ◌∙◌, subst, inl, inr, arith}
use mathlib.Core.Bool.{and-not_self}
use lib.IntN.{neg_ℤ-neg_ℤ}
use Rattle.std.specs.List.{list_all}
use Rattle.std.proofs.lemmas.List.Elements.{All-nil, All-cons, All-head, All-tail, All-weaker, All-take, All-map, All-push, All-filter, filter_passes, filter-append}
use Rattle.std.proofs.lemmas.List.{length-take-le, length_push, map_push}
use Rattle.std.proofs.lemmas.Bool.{both_ways, cases_Bool, and_parts, and_from, and_right, or_parts, eqb-true, ne_eqb, leb-true, le-leb, ltb-true, ltb-false, le-ltb, not-true, not-false}
use Rattle.std.proofs.lemmas.List.Sums.{AllPass-from_list_all}
use Rattle.rules.specs.Literals.{var, in_range, has, Once}
use Rattle.rules.specs.Clauses.{loose, by_loose, is_falsified, is_unit}
use Rattle.rules.specs.Sources.{makes, satisfies, assignment, true_in, Full, Meaning, ToldClause, Lawful}
use Rattle.rules.specs.Books.{Group, true_ones, open_ones, keeps, over, over_clause, tight, tight_clause, rising, group_fits, group_book}
use Rattle.rules.proofs.Literals.{var_cases, range_bounds, range_neg, all_has, has_all}
use Rattle.rules.proofs.Statuses.{kept_in, in_kept, kept_cong}
use Rattle.rules.proofs.Valuations.{full_neg, full_makes, makes_neg}
use Rattle.rules.proofs.Lists.{asserts, kept_none, none_loose, once_kept, once_take, once_push, once_neg, rising_once, length_within}
use Rattle.rules.specs.GroupRows.{last_word, is_limit, as_group, group_row_fits}
use Rattle.rules.proofs.BookLaws.{Kind, Obeys, RuleLaws, book_lawful}

-- groups as a kind of rule
abbrev groups : Kind Group
groups = record {
  keeps = keeps;
  first = λ row. over (true_in row);
  first_clause = λ row. over_clause (true_in row);
  second = λ row. tight (true_in row);
  second_clause = λ row. tight_clause (true_in row);
}

-- whether neither the literal nor its negation is true
abbrev unassigned : (ℤ → Bool) → ℤ → Bool
unassigned f l = not (f l) && not (f (neg_ℤ l))

-- an assignment that makes none of the negations true makes all of the literals true
all_made : (bs : List Bool) (xs : List ℤ) → All (λ x. 1 ≤ var x) xs → satisfies bs (map neg_ℤ xs) ≡ false → All (λ x. makes bs x ≡ true) xs
all_made bs [] b h = All-nil (λ x. makes bs x ≡ true)
all_made bs (x ∷ xs) b h =
    let r = or_parts (makes bs (neg_ℤ x)) (satisfies bs (map neg_ℤ xs)) h in
    let named : ℤ → Type 0 = λ y. 1 ≤ var y in
    All-cons (λ y. makes bs y ≡ true) x xs (not-false (makes bs x) (sym (makes_neg bs x (All-head named x xs b)) ∙ r.0)) (all_made bs xs (All-tail named x xs b) r.1)

-- the negations of true literals are not loose
negations_false : (f : ℤ → Bool) (xs : List ℤ) → All (λ x. f x ≡ true) xs → loose f (map neg_ℤ xs) ≡ []
negations_false f xs h = none_loose f (map neg_ℤ xs) (All-map (λ l. f (neg_ℤ l) ≡ true) neg_ℤ xs (All-weaker (λ x. f x ≡ true) (λ x. f (neg_ℤ (neg_ℤ x)) ≡ true) (λ x e. ap f (neg_ℤ-neg_ℤ x) ∙ e) xs h))

-- and the negation of an unassigned literal is all that is loose beside them
negations_loose : (f : ℤ → Bool) (xs : List ℤ) (y : ℤ) → All (λ x. f x ≡ true) xs → f y ≡ false → loose f (map neg_ℤ (xs ++ y ∷ [])) ≡ neg_ℤ y ∷ []
negations_loose f xs y h e =
    ap (loose f) (map_push neg_ℤ xs y) ∙ filter-append (λ l. not (f (neg_ℤ l))) (map neg_ℤ xs) (neg_ℤ y ∷ []) ∙ rw (negations_false f xs h, neg_ℤ-neg_ℤ y, e) refl

-- the first of a list that has one
first_of : (P : ℤ → Type 0) (ls : List ℤ) → 0 < length ls → All P ls → (y : ℤ) × (take 1 ls ≡ y ∷ []) × P y
first_of P [] h a = let q : ⊥ = omega arith in absurd q
first_of P (y ∷ ls) h a = (y, refl, All-head P y ls a)

module _ (n : ℕ) (G : Group) (ranged : (x : ℤ) → has G.literals x ≡ true → in_range n x ≡ true) (once : Once G.literals) (m : Meaning) (obeys : Obeys groups G m) (row : List ℤ) where
  -- the literal stands in the group
  abbrev Inside : ℤ → Type 0
  Inside x = has G.literals x ≡ true

  -- the group's true literals
  abbrev trues : List ℤ
  trues = true_ones (true_in row) G

  trues_inside : All Inside trues
  trues_inside = All-filter (true_in row) Inside G.literals (has_all Inside G.literals (λ x i. i))

  trues_true : All (λ x. true_in row x ≡ true) trues
  trues_true = filter_passes (true_in row) G.literals

  trues_once : Once trues
  trues_once = once_kept (true_in row) G.literals once

  -- Of more literals of the group than may be true, of different variables, one is false.
  negations_told : (xs : List ℤ) → Once xs → All Inside xs → G.most < length xs → asserts (true_in row) (map neg_ℤ xs) ≡ true → ToldClause n m row (map neg_ℤ xs)
  negations_told xs apart inside more a = record {
    ranged = All-map (λ l. in_range n l ≡ true) neg_ℤ xs (All-weaker Inside (λ x. in_range n (neg_ℤ x) ≡ true) (λ x i. range_neg n x ∙ ranged x i) xs inside);
    once = once_neg xs apart;
    asserts = a;
    sound = λ bs _ h. elim (cases_Bool (satisfies bs (map neg_ℤ xs))) [
      | inl p ↦ p
      | inr p ↦
          let made = all_made bs xs (All-weaker Inside (λ x. 1 ≤ var x) (λ x i. (range_bounds n x (ranged x i)).0) xs inside) p in
          let among : (x : ℤ) → has xs x ≡ true → has (true_ones (makes bs) G) x ≡ true = λ x i. in_kept (makes bs) G.literals x (all_has Inside xs inside x i) (all_has (λ y. makes bs y ≡ true) xs made x i) in
          let fewer = length_within xs (true_ones (makes bs) G) apart (has_all (λ x. has (true_ones (makes bs) G) x ≡ true) xs among) in
          let most = leb-true (length (true_ones (makes bs) G)) G.most (obeys bs h) in
          let q : ⊥ = omega arith in absurd q
    ];
  }

  over_told : over (true_in row) G ≡ true → ToldClause n m row (over_clause (true_in row) G)
  over_told h =
      let f = true_in row in
      let k = G.most + 1 in
      let more = ltb-true G.most (length trues) h in
      let size = length-take-le k trues (omega arith) in
      negations_told (take k trues) (once_take k trues trues_once) (All-take Inside k trues trues_inside) (omega arith)
      (ap (λ K. is_falsified (by_loose f K) || is_unit (by_loose f K)) (negations_false f (take k trues) (All-take (λ x. f x ≡ true) k trues trues_true)))

  -- the true ones and an unassigned one
  push_told : length trues ≡ G.most → (y : ℤ) → Inside y → true_in row y ≡ false → true_in row (neg_ℤ y) ≡ false → ToldClause n m row (map neg_ℤ (trues ++ y ∷ []))
  push_told size y inside e d =
      let f = true_in row in
      let longer = length_push trues y in
      let apart : (x : ℤ) → f x ≡ true → var x ≡ var y → ⊥ = λ x t v. elim (var_cases y x (sym v)) [
        | inl i ↦ both_ways (f y) e (subst (λ z. f z ≡ true) i t)
        | inr i ↦ both_ways (f (neg_ℤ y)) d (subst (λ z. f z ≡ true) i t)
      ] in
      let others = All-weaker (λ x. f x ≡ true) (λ x. eqb (var x) (var y) ≡ false) (λ x t. ne_eqb (var x) (var y) (apart x t)) trues trues_true in
      negations_told (trues ++ y ∷ []) (once_push trues y trues_once others) (All-push Inside trues y trues_inside inside) (omega arith)
      (ap (λ K. is_falsified (by_loose f K) || is_unit (by_loose f K)) (negations_loose f trues y trues_true e) ∙ rw d refl)

  tight_told : tight (true_in row) G ≡ true → ToldClause n m row (tight_clause (true_in row) G)
  tight_told h =
      let f = true_in row in
      let opens = open_ones f G in
      let r = and_parts (eqb (length trues) G.most) (ltb 0 (length opens)) h in
      let P : ℤ → Type 0 = λ x. Inside x × (unassigned f x ≡ true) in
      let y = first_of P opens (ltb-true 0 (length opens) r.1) (has_all P opens (kept_in (unassigned f) G.literals)) in
      let u = and_parts (not (f y.0)) (not (f (neg_ℤ y.0))) y.2.1 in
      subst (λ k. ToldClause n m row (map neg_ℤ (trues ++ k))) (sym y.1)
      (push_told (eqb-true (length trues) G.most r.0) y.0 y.2.0 (not-true (f y.0) u.0) (not-true (f (neg_ℤ y.0)) u.1))

module _ (n : ℕ) (G : Group) (ranged : (x : ℤ) → has G.literals x ≡ true → in_range n x ≡ true) (row : List ℤ) (full : Full n row) where
  -- the true ones are those that the row's assignment makes true
  same_trues : true_ones (makes (assignment n (true_in row))) G ≡ true_ones (true_in row) G
  same_trues = kept_cong (makes (assignment n (true_in row))) (true_in row) G.literals (λ x i. full_makes n row full x (ranged x i))

  none_open : open_ones (true_in row) G ≡ []
  none_open =
      let f = true_in row in
      kept_none (unassigned f) G.literals (has_all (λ x. unassigned f x ≡ false) G.literals (λ x i. rw (full_neg n row full x (ranged x i)) (and-not_self (not (f x)))))

  group_quiet : over (true_in row) G ≡ false → keeps (assignment n (true_in row)) G ≡ true
  group_quiet h = let ts = true_ones (true_in row) G in rw same_trues (le-leb (length ts) G.most (ltb-false G.most (length ts) h))

  group_admitted : keeps (assignment n (true_in row)) G ≡ true → (over (true_in row) G ≡ false) × (tight (true_in row) G ≡ false)
  group_admitted h =
      let ts = true_ones (true_in row) G in
      let k : leb (length ts) G.most ≡ true = rw same_trues at h in
      let none : ltb 0 (length (open_ones (true_in row) G)) ≡ false = rw none_open refl in
      (le-ltb G.most (length ts) (leb-true (length ts) G.most k), and_right (eqb (length ts) G.most) (ltb 0 (length (open_ones (true_in row) G))) none)

group_laws : (n : ℕ) (G : Group) → group_fits n G ≡ true → RuleLaws n groups G
group_laws n G fits =
    let r = and_parts (list_all (in_range n) G.literals) (rising 0 G.literals) fits in
    let ranged = all_has (λ l. in_range n l ≡ true) G.literals (AllPass-from_list_all (in_range n) G.literals r.0) in
    let once = rising_once 0 G.literals r.1 in
    record { first_told = over_told n G ranged once; second_told = tight_told n G ranged once; quiet = group_quiet n G ranged; admitted = group_admitted n G ranged }

pub group_book_lawful : (n : ℕ) (Gs : List Group) → list_all (group_fits n) Gs ≡ true → Lawful (group_book n Gs)
group_book_lawful n Gs fit = book_lawful n groups (group_fits n) (group_laws n) Gs fit

-- the groups of rows that fit, fit
pub rows_fit : (n : ℕ) (all : List (List ℤ)) → list_all (group_row_fits n) all ≡ true → list_all (group_fits n) (map as_group all) ≡ true
rows_fit n [] h = refl
rows_fit n (row ∷ all) h =
    let q = and_parts (group_row_fits n row) (list_all (group_row_fits n) all) h in
    let r = and_parts (is_limit (last_word row)) (group_fits n (as_group row)) q.0 in
    and_from (group_fits n (as_group row)) (list_all (group_fits n) (map as_group all)) r.1 (rows_fit n all q.1)
