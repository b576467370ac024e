-- Going over the groups of a book for what it tells.
use Rattle.std.proofs.Common.{◌≡◌, ℕ, zero, suc, ◌+◌, ◌<◌, ◌≤◌, min, Bool, true, false, cond, not, ◌&&◌, ◌||◌, ◌⊎◌, List, [], ◌∷◌, ◌++◌, map, length, get_or, take, drop, set, ℤ, pos, negsuc, neg_ℤ, nat_abs, Some, None, filter, Option, sym, refl, ap, ◌∙◌, subst, inl, inr, arith, take_all, nat_lt, w32, SFits}
use mathlib.Core.Bool.{false≢true}
use Rattle.std.specs.List.{list_all, list_any}
use Rattle.std.proofs.lemmas.List.Elements.{All-get_or, filter-append, filter_agree, filter_more}
use Rattle.std.proofs.lemmas.List.Filters.{length-filter_more}
use Rattle.std.proofs.lemmas.List.Sums.{AllPass-from_list_all}
use Rattle.std.proofs.lemmas.List.{append-nil, drop_more, length-map, length_push, map_push, length-take, take-append-drop, take-append-le}
use Rattle.std.proofs.lemmas.Bool.{and_parts, and_from, cond-true, cond-false, lt-ltb, le-ltb, eq-eqb, ne_eqb}
use Rattle.rules.specs.Literals.{var, in_range}
use Rattle.rules.specs.Sources.{true_in, Answer, Answer.tells, or_else, page_after}
use Rattle.rules.specs.Books.{Group, rising, group_fits, true_ones, open_ones, over, over_clause, tight, tight_clause}
use Rattle.rules.specs.GroupRows.{last_word, is_limit, as_group, group_row_fits}
use Rattle.rules.specs.GroupTelling.{group_in, is_open, is_value, group_status, group_clause, group_answer}
use Rattle.rules.specs.Values.{value_in}
use Rattle.std.specs.Option.{option_or}
use Rattle.rules.specs.declared.groups.GroupRow.{GroupRow}
use Rattle.rules.specs.declared.status.ClauseStatus.TheVariants.{Falsified, Unit as UnitOf, Other}
use Rattle.rules.specs.declared.literal.Value.{Value}
use Rattle.rules.specs.declared.literal.Value.TheVariants.{True, False, Unassigned}
use Rattle.rules.proofs.Literals.{range_bounds, bounds_range}
use Rattle.rules.proofs.AnswerLaws.{told_with, told_hit, told_second, told_neither}
use Rattle.rules.proofs.RowLaws.{pass_weaker}
use Rattle.rules.proofs.Pages.{page_push, page_push_behind}

-- a row with a limit is not empty
pub limit_long : (row : List ℤ) → is_limit (last_word row) ≡ true → 1 ≤ length row
limit_long [] h = absurd (false≢true h)
limit_long (w ∷ row) h = omega arith

-- the word of a limit is at least 1
pub limit_word : (w : ℤ) → is_limit w ≡ true → 1 ≤ nat_abs w
limit_word (pos zero) h = absurd (false≢true h)
limit_word (pos (suc k)) h = omega arith
limit_word (negsuc k) h = absurd (false≢true h)

-- what a value adds to the number of true literals
abbrev pub one_true_more : Value → ℕ
one_true_more True = 1
one_true_more False = 0
one_true_more Unassigned = 0

-- and to that of unassigned ones
abbrev pub one_open_more : Value → ℕ
one_open_more True = 0
one_open_more False = 0
one_open_more Unassigned = 1

-- the numbers of true and of unassigned literals, with one literal more
pub counted : (f : ℤ → Bool) (ls : List ℤ) (i : ℕ) (v : Value) → i < length ls → v ≡ value_in f (get_or ls i (pos 0))
    → (length (filter f (take (i + 1) ls)) ≡ length (filter f (take i ls)) + one_true_more v)
    × (length (filter (is_open f) (take (i + 1) ls)) ≡ length (filter (is_open f) (take i ls)) + one_open_more v)
counted f ls i v h e =
    let l = get_or ls i (pos 0) in
    let r = by (f l) (f (neg_ℤ l)) in (
      length-filter_more f ls i (pos 0) h ∙ ap (λ k. length (filter f (take i ls)) + k) (r.0 ∙ ap one_true_more (sym e)),
      length-filter_more (is_open f) ls i (pos 0) h ∙ ap (λ k. length (filter (is_open f) (take i ls)) + k) (r.1 ∙ ap one_open_more (sym e)),
    )
  where
    by : (a b : Bool) → let v = cond a True (cond b False Unassigned) in (cond a 1 0 ≡ one_true_more v) × (cond (not a && not b) 1 0 ≡ one_open_more v)
    by true b = (refl, refl)
    by false true = (refl, refl)
    by false false = (refl, refl)

-- a value adds at most one to each
pub more_one : (v : Value) → (one_true_more v ≤ 1) × (one_open_more v ≤ 1)
more_one True = (omega arith, omega arith)
more_one False = (omega arith, omega arith)
more_one Unassigned = (omega arith, omega arith)

-- literals of at most 1,000 variables
ranged_few : (n : ℕ) (ls : List ℤ) → n ≤ 1000 → list_all (in_range n) ls ≡ true → list_all (in_range 1000) ls ≡ true
ranged_few n ls h = pass_weaker (in_range n) (in_range 1000) (λ l r. let b = range_bounds n l r in bounds_range 1000 l b.0 (omega arith)) ls

-- the variable of each is at most 1,000
pub ranged_small : (n : ℕ) (ls : List ℤ) (i : ℕ) → n ≤ 1000 → list_all (in_range n) ls ≡ true → i < length ls → var (get_or ls i (pos 0)) ≤ 1000
ranged_small n ls i h r l =
    let b = range_bounds n (get_or ls i (pos 0)) (All-get_or (λ x. in_range n x ≡ true) ls i (pos 0) l (AllPass-from_list_all (in_range n) ls r)) in
    omega arith

pub small_fits : (l : ℤ) → var l ≤ 1000 → SFits w32 l
small_fits (pos v) h = record { sfits = omega arith }
small_fits (negsuc v) h = record { sfits = omega arith }

-- the value of a literal, by the tests
pub is_true_value : (f : ℤ → Bool) (l : ℤ) → is_value True (value_in f l) ≡ f l
is_true_value f l = by (f l) (f (neg_ℤ l))
  where
    by : (a b : Bool) → is_value True (cond a True (cond b False Unassigned)) ≡ a
    by true b = refl
    by false true = refl
    by false false = refl

pub is_open_value : (f : ℤ → Bool) (l : ℤ) → is_value Unassigned (value_in f l) ≡ is_open f l
is_open_value f l = by (f l) (f (neg_ℤ l))
  where
    by : (a b : Bool) → is_value Unassigned (cond a True (cond b False Unassigned)) ≡ (not a && not b)
    by true b = refl
    by false true = refl
    by false false = refl

-- the first m + 1 that pass, with one literal more that is wanted
module _ (p : ℤ → Bool) (ls : List ℤ) (m i : ℕ) (h : i < length ls) where
  abbrev front : ℕ → List ℤ
  front k = take (m + 1) (filter p (take k ls))

  -- where fewer have passed so far, a literal that passes is one more of them
  pub front_takes : length (front i) ≤ m → p (get_or ls i (pos 0)) ≡ true → front (i + 1) ≡ front i ++ (get_or ls i (pos 0) ∷ [])
  front_takes short e =
      let K = filter p (take i ls) in
      let x = get_or ls i (pos 0) in
      let t = length-take (m + 1) K in
      let p' = length_push K x in
      ap (take (m + 1)) (filter_more p ls i (pos 0) h ∙ ap (λ k. K ++ k) (cond-true (p x) (x ∷ []) [] e))
      ∙ take_all (m + 1) (K ++ (x ∷ [])) (omega arith) ∙ ap (λ k. k ++ (x ∷ [])) (sym (take_all (m + 1) K (omega arith)))

  -- a literal that does not pass, or that comes after as many, adds nothing
  pub front_stays : (p (get_or ls i (pos 0)) ≡ false) ⊎ (m < length (front i)) → front (i + 1) ≡ front i
  front_stays (inl e) =
      let K = filter p (take i ls) in
      let x = get_or ls i (pos 0) in
      ap (take (m + 1)) (filter_more p ls i (pos 0) h ∙ ap (λ k. K ++ k) (cond-false (p x) (x ∷ []) [] e) ∙ append-nil K)
  front_stays (inr l) =
      let K = filter p (take i ls) in
      let x = get_or ls i (pos 0) in
      let t = length-take (m + 1) K in
      ap (take (m + 1)) (filter_more p ls i (pos 0) h) ∙ take-append-le (m + 1) K (cond (p x) (x ∷ []) []) (omega arith)

-- where none has passed so far and the next literal does not, none has passed
pub none_stays : (p : ℤ → Bool) (ls : List ℤ) (i : ℕ) → i < length ls → filter p (take i ls) ≡ [] → p (get_or ls i (pos 0)) ≡ false
    → filter p (take (i + 1) ls) ≡ []
none_stays p ls i h none e =
    let x = get_or ls i (pos 0) in
    filter_more p ls i (pos 0) h ∙ ap (λ k. k ++ cond (p x) (x ∷ []) []) none ∙ cond-false (p x) (x ∷ []) [] e

-- the first that passes, where none did before it
pub first_kept : (p : ℤ → Bool) (ls : List ℤ) (i : ℕ) → i < length ls → filter p (take i ls) ≡ [] → p (get_or ls i (pos 0)) ≡ true
    → filter p ls ≡ get_or ls i (pos 0) ∷ filter p (drop (i + 1) ls)
first_kept p ls i h none e =
    let x = get_or ls i (pos 0) in
    ap (filter p) (sym (take-append-drop i ls)) ∙ filter-append p (take i ls) (drop i ls) ∙ ap (λ k. k ++ filter p (drop i ls)) none
    ∙ ap (filter p) (drop_more ls i (pos 0) h) ∙ cond-true (p x) (x ∷ filter p (drop (i + 1) ls)) (filter p (drop (i + 1) ls)) e

-- whether some element passes is whether those that pass are more than none
some_pass : {X : Type 0} (p : X → Bool) (xs : List X) → list_any p xs ≡ nat_lt 0 (length (filter p xs))
some_pass p [] = refl
some_pass p (x ∷ xs) = by (p x) (some_pass p xs)
  where
    by : (b : Bool) → list_any p xs ≡ nat_lt 0 (length (filter p xs)) → (b || list_any p xs) ≡ nat_lt 0 (length (cond b (x ∷ filter p xs) (filter p xs)))
    by true e = sym (lt-ltb 0 (length (x ∷ filter p xs)) (omega arith))
    by false e = e

-- how a group stands, by the number of its literals that are true and by whether one is unassigned, as the code tests them
module _ (f : ℤ → Bool) (G : Group) (n : ℕ) (counted : n ≡ length (filter (λ l. is_value True (value_in f l)) G.literals)) where
  many : n ≡ length (true_ones f G)
  many = counted ∙ ap length (filter_agree (λ l. is_value True (value_in f l)) f (is_true_value f) G.literals)

  pub stands_over : G.most < n → Falsified ≡ group_status f G
  stands_over h = sym (cond-true (over f G) Falsified (cond (tight f G) UnitOf Other) (lt-ltb G.most (length (true_ones f G)) (omega (arith, many, h))))

  -- not over
  under : (b : Bool) → n ≤ G.most → tight f G ≡ b → cond b UnitOf Other ≡ group_status f G
  under b h e =
      ap (λ t. cond t UnitOf Other) (sym e)
      ∙ sym (cond-false (over f G) Falsified (cond (tight f G) UnitOf Other) (le-ltb G.most (length (true_ones f G)) (omega (arith, many, h))))

  pub stands_below : n ≤ G.most → (n ≡ G.most → ⊥) → Other ≡ group_status f G
  stands_below h d = under false h (ap (λ t. t && nat_lt 0 (length (open_ones f G))) (ne_eqb (length (true_ones f G)) G.most (λ e. d (many ∙ e))))

  pub stands_at : (b : Bool) → n ≡ G.most → b ≡ list_any (λ l. is_value Unassigned (value_in f l)) G.literals → cond b UnitOf Other ≡ group_status f G
  stands_at b h e =
      let p = λ (l : ℤ). is_value Unassigned (value_in f l) in
      under b (omega (arith, h)) (ap (λ t. t && nat_lt 0 (length (open_ones f G))) (eq-eqb (length (true_ones f G)) G.most (sym many ∙ h))
      ∙ ap (λ xs. nat_lt 0 (length xs)) (sym (filter_agree p (is_open f) (is_open_value f) G.literals)) ∙ sym (e ∙ some_pass p G.literals))

-- what is told, group by group
abbrev pub group_told : List ℤ → Answer → List Group → Answer
group_told row = told_with (over (true_in row)) (over_clause (true_in row)) (tight (true_in row)) (tight_clause (true_in row))

-- a page on which the negations of C are laid, with one more
pub page_turn : (n : ℕ) (start C : List ℤ) (x : ℤ) (page : List ℤ) (len : ℕ) → page ≡ page_after n (tells (map neg_ℤ C)) start → len ≡ length C
    → set page (min (length page) n + len) (neg_ℤ x) ≡ page_after n (tells (map neg_ℤ (C ++ (x ∷ [])))) start
page_turn n start C x page len e k =
    let D = map neg_ℤ C in
    ap (λ q. set q (min (length q) n + len) (neg_ℤ x)) e
    ∙ ap (λ j. set (page_after n (tells D) start) (min (length (page_after n (tells D) start)) n + j) (neg_ℤ x)) (k ∙ sym (length-map C neg_ℤ))
    ∙ page_push_behind n D start (neg_ℤ x) ∙ ap (λ q. page_after n (tells q) start) (sym (map_push neg_ℤ C x))

-- room into which the negations of C are laid behind n words, with one more
pub room_turn : (n : ℕ) (start C : List ℤ) (x : ℤ) (room : List ℤ) (now : ℕ) → room ≡ page_after n (tells (map neg_ℤ C)) start → now ≡ n + length C
    → set room now (neg_ℤ x) ≡ page_after n (tells (map neg_ℤ (C ++ (x ∷ [])))) start
room_turn n start C x room now e k =
    let D = map neg_ℤ C in
    ap (λ q. set q now (neg_ℤ x)) e ∙ ap (λ j. set (page_after n (tells D) start) j (neg_ℤ x)) (k ∙ ap (λ j. n + j) (sym (length-map C neg_ℤ)))
    ∙ page_push n D start (neg_ℤ x) ∙ ap (λ q. page_after n (tells q) start) (sym (map_push neg_ℤ C x))

-- the clause to tell, by the first limit + 1 of the true literals
module _ (f : ℤ → Bool) (G : Group) where
  pub clause_over : G.most < length (take (G.most + 1) (true_ones f G)) → group_clause f G ≡ map neg_ℤ (take (G.most + 1) (true_ones f G))
  clause_over h =
      let t = length-take (G.most + 1) (true_ones f G) in
      cond-true (over f G) (over_clause f G) (tight_clause f G) (lt-ltb G.most (length (true_ones f G)) (omega arith))

  pub clause_tight : length (take (G.most + 1) (true_ones f G)) ≤ G.most → group_clause f G ≡ map neg_ℤ (take (G.most + 1) (true_ones f G) ++ take 1 (open_ones f G))
  clause_tight h =
      let t = length-take (G.most + 1) (true_ones f G) in
      cond-false (over f G) (over_clause f G) (tight_clause f G) (le-ltb G.most (length (true_ones f G)) (omega arith))
      ∙ ap (λ k. map neg_ℤ (k ++ take 1 (open_ones f G))) (sym (take_all (G.most + 1) (true_ones f G) (omega arith)))

-- how a group stands, by the tests
pub status_over : (f : ℤ → Bool) (G : Group) → group_status f G ≡ Falsified → over f G ≡ true
status_over f G = by (over f G) (tight f G)
  where
    by : (a b : Bool) → cond a Falsified (cond b UnitOf Other) ≡ Falsified → a ≡ true
    by true b e = refl
    by false true e = cc
    by false false e = cc

pub status_tight : (f : ℤ → Bool) (G : Group) → group_status f G ≡ UnitOf → (over f G ≡ false) × (tight f G ≡ true)
status_tight f G = by (over f G) (tight f G)
  where
    by : (a b : Bool) → cond a Falsified (cond b UnitOf Other) ≡ UnitOf → (a ≡ false) × (b ≡ true)
    by true b e = (cc, cc)
    by false true e = (refl, refl)
    by false false e = (cc, cc)

pub status_other : (f : ℤ → Bool) (G : Group) → group_status f G ≡ Other → (over f G ≡ false) × (tight f G ≡ false)
status_other f G = by (over f G) (tight f G)
  where
    by : (a b : Bool) → cond a Falsified (cond b UnitOf Other) ≡ Other → (a ≡ false) × (b ≡ false)
    by true b e = (cc, cc)
    by false true e = (cc, cc)
    by false false e = (refl, refl)

-- one group on: it is over and told, or it is found if it is the first tight one, or it is neither
module _ (row : List ℤ) (found : Answer) (G : Group) (rest : List Group) where
  abbrev f : ℤ → Bool
  f = true_in row

  pub group_over : group_status f G ≡ Falsified → tells (group_clause f G) ≡ group_told row found (G ∷ rest)
  group_over e =
      let h = status_over f G e in
      ap tells (cond-true (over f G) (over_clause f G) (tight_clause f G) h) ∙ sym (told_hit (over f) (over_clause f) (tight f) (tight_clause f) found G rest h)

  pub group_other : group_status f G ≡ Other → group_told row found rest ≡ group_told row found (G ∷ rest)
  group_other e = let s = status_other f G e in told_neither (over f) (over_clause f) (tight f) (tight_clause f) found G rest s.0 s.1

  found_tight : group_status f G ≡ UnitOf → group_told row (or_else found (tells (group_clause f G))) rest ≡ group_told row found (G ∷ rest)
  found_tight e =
      let s = status_tight f G e in
      ap (λ C. group_told row (or_else found (tells C)) rest) (cond-false (over f G) (over_clause f G) (tight_clause f G) s.0)
      ∙ told_second (over f) (over_clause f) (tight f) (tight_clause f) found G rest s.0 s.1

-- the first of two groups, as answers
pub or_group : (f : ℤ → Bool) (a : Option GroupRow) (row : GroupRow)
    → group_answer f (option_or a (Some row)) ≡ or_else (group_answer f a) (tells (group_clause f (group_in row)))
or_group f None row = refl
or_group f (Some b) row = refl

pub group_tight : (row : List ℤ) (found : Option GroupRow) (G : GroupRow) (rest : List Group) → let f = true_in row in group_status f (group_in G) ≡ UnitOf
    → group_told row (group_answer f (option_or found (Some G))) rest ≡ group_told row (group_answer f found) (group_in G ∷ rest)
group_tight row found G rest e = ap (λ a. group_told row a rest) (or_group (true_in row) found G) ∙ found_tight row (group_answer (true_in row) found) (group_in G) rest e

-- a row that comes first among rows that fit, fits, and so do the others
pub first_fits : (n : ℕ) (row : List ℤ) (all rest : List (List ℤ)) → all ≡ row ∷ rest → list_all (group_row_fits n) all ≡ true → (group_row_fits n row ≡ true) × (list_all (group_row_fits n) rest ≡ true)
first_fits n row all rest e h = and_parts (group_row_fits n row) (list_all (group_row_fits n) rest) (subst (λ k. list_all (group_row_fits n) k ≡ true) e h)

-- a row that fits a book of at most 1,000 variables fits one of 1,000
pub fits_few : (n : ℕ) (row : List ℤ) → n ≤ 1000 → group_row_fits n row ≡ true → group_row_fits 1000 row ≡ true
fits_few n row few h =
    let G = as_group row in
    let p = and_parts (is_limit (last_word row)) (group_fits n G) h in
    let q = and_parts (list_all (in_range n) G.literals) (rising 0 G.literals) p.1 in
    and_from (is_limit (last_word row)) (group_fits 1000 G) p.0 (and_from (list_all (in_range 1000) G.literals) (rising 0 G.literals) (ranged_few n G.literals few q.0) q.1)
