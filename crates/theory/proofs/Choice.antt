-- The choice of a chunk as a function: the first least of the allowed decisions, the latest first.
use Rattle.std.proofs.Common.{◌≡◌, ℕ, ◌≤◌, Bool, true, false, cond, ◌||◌, List, [], ◌∷◌, ◌++◌, take, ℤ, Some, None, fold, filter, Option, sym, refl, ap, ◌∙◌, subst, inl, inr, append_assoc, arith}
use mathlib.Core.Bool.{false≢true, or_assoc}
use Rattle.std.proofs.lemmas.List.{append-nil}
use Rattle.std.proofs.lemmas.Bool.{cond_both, or_cases, or_left, or_right, both_ways}
use Rattle.rules.specs.Literals.{same, has}
use Rattle.rules.proofs.Literals.{same_true, same_refl, has_first, all_has}
use Rattle.rules.proofs.Statuses.{kept_in, in_kept}
use Rattle.weights.specs.Choosing.{FirstLeast, Choice, offered}
use Rattle.weights.proofs.Choosing.{choice_offered}
use Rattle.theory.specs.Weighing.{Weighing, Fair, Total, Chain}
use Rattle.theory.specs.Trail.{Entry.assumed, Entry.decided, Entry.implied, Trail, decided_literals, place_of, WellFormed}
use Rattle.theory.specs.Chunks.{touches, chunk}
use Rattle.theory.specs.Look.{Position}
use Rattle.theory.specs.Conflict.{Touched, choice_free, Allowed, Chosen}
use Rattle.theory.proofs.Trails.{decided_on, Part, Part.whole, Part.next, part_same, on_top, place_below, place_top, place_length, place_one}

-- the touched decisions, the latest first, and those of them that are allowed
abbrev pub touched_decisions : Trail → List ℤ → List ℤ
touched_decisions t C = filter (λ d. touches t d C) (decided_literals t)

abbrev pub allowed_decisions : ℕ → Position → List ℤ → List ℤ
allowed_decisions L p C = cond (choice_free L p) (touched_decisions p.trail C) (take 1 (touched_decisions p.trail C))

abbrev pub lighter : Weighing → Trail → ℤ → ℤ → Bool
lighter at_most t c d = at_most (chunk t c) (chunk t d)

-- what is chosen of a row
abbrev pub first_least : (ℤ → ℤ → Bool) → List ℤ → Option ℤ
first_least le row = fold (offered le) None row

abbrev pub choice : ℕ → Weighing → Position → List ℤ → Option ℤ
choice L at_most p C = first_least (lighter at_most p.trail) (allowed_decisions L p C)

-- it is the choice from the row
choice_folded : (le : ℤ → ℤ → Bool) → Total le → Chain le → (done : List ℤ) (kept : Option ℤ)
    → Choice le done kept → (row : List ℤ) → Choice le (done ++ row) (fold (offered le) kept row)
choice_folded le total chain done kept k [] = subst (λ r. Choice le r kept) (sym (append-nil done)) k
choice_folded le total chain done kept k (x ∷ row) =
    subst (λ r. Choice le r (fold (offered le) (offered le kept x) row)) (append_assoc done (x ∷ []) row)
    (choice_folded le total chain (done ++ (x ∷ [])) (offered le kept x) (choice_offered le total chain done kept x k) row)

first_least_choice : (le : ℤ → ℤ → Bool) → Total le → Chain le → (row : List ℤ) → Choice le row (first_least le row)
first_least_choice le total chain row = choice_folded le total chain [] None refl row

-- A ROW THAT FALLS

-- no later element has a greater value
abbrev pub Falling : (ℤ → ℕ) → List ℤ → Type 0
Falling f [] = Unit {0}
Falling f (x ∷ xs) = ((y : ℤ) → has xs y ≡ true → f y ≤ f x) × Falling f xs

kept_falling : (f : ℤ → ℕ) (test : ℤ → Bool) (xs : List ℤ) → Falling f xs → Falling f (filter test xs)
kept_falling f test [] w = tt
kept_falling f test (x ∷ xs) w = cond_both (test x) (x ∷ filter test xs) (filter test xs) (Falling f)
    (λ _. ((λ y h. w.0 y (kept_in test xs y h).0), kept_falling f test xs w.1)) (λ _. kept_falling f test xs w.1)

decided_falling : (n : ℕ) (T : Trail) → WellFormed n T → (t : Trail) → Part T t → Falling (place_of T) (decided_literals t)
decided_falling n T w [] h = tt
decided_falling n T w (assumed l ∷ t) h = decided_falling n T w t (next h)
decided_falling n T w (decided l ∷ t) h = (
  (λ y k.
      let o = decided_on t y k in
      let a = part_same place_of place_below n T (next h) w y o in
      let b = place_length t y o in
      let c = part_same place_of place_below n T h w l (on_top (decided l) t) in
      let d = place_top (decided l) t l (same_refl l) in
      omega arith),
  decided_falling n T w t (next h),
)
decided_falling n T w (implied l others ∷ t) h = decided_falling n T w t (next h)

has_append : (xs ys : List ℤ) (x : ℤ) → has (xs ++ ys) x ≡ (has xs x || has ys x)
has_append [] ys x = refl
has_append (l ∷ xs) ys x = ap (λ b. same x l || b) (has_append xs ys x) ∙ sym (or_assoc (same x l) (has xs x) (has ys x))

falling_after : (f : ℤ → ℕ) (before : List ℤ) (x : ℤ) (after : List ℤ) → Falling f (before ++ (x ∷ after)) → (c : ℤ) → has (x ∷ after) c ≡ true → f c ≤ f x
falling_after f [] x after w c h = elim (or_cases (same c x) (has after c) h) [ inl e ↦ let s = ap f (same_true c x e) in omega arith | inr e ↦ w.0 c e ]
falling_after f (y ∷ before) x after w c h = falling_after f before x after w.1 c h

-- THE ALLOWED DECISIONS

only_in : (xs : List ℤ) (x : ℤ) → has (take 1 xs) x ≡ true → has xs x ≡ true
only_in [] x h = h
only_in (y ∷ xs) x h = elim (or_cases (same x y) false h) [ inl e ↦ or_left (same x y) (has xs x) e | inr e ↦ absurd (false≢true e) ]

only_some : (xs : List ℤ) (x : ℤ) → has xs x ≡ true → (y : ℤ) × (has (take 1 xs) y ≡ true)
only_some [] x h = absurd (false≢true h)
only_some (y ∷ xs) x h = (y, has_first y [])

only_most : (f : ℤ → ℕ) (xs : List ℤ) → Falling f xs → (x y : ℤ) → has (take 1 xs) x ≡ true → has xs y ≡ true → f y ≤ f x
only_most f [] w x y h k = absurd (false≢true h)
only_most f (z ∷ xs) w x y h k = elim (or_cases (same x z) false h) [
  | inr e ↦ absurd (false≢true e)
  | inl e ↦ let s = ap f (same_true x z e) in let b = falling_after f [] z xs w y k in omega arith
]

only_falling : (f : ℤ → ℕ) (xs : List ℤ) → Falling f (take 1 xs)
only_falling f [] = tt
only_falling f (x ∷ xs) = ((λ y h. absurd (false≢true h)), tt)

module _ (n L : ℕ) (p : Position) (w : WellFormed n p.trail) (C : List ℤ) where
  abbrev ds : List ℤ
  ds = touched_decisions p.trail C

  touched_in : (x : ℤ) → has (touched_decisions p.trail C) x ≡ true → Touched p.trail C x
  touched_in x h = let r = kept_in (λ d. touches p.trail d C) (decided_literals p.trail) x h in record { decision = r.0; touching = r.1 }

  touched_all : (x : ℤ) → Touched p.trail C x → has (touched_decisions p.trail C) x ≡ true
  touched_all x h = in_kept (λ d. touches p.trail d C) (decided_literals p.trail) x h.decision h.touching

  touched_falling : Falling (place_of p.trail) (touched_decisions p.trail C)
  touched_falling = kept_falling (place_of p.trail) (λ d. touches p.trail d C) (decided_literals p.trail) (decided_falling n p.trail w p.trail whole)

  allowed_in : (x : ℤ) → has (allowed_decisions L p C) x ≡ true → Allowed L p C x
  allowed_in x = by (choice_free L p) refl
    where
      by : (b : Bool) → choice_free L p ≡ b → has (cond b (touched_decisions p.trail C) (take 1 (touched_decisions p.trail C))) x ≡ true → Allowed L p C x
      by true e h = record { touched = touched_in x h; latest = λ f. absurd (false≢true (sym f ∙ e)) }
      by false e h = record { touched = touched_in x (only_in ds x h); latest = λ f c t. only_most (place_of p.trail) ds touched_falling x c h (touched_all c t) }

  allowed_all : (x : ℤ) → Allowed L p C x → has (allowed_decisions L p C) x ≡ true
  allowed_all x a = by (choice_free L p) refl
    where
      by : (b : Bool) → choice_free L p ≡ b → has (cond b (touched_decisions p.trail C) (take 1 (touched_decisions p.trail C))) x ≡ true
      by true e = touched_all x a.touched
      by false e =
          let i = touched_all x a.touched in
          let y = only_some ds x i in
          let ty = touched_in y.0 (only_in ds y.0 y.1) in
          let b = only_most (place_of p.trail) ds touched_falling y.0 x y.1 i in
          let c = a.latest e y.0 ty in
          let s = place_one p.trail y.0 x (decided_on p.trail y.0 ty.decision) (decided_on p.trail x a.touched.decision) (omega arith) in
          subst (λ v. has (take 1 (touched_decisions p.trail C)) v ≡ true) s y.1

  allowed_falling : Falling (place_of p.trail) (allowed_decisions L p C)
  allowed_falling = cond_both (choice_free L p) ds (take 1 ds) (Falling (place_of p.trail)) (λ _. touched_falling) (λ _. only_falling (place_of p.trail) ds)

  -- where a decision is touched, one is allowed
  some_allowed : (d : ℤ) → Touched p.trail C d → allowed_decisions L p C ≡ [] → ⊥
  some_allowed d h e = cond_both (choice_free L p) ds (take 1 ds) (λ row. row ≡ [] → ⊥)
      (λ _ z. false≢true (subst (λ row. has row d ≡ true) z (touched_all d h)))
      (λ _ z. let y = only_some ds d (touched_all d h) in false≢true (subst (λ row. has row y.0 ≡ true) z y.1)) e

  -- the first least of them is the chosen one
  first_least_chosen : (at_most : Weighing) (d : ℤ) → FirstLeast (lighter at_most p.trail) (allowed_decisions L p C) d → Chosen L at_most p C d
  first_least_chosen at_most d f = record {
    allowed = allowed_in d (subst (λ row. has row d ≡ true) (sym f.stands) (has_append f.before (d ∷ f.after) d ∙ or_right (has f.before d) (has (d ∷ f.after) d) (has_first d f.after)));
    least = λ c a. all_has (λ y. lighter at_most p.trail d y ≡ true) (allowed_decisions L p C) f.least c (allowed_all c a);
    ties = λ c a e. elim (or_cases (has f.before c) (has (d ∷ f.after) c) (sym (has_append f.before (d ∷ f.after) c) ∙ subst (λ row. has row c ≡ true) f.stands (allowed_all c a))) [
      | inl k ↦ absurd (both_ways (lighter at_most p.trail c d) (all_has (λ y. lighter at_most p.trail y d ≡ false) f.before f.first c k) e)
      | inr k ↦ falling_after (place_of p.trail) f.before d f.after (subst (Falling (place_of p.trail)) f.stands allowed_falling) c k
    ];
  }

-- what a choice comes to: a chosen decision, or none is touched
abbrev pub Chooses : ℕ → Weighing → Position → List ℤ → Option ℤ → Type 0
Chooses L at_most p C (Some d) = Chosen L at_most p C d
Chooses L at_most p C None = (d : ℤ) → Touched p.trail C d → ⊥

pub choice_chooses : (n L : ℕ) (at_most : Weighing) → Fair at_most → (p : Position) → WellFormed n p.trail → (C : List ℤ) → Chooses L at_most p C (choice L at_most p C)
choice_chooses n L at_most fair p w C = by (choice L at_most p C) (first_least_choice (lighter at_most p.trail)
    (λ c d. fair.0 (chunk p.trail c) (chunk p.trail d)) (λ c d e. fair.1 (chunk p.trail c) (chunk p.trail d) (chunk p.trail e)) (allowed_decisions L p C))
  where
    by : (o : Option ℤ) → Choice (lighter at_most p.trail) (allowed_decisions L p C) o → Chooses L at_most p C o
    by None e = λ d h. some_allowed n L p w C d h e
    by (Some d) f = first_least_chosen n L p w C at_most d f
