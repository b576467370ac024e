-- Sets of false literals by their variables, and how many of them are marked.
use Rattle.std.proofs.Common.{◌≡◌, ℕ, ◌+◌, Bool, true, false, not, ◌&&◌, ◌||◌, eqb, ◌≢◌, List, [], ◌∷◌, ℤ, neg_ℤ, sym, refl, ap, ◌∙◌, subst, inl, inr, arith, ◌++◌}
use Rattle.std.proofs.lemmas.List.Elements.{All-head, All-tail}
use mathlib.Core.Path.{fun_ext}
use mathlib.Core.Bool.{false≢true}
use lib.IntN.{neg_ℤ-neg_ℤ}
use Rattle.std.proofs.lemmas.Bool.{eq-eqb, ne_eqb, or_cases, both_ways, cases_Bool}
use Rattle.std.proofs.Math.Bool.{and-false, or_assoc, or-false}
use Rattle.rules.specs.Literals.{same, has}
use Rattle.rules.proofs.Literals.{same_true, eq_same, all_has, any_push}
use Rattle.theory.specs.Trail.{Entry, Trail, literal, on, WellFormed}
use Rattle.theory.specs.Conflict.{resolved}
use Rattle.theory.proofs.Trails.{AllFalse, ranged, fresh, fresh_negation, on_top, on_below, on_range, not_both}
use Rattle.theory.proofs.Analysis.{hits}
use Rattle.session.specs.Words.{index_of}
use Rattle.session.specs.Analysis.{set_of, names_index, one, both_count}
use Rattle.session.proofs.Words.{index_range, index_neg}
use Rattle.session.proofs.Decode.{index_same, index_apart}

split_one : (k b : Bool) → one (k && (b || true)) ≡ one (not b && k) + one (k && b)
split_one true true = refl
split_one true false = refl
split_one false true = refl
split_one false false = refl

-- the index tells the literals of a well-formed trail apart
pub index_one : (n : ℕ) (t : Trail) → WellFormed n t → (a b : ℤ) → on t a ≡ true → on t b ≡ true → index_of a ≡ index_of b → a ≡ b
index_one n t w a b o p e = elim (index_same a b (index_range n a (on_range n t w a o)).0 (index_range n b (on_range n t w b p)).0 e)
    [ inl q ↦ sym q | inr q ↦ absurd (both_ways (on t (neg_ℤ a)) (not_both n t w a o) (subst (λ z. on t z ≡ true) q p)) ]

top_apart : (n : ℕ) (e : Entry) (t : Trail) → WellFormed n (e ∷ t) → (l : ℤ) → on t l ≡ true → index_of l ≢ index_of (literal e)
top_apart n e t w l o = index_apart t (literal e) l (index_range n (literal e) (ranged w.0)).0 (index_range n l (on_range n t w.1 l o)).0 (fresh w.0) (fresh_negation w.0) o

-- counts
pub both_cong : (K B C : ℕ → Bool) (t : Trail) → ((l : ℤ) → on t l ≡ true → B (index_of l) ≡ C (index_of l)) → both_count K B t ≡ both_count K C t
both_cong K B C [] h = refl
both_cong K B C (e ∷ t) h = rw (h (literal e) (on_top e t), both_cong K B C t (λ l o. h l (on_below e t l o)))

-- one variable more
both_one : (K B : ℕ → Bool) (n : ℕ) (t : Trail) → WellFormed n t → (l : ℤ) → on t l ≡ true
    → both_count K (λ x. B x || eqb x (index_of l)) t ≡ one (not (B (index_of l)) && K (index_of l)) + both_count K B t
both_one K B n [] w l o = absurd (false≢true o)
both_one K B n (e ∷ t) w l o = elim (cases_Bool (on t l)) [
  | inr f ↦
      let i = index_of (literal e) in
      let q : l ≡ literal e = elim (or_cases (same l (literal e)) (on t l) o) [ inl s ↦ same_true l (literal e) s | inr s ↦ absurd (both_ways (on t l) f s) ] in
      let c = both_cong K (λ x. B x || eqb x i) B t (λ m g. rw (ne_eqb (index_of m) i (top_apart n e t w m g)) (or-false (B (index_of m)))) in
      let s = split_one (K i) (B i) in
      let r : one (K i && (B i || eqb i i)) + both_count K (λ x. B x || eqb x i) t ≡ one (not (B i) && K i) + (one (K i && B i) + both_count K B t) =
      rw (eq-eqb i i refl) (omega arith) in
      subst (λ z. both_count K (λ x. B x || eqb x (index_of z)) (e ∷ t) ≡ one (not (B (index_of z)) && K (index_of z)) + both_count K B (e ∷ t)) (sym q) r
  | inl f ↦
      let d = ne_eqb (index_of (literal e)) (index_of l) (λ z. top_apart n e t w l f (sym z)) in
      let i = both_one K B n t w.1 l f in
      rw (d, or-false (B (index_of (literal e))), i) (omega arith)
]

-- the count of the theory
pub hits_both : (K B : ℕ → Bool) (T t : Trail) → ((l : ℤ) → on t l ≡ true → on T l ≡ true) → hits (λ l. K (index_of l)) t (set_of T B) ≡ both_count K B t
hits_both K B T [] h = refl
hits_both K B T (e ∷ t) h =
    rw (neg_ℤ-neg_ℤ (literal e), h (literal e) (on_top e t), index_neg (literal e), hits_both K B T t (λ l o. h l (on_below e t l o)))

-- sets of false literals
module _ (n : ℕ) (T : Trail) (w : WellFormed n T) where
  index_is_same : (a b : ℤ) → on T (neg_ℤ a) ≡ true → on T (neg_ℤ b) ≡ true → eqb (index_of a) (index_of b) ≡ same a b
  index_is_same a b o p = elim (cases_Bool (same a b)) [
    | inl s ↦ rw s (eq-eqb (index_of a) (index_of b) (ap index_of (same_true a b s)))
    | inr s ↦ rw s (ne_eqb (index_of a) (index_of b) (λ e.
        let q = index_one n T w (neg_ℤ a) (neg_ℤ b) o p (index_neg a ∙ (e ∙ sym (index_neg b))) in
        both_ways (same a b) s (eq_same a b (sym (neg_ℤ-neg_ℤ a) ∙ (ap neg_ℤ q ∙ neg_ℤ-neg_ℤ b)))))
  ]

  names_has : (a : ℤ) → on T (neg_ℤ a) ≡ true → (C : List ℤ) → AllFalse T C → names_index C (index_of a) ≡ has C a
  names_has a o [] f = refl
  names_has a o (m ∷ C) f =
      let falls : ℤ → Type 0 = λ k. on T (neg_ℤ k) ≡ true in rw (names_has a o C (All-tail falls m C f), index_is_same a m o (All-head falls m C f))

  has_not : (C : List ℤ) → AllFalse T C → (a : ℤ) → on T (neg_ℤ a) ≡ false → has C a ≡ false
  has_not C f a o = elim (cases_Bool (has C a)) [ inr e ↦ e | inl e ↦ absurd (both_ways (on T (neg_ℤ a)) o (all_has (λ m. on T (neg_ℤ m) ≡ true) C f a e)) ]

  pub set_clause : (B : ℕ → Bool) (C : List ℤ) → AllFalse T C → ((x : ℕ) → B x ≡ names_index C x) → set_of T B ≡ has C
  set_clause B C f h = fun_ext (λ a. elim (cases_Bool (on T (neg_ℤ a)))
      [ inl o ↦ rw (o, h (index_of a)) (names_has a o C f) | inr o ↦ rw o (sym (has_not C f a o)) ])

  pub set_resolved : (B C : ℕ → Bool) (l : ℤ) (others : List ℤ) → on T l ≡ true → AllFalse T others
      → ((x : ℕ) → C x ≡ ((B x && not (eqb x (index_of l))) || names_index others x)) → set_of T C ≡ resolved l others (set_of T B)
  set_resolved B C l others p f h = fun_ext (λ a. elim (cases_Bool (on T (neg_ℤ a))) [
    | inl o ↦ rw (o, h (index_of a), names_has a o others f, ← index_neg l, index_is_same a (neg_ℤ l) o (rw (neg_ℤ-neg_ℤ l) p))
    | inr o ↦ rw o (sym (has_not others f a o))
  ])

-- one more word of a list
pub names_push : (B C D : ℕ → Bool) (xs : List ℤ) (l : ℤ) (y : ℕ) → y ≡ index_of l → ((x : ℕ) → C x ≡ (B x || names_index xs x)) → ((x : ℕ) → D x ≡ (C x || eqb x y))
    → (x : ℕ) → D x ≡ (B x || names_index (xs ++ (l ∷ [])) x)
names_push B C D xs l y e c d x =
    d x ∙ ap (λ b. b || eqb x y) (c x) ∙ or_assoc (B x) (names_index xs x) (eqb x y)
    ∙ ap (λ z. B x || (names_index xs x || eqb x z)) e ∙ ap (λ b. B x || b) (sym (any_push (λ m. eqb x (index_of m)) xs l))

pub both_more : (K B C D : ℕ → Bool) (n : ℕ) (t : Trail) → WellFormed n t → (l : ℤ) → on t (neg_ℤ l) ≡ true → (y new r : ℕ) → y ≡ index_of l
    → ((x : ℕ) → D x ≡ (C x || eqb x y)) → r ≡ one (not (C y) && K y) → new + both_count K B t ≡ both_count K C t → new + r + both_count K B t ≡ both_count K D t
both_more K B C D n t w l o y new r e d f g =
    let i : y ≡ index_of (neg_ℤ l) = e ∙ sym (index_neg l) in
    let a = both_cong K D (λ x. C x || eqb x (index_of (neg_ℤ l))) t (λ m _. d (index_of m) ∙ ap (λ z. C (index_of m) || eqb (index_of m) z) i) in
    let b = both_one K C n t w (neg_ℤ l) o in
    let q : r ≡ one (not (C (index_of (neg_ℤ l))) && K (index_of (neg_ℤ l))) = f ∙ ap (λ z. one (not (C z) && K z)) i in
    omega arith

pub both_none : (K B : ℕ → Bool) (t : Trail) → ((x : ℕ) → B x ≡ false) → both_count K B t ≡ 0
both_none K B [] b = refl
both_none K B (e ∷ t) b = rw (b (index_of (literal e)), and-false (K (index_of (literal e))), both_none K B t b)
