-- What an analysis leaves is written by rising variable.
use Rattle.std.proofs.Common.{◌≡◌, ℕ, zero, suc, ◌+◌, ◌*◌, ◌<◌, ◌≤◌, Bool, true, false, cond, not, ◌&&◌, eqb, List, [], ◌∷◌, ◌++◌, ℤ, pos, negsuc, neg_ℤ, nat_abs, filter, sym, refl, ap, ◌∙◌, subst, inl, inr, add-zero, zero-add, add-one, arith, length, get_or, take, drop, set, ◌-◌, ◌-ℤ◌, w32, SFits, to_z, of_z, rules, length-take-le, get_or-take}
use Rattle.std.proofs.lemmas.List.{append-nil, length-append}
use Rattle.std.proofs.lemmas.List.Elements.{filter-append}
use Rattle.std.proofs.lemmas.Bool.{ne_eqb, cases_Bool, and_right}
use Rattle.theory.specs.Trail.{Trail, literal, on, WellFormed, word}
use Rattle.theory.specs.Conflict.{literals_from, learned}
use Rattle.theory.proofs.Trails.{not_both, on_top, on_below}
use Rattle.theory.proofs.Analysis.{hits, analyse}
use Rattle.session.specs.Words.{word_at, words_from, value_at, Outside}
use Rattle.session.specs.Decode.{trail_of, clause_of, Coherent}
use Rattle.session.specs.Analysis.{set_of, analysed_at}
use Rattle.rules.specs.Literals.{var}
use Rattle.rules.proofs.Literals.{var_neg}
use Rattle.std.proofs.lemmas.Int.{to_z-of_z}
use Rattle.rules.proofs.GroupTells.{small_fits}
use Rattle.session.specs.declared.memory.Memory.{Memory}
use Rattle.session.specs.Memories.{trail_in}
use Rattle.session.proofs.Reading.{part_long, part_word, split_outside, split_words, split_long}
use Rattle.session.proofs.Words.{outside_wider}
use Rattle.session.proofs.Implying.{behind}

literals_more : (k c : ℕ) → literals_from k (suc c) ≡ literals_from k c ++ (pos (suc (k + c)) ∷ negsuc (k + c) ∷ [])
literals_more k zero = rw (add-zero k)
literals_more k (suc c) =
    let e : suc k + c ≡ k + suc c = omega arith in
    ap (λ xs. pos (suc k) ∷ negsuc k ∷ xs) (literals_more (suc k) c ∙ ap (λ j. literals_from (suc k) c ++ (pos (suc j) ∷ negsuc j ∷ [])) e)

-- one variable more
learned_more : (S : ℤ → Bool) (x : ℕ) → learned (x + 1) S ≡ learned x S ++ filter S (pos (suc x) ∷ negsuc x ∷ [])
learned_more S x =
    ap (λ k. filter S (literals_from 0 k)) (add-one x) ∙ ap (filter S) (literals_more 0 x)
    ∙ filter-append S (literals_from 0 x) (pos (suc (0 + x)) ∷ negsuc (0 + x) ∷ []) ∙ ap (λ k. learned x S ++ filter S (pos (suc k) ∷ negsuc k ∷ [])) (zero-add x)

-- the set has a literal of a held variable that has a value: the negation of that value
left_at : (n : ℕ) (T : Trail) → WellFormed n T → (B : ℕ → Bool) (x : ℕ)
    → filter (set_of T B) (pos (suc x) ∷ negsuc x ∷ []) ≡ cond (B x && not (eqb (nat_abs (word T (suc x))) 0)) (neg_ℤ (word T (suc x)) ∷ []) []
left_at n T w B x = elim (cases_Bool (on T (pos (suc x)))) [
  | inl p ↦ rw (p, not_both n T w (pos (suc x)) p, ne_eqb (suc x) 0 (λ z. omega arith)) (by (negsuc x) (B x))
  | inr p ↦ elim (cases_Bool (on T (negsuc x))) [
    | inl q ↦ rw (p, q, ne_eqb (suc x) 0 (λ z. omega arith)) (by (pos (suc x)) (B x))
    | inr q ↦ rw (p, q, and_right (B x) false refl)
  ]
]
  where
    by : (l : ℤ) (b : Bool) → cond b (l ∷ []) [] ≡ cond (b && true) (l ∷ []) []
    by l true = refl
    by l false = refl

-- the literals of the variables below x are written to the front of the room
pub record Collected (x count : ℕ) (S : ℤ → Bool) (was room : List ℤ) : Type 0 where
  pub many : count ≡ length (learned x S)
  pub most : count ≤ x
  pub front : room ≡ learned x S ++ drop count was

-- before any variable is read, nothing is written
pub collected_none : (S : ℤ → Bool) (ws : List ℤ) → Collected 0 0 S ws ws
collected_none S ws = record { many = refl; most = omega arith; front = refl }

module _ (n L len x count : ℕ) (B : ℕ → Bool) (ws was room : List ℤ) (st : Coherent n L len ws) (h : x < n) (u : Collected x count (set_of (trail_of n len ws) B) was room) where
  next : learned (x + 1) (set_of (trail_of n len ws) B) ≡ learned x (set_of (trail_of n len ws) B)
      ++ cond (B x && not (eqb (nat_abs (word_at ws (value_at n x))) 0)) (neg_ℤ (word_at ws (value_at n x)) ∷ []) []
  next = learned_more (set_of (trail_of n len ws) B) x
      ∙ ap (λ xs. learned x (set_of (trail_of n len ws) B) ++ xs) (left_at n (trail_of n len ws) st.formed B x
      ∙ ap (λ v. cond (B x && not (eqb (nat_abs v) 0)) (neg_ℤ v ∷ []) []) (sym (st.values x h)))

  pub collected_skip : (B x && not (eqb (nat_abs (word_at ws (value_at n x))) 0)) ≡ false → Collected (x + 1) count (set_of (trail_of n len ws) B) was room
  collected_skip e =
      let m = u.most in
      let same : learned (x + 1) (set_of (trail_of n len ws) B) ≡ learned x (set_of (trail_of n len ws) B) = next ∙ rw e (append-nil (learned x (set_of (trail_of n len ws) B))) in
      record { many = u.many ∙ ap length (sym same); most = omega arith; front = u.front ∙ ap (λ C. C ++ drop count was) (sym same) }

  pub collected_add : (B x && not (eqb (nat_abs (word_at ws (value_at n x))) 0)) ≡ true → count < length was
      → Collected (x + 1) (count + 1) (set_of (trail_of n len ws) B) was (set room count (neg_ℤ (word_at ws (value_at n x))))
  collected_add e l =
      let m = u.most in
      let v = neg_ℤ (word_at ws (value_at n x)) in
      let C = learned x (set_of (trail_of n len ws) B) in
      let more : learned (x + 1) (set_of (trail_of n len ws) B) ≡ C ++ (v ∷ []) = next ∙ rw e in
      let longer = ap length more ∙ length-append C (v ∷ []) in
      let c = u.many in
      record {
        many = omega arith;
        most = omega arith;
        front = ap (λ r. set r count v) u.front ∙ behind C was count v u.many l ∙ ap (λ D. D ++ drop (count + 1) was) (sym more);
      }

-- the values as a part of the words in front of the clause in hand
module _ (n : ℕ) (ws front : List ℤ) (big : 4 * n ≤ length ws) (e : front ≡ take (4 * n) ws) where
  front_long : length front ≡ 4 * n
  front_long = ap length e ∙ length-take-le (4 * n) ws big

  pub values_long : length (take (length front - 3 * n) (drop (3 * n) front)) ≡ n
  values_long = let l = front_long in part_long front (3 * n) (length front - 3 * n) (omega arith) ∙ omega arith

  pub values_at : (x : ℕ) → x < n → get_or (take (length front - 3 * n) (drop (3 * n) front)) x (pos 0) ≡ word_at ws (value_at n x)
  values_at x h =
      let l = front_long in
      part_word front (3 * n) (length front - 3 * n) x (omega arith) ∙ ap (λ f. word_at f (value_at n x)) e ∙ get_or-take (4 * n) ws (value_at n x) (pos 0) (omega arith)

-- a value is as small as its variable
pub small_word : (t : Trail) (v : ℕ) → var (word t v) ≤ v
small_word t v = elim (cases_Bool (on t (pos v))) [
  | inl p ↦ rw p (omega arith)
  | inr p ↦ elim (cases_Bool (on t (neg_ℤ (pos v)))) [ inl q ↦ rw (p, q) (omega (arith, var_neg (pos v))) | inr q ↦ rw (p, q) (omega arith) ]
]

-- the negation of a word, as the code computes it
pub negated : (x : ℤ) → var x ≤ 1000 → SFits w32 (pos 0 -ℤ to_z w32 (of_z w32 x)) × (to_z w32 (of_z w32 (pos 0 -ℤ to_z w32 (of_z w32 x))) ≡ neg_ℤ x)
negated x h =
    let less : pos 0 -ℤ to_z w32 (of_z w32 x) ≡ neg_ℤ x = ap (λ y. pos 0 -ℤ y) (to_z-of_z w32 x (small_fits x h)) ∙ by x in
    let fits = small_fits (neg_ℤ x) (omega (arith, var_neg x)) in
    (subst (SFits w32) (sym less) fits, ap (λ y. to_z w32 (of_z w32 y)) less ∙ to_z-of_z w32 (neg_ℤ x) fits)
  where
    by : (y : ℤ) → pos 0 -ℤ y ≡ neg_ℤ y
    by y = search rules

-- whether a value is 0, as the code tests it
pub valued : (x : ℤ) → (of_z w32 x ≡ 0 → ⊥) → not (eqb (nat_abs x) 0) ≡ true
valued (pos zero) h = absurd (h refl)
valued (pos (suc a)) h = ap not (ne_eqb (suc a) 0 (λ e. omega arith))
valued (negsuc a) h = ap not (ne_eqb (suc a) 0 (λ e. omega arith))

pub valueless : (x : ℤ) → var x ≤ 1000 → of_z w32 x ≡ 0 → not (eqb (nat_abs x) 0) ≡ false
valueless x h e = ap (λ y. not (eqb (nat_abs y) 0)) (sym (to_z-of_z w32 x (small_fits x h)) ∙ ap (to_z w32) e)

-- the value that a turn of the loop reads
pub value_front : (m : Memory) (front : List ℤ) (x : ℕ) → front ≡ take (4 * m.layout.variables) m.words.now → x < length (take (length front - 3 * m.layout.variables) (drop (3 * m.layout.variables) front))
    → (x < m.layout.variables) × (get_or (take (length front - 3 * m.layout.variables) (drop (3 * m.layout.variables) front)) x (pos 0) ≡ word_at m.words.now (value_at m.layout.variables x))
    × (var (word_at m.words.now (value_at m.layout.variables x)) ≤ 1000)
value_front m front x e h =
    let n = m.layout.variables in
    let st = m.sound.coherent in
    let big = st.big in
    let small = m.layout.small.0 in
    let long = values_long n m.words.now front (omega arith) e in
    let inside : x < n = omega arith in
    let word_small = ap var (st.values x inside) in
    let most = small_word (trail_in m) (suc x) in
    (inside, values_at n m.words.now front (omega arith) e x inside, omega arith)

-- all variables are done: the clause in hand is written
module _ (m : Memory) (B : ℕ → Bool) (x count : ℕ) (front back room : List ℤ) (ef : front ≡ take (4 * m.layout.variables) m.words.now) (eb : back ≡ drop (4 * m.layout.variables) m.words.now)
    (low : x ≤ length (take (length front - 3 * m.layout.variables) (drop (3 * m.layout.variables) front))) (high : length (take (length front - 3 * m.layout.variables) (drop (3 * m.layout.variables) front)) ≤ x)
    (u : Collected x count (set_of (trail_in m) B) back room) where
  all : x ≡ m.layout.variables
  all =
      let big = m.sound.coherent.big in
      let long = values_long m.layout.variables m.words.now front (omega arith) ef in
      omega arith

  few : count ≤ m.layout.variables
  few = let e = all in let q = u.most in omega arith

  fits : 4 * m.layout.variables + count ≤ length m.words.now
  fits = let big = m.sound.coherent.big in let f = few in omega arith

  is : room ≡ learned x (set_of (trail_in m) B) ++ drop count (drop (4 * m.layout.variables) m.words.now)
  is = u.front ∙ ap (λ r. learned x (set_of (trail_in m) B) ++ drop count r) eb

  pub collected_clause : clause_of m.layout.variables count (front ++ room) ≡ learned m.layout.variables (set_of (trail_in m) B)
  collected_clause = ap (λ b. words_from (front ++ room) b count) (add-zero (4 * m.layout.variables))
      ∙ split_words m.words.now front room (learned x (set_of (trail_in m) B)) (4 * m.layout.variables) count fits (sym u.many) ef is ∙ ap (λ k. learned k (set_of (trail_in m) B)) all

  pub collected_frame : (length (front ++ room) ≡ length m.words.now) × Outside (4 * m.layout.variables) m.layout.variables m.words.now (front ++ room)
  collected_frame =
      let f = few in
      let C = learned x (set_of (trail_in m) B) in (
        split_long m.words.now front room C (4 * m.layout.variables) count fits (sym u.many) ef is,
        outside_wider (4 * m.layout.variables) count (4 * m.layout.variables) m.layout.variables m.words.now (front ++ room) (omega arith) (omega arith)
            (split_outside m.words.now front room C (4 * m.layout.variables) count fits (sym u.many) ef is),
      )

-- an analysis goes by what is said of the trail's literals
hits_cong : (f g : ℤ → Bool) (t : Trail) → ((l : ℤ) → on t l ≡ true → f l ≡ g l) → (S : ℤ → Bool) → hits f t S ≡ hits g t S
hits_cong f g [] h S = refl
hits_cong f g (e ∷ t) h S = rw (h (literal e) (on_top e t), hits_cong f g t (λ l o. h l (on_below e t l o)) S)

pub analyse_cong : (f g : ℤ → Bool) (t : Trail) → ((l : ℤ) → on t l ≡ true → f l ≡ g l) → (S : ℤ → Bool) → analyse f t S ≡ analyse g t S
analyse_cong f g [] h S = refl
analyse_cong f g (e ∷ t) h S =
    let up : (l : ℤ) → on t l ≡ true → f l ≡ g l = λ l o. h l (on_below e t l o) in
    rw (hits_cong f g t up S, h (literal e) (on_top e t), analyse_cong f g t up (analysed_at g e S))
