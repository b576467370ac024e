-- Laws of addresses, of what is read at them, and of frames.
use Rattle.std.proofs.Common.{◌≡◌, ℕ, zero, suc, ◌+◌, ◌-◌, ◌*◌, ◌<◌, ◌≤◌, Bool, true, false, ◌≢◌, ◌⊎◌, List, [], ◌∷◌, map, length, set, ℤ, pos, negsuc, neg_ℤ, All, Some, None, sym, refl, ap, ◌∙◌, subst, inl, inr, add-zero, add_assoc, suc-mul, add-one, one-add, arith, cond, ltb, ◌∷◌}
use mathlib.Core.Bool.{false≢true}
use Rattle.std.specs.List.{range_with_len, position, position_or_len, CopiedTo, SameBelow, SameFrom}
use Rattle.std.proofs.lemmas.List.{get_or-set_same, get_or-set_other}
use Rattle.std.proofs.lemmas.Nat.{mul-add-lt, mul-le}
use Rattle.std.proofs.lemmas.Bool.{cases_lt, lt-ltb, le-ltb, cases_order, cases_Bool, or_cases, or_left}
use Rattle.std.specs.Option.{is_some}
use Rattle.rules.specs.Literals.{var, same, in_range, has, any_pass}
use Rattle.rules.proofs.Literals.{range_bounds, same_true, eq_same, has_later, all_has, has_all}
use Rattle.std.proofs.lemmas.Grind.{common_steps}
use borrow.Rule.Slice.PartMut.{put_mid}
use Rattle.session.specs.Words.{word_at, words_from, index_of, row_at, size, Wrote, Outside}

pub wrote : (ws : List ℤ) (i : ℕ) (v : ℤ) → i < length ws → Wrote i v ws (set ws i v)
wrote ws i v h = record { at = get_or-set_same ws i v (pos 0) h; rest = λ j d. get_or-set_other ws i j v (pos 0) d }

-- rows
pub row_below : (n L x k : ℕ) → x < n + L → k ≤ n → row_at n x k < size n L
row_below n L x k h l = let q : x * (n + 1) + k < (n + 1) * (n + L) = mul-add-lt x (n + 1) k (n + L) h (omega arith) in omega arith

-- a row ends where the next begins
row_next : (n x y : ℕ) → x < y → row_at n x (n + 1) ≤ row_at n y 0
row_next n x y h =
    let q : (x + 1) * (n + 1) ≤ y * (n + 1) = mul-le (x + 1) (n + 1) y (n + 1) (omega arith) (omega arith) in
    let r : (x + 1) * (n + 1) ≡ x * (n + 1) + (n + 1) = ap (λ z. z * (n + 1)) (add-one x) ∙ suc-mul x (n + 1) in
    omega arith

-- the slots lie behind the reasons
pub slot_behind : (n s k : ℕ) → row_at n n 0 ≤ row_at n (n + s) k
slot_behind n s k = let q : n * (n + 1) ≤ (n + s) * (n + 1) = mul-le n (n + 1) (n + s) (n + 1) (omega arith) (omega arith) in omega arith

pub reason_before : (n x k : ℕ) → x < n → k ≤ n → row_at n x k < row_at n n 0
reason_before n x k h l = let q = row_next n x n h in omega arith

-- one row lies before another or behind it
pub rows_apart : (n x y k : ℕ) → y ≢ x → k ≤ n → (row_at n y k < row_at n x 0) ⊎ (row_at n x (n + 1) ≤ row_at n y k)
rows_apart n x y k d h = elim (cases_order y x) [
  | inl e ↦ absurd (d e)
  | inr o ↦ elim o [ inl l ↦ let q = row_next n y x l in inl (omega arith) | inr l ↦ let q = row_next n x y l in inr (omega arith) ]
]

-- literals
pub index_var : (l : ℤ) → 1 ≤ var l → suc (index_of l) ≡ var l
index_var (pos zero) h = let q : ⊥ = omega arith in absurd q
index_var (pos (suc a)) h = refl
index_var (negsuc a) h = refl

pub index_neg : (l : ℤ) → index_of (neg_ℤ l) ≡ index_of l
index_neg (pos zero) = refl
index_neg (pos (suc a)) = refl
index_neg (negsuc a) = refl

pub index_range : (n : ℕ) (l : ℤ) → in_range n l ≡ true → (1 ≤ var l) × (index_of l < n)
index_range n l h = let b = range_bounds n l h in let low = b.0 in let high = b.1 in let v = index_var l low in (low, omega arith)

-- lists that are counted out alike are the same
pub counted_same : {X : Type 0} (f g : ℕ → X) (a b k : ℕ) → ((i : ℕ) → i < k → f (a + i) ≡ g (b + i)) → map f (range_with_len a k) ≡ map g (range_with_len b k)
counted_same f g a b zero h = refl
counted_same f g a b (suc k) h =
    let p : f a ≡ g b = ap f (sym (add-zero a)) ∙ h 0 (omega arith) ∙ ap g (add-zero b) in
    let q = counted_same f g (a + 1) (b + 1) k (λ i l. ap f (add_assoc a 1 i) ∙ ap (λ j. f (a + j)) (one-add i) ∙ h (suc i) (omega arith) ∙ ap (λ j. g (b + j)) (sym (one-add i)) ∙ ap g (sym (add_assoc b 1 i))) in
    rw (p, q)

-- what is read of words that are the same
pub words_same : (was now : List ℤ) (from to k : ℕ) → ((i : ℕ) → i < k → word_at now (to + i) ≡ word_at was (from + i)) → words_from now to k ≡ words_from was from k
words_same was now from to k h = counted_same (word_at now) (word_at was) to from k h

-- what a copy of so many words leaves
pub copied_words : (was now : List ℤ) (from to k : ℕ) → CopiedTo was now from to (from + k - from) → words_from now to k ≡ words_from was from k
copied_words was now from to k c = words_same was now from to k (λ i h. let e : to + i - to ≡ i = omega arith in c (to + i) (pos 0) (omega arith) (omega arith) ∙ ap (λ j. word_at was (from + j)) e)

pub copied_outside : (was now : List ℤ) (from to k : ℕ) → SameBelow was now to → SameFrom was now (to + (from + k - from)) → Outside to k was now
copied_outside was now from to k b a = record { below = λ i h. b i (pos 0) h; above = λ i h. a i (pos 0) (omega arith) }

-- the list has the words that it is read from, and no others
pub has_word : (ws : List ℤ) (base k i : ℕ) → i < k → has (words_from ws base k) (word_at ws (base + i)) ≡ true
has_word ws base zero i h = let q : ⊥ = omega arith in absurd q
has_word ws base (suc k) zero h = or_left (same (word_at ws (base + 0)) (word_at ws base)) (has (words_from ws (base + 1) k) (word_at ws (base + 0))) (eq_same (word_at ws (base + 0)) (word_at ws base) (ap (word_at ws) (omega arith)))
has_word ws base (suc k) (suc i) h =
    let a : base + 1 + i ≡ base + suc i = omega arith in
    has_later (word_at ws base) (words_from ws (base + 1) k) (word_at ws (base + suc i)) (subst (λ j. has (words_from ws (base + 1) k) (word_at ws j) ≡ true) a (has_word ws (base + 1) k i (omega arith)))

pub word_has : (ws : List ℤ) (base k : ℕ) (x : ℤ) → has (words_from ws base k) x ≡ true → (i : ℕ) × (i < k) × (word_at ws (base + i) ≡ x)
word_has ws base zero x h = absurd (false≢true h)
word_has ws base (suc k) x h = elim (or_cases (same x (word_at ws base)) (has (words_from ws (base + 1) k) x) h) [
  | inl e ↦ (0, omega arith, ap (word_at ws) (omega arith) ∙ sym (same_true x (word_at ws base) e))
  | inr e ↦ let r = word_has ws (base + 1) k x e in let b = r.1 in let a : base + (r.0 + 1) ≡ base + 1 + r.0 = omega arith in (r.0 + 1, omega arith, ap (word_at ws) a ∙ r.2)
]

pub words_all : (P : ℤ → Type 0) (ws : List ℤ) (base k : ℕ) → ((i : ℕ) → i < k → P (word_at ws (base + i))) → All P (words_from ws base k)
words_all P ws base k h = has_all P (words_from ws base k) (λ x e. let r = word_has ws base k x e in subst P r.2 (h r.0 r.1))

pub all_words : (P : ℤ → Type 0) (ws : List ℤ) (base k : ℕ) → All P (words_from ws base k) → (i : ℕ) → i < k → P (word_at ws (base + i))
all_words P ws base k h i l = all_has P (words_from ws base k) h (word_at ws (base + i)) (has_word ws base k i l)

-- whether there is a first that passes tells whether one passes
pub position_any : {X : Type 0} (test : X → Bool) (xs : List X) → is_some (position test xs) ≡ any_pass test xs
position_any {X = X} test xs = some_is (ltb (position_or_len test xs) (length xs)) (position_or_len test xs) ∙ by xs
  where
    some_is : (b : Bool) (i : ℕ) → is_some (cond b (Some i) None) ≡ b
    some_is true i = refl
    some_is false i = refl

    further : (a b : ℕ) → ltb (1 + a) (suc b) ≡ ltb a b
    further a b = elim (cases_lt a b) [ inl h ↦ lt-ltb (1 + a) (suc b) (omega arith) ∙ sym (lt-ltb a b h) | inr h ↦ le-ltb (1 + a) (suc b) (omega arith) ∙ sym (le-ltb a b h) ]

    by : (ys : List X) → ltb (position_or_len test ys) (length ys) ≡ any_pass test ys
    by [] = refl
    by (y ∷ ys) = elim (cases_Bool (test y)) [ inl e ↦ rw e (lt-ltb 0 (suc (length ys)) (omega arith)) | inr e ↦ rw e (further (position_or_len test ys) (length ys) ∙ by ys) ]

-- frames
pub outside_none : (base count : ℕ) (ws : List ℤ) → Outside base count ws ws
outside_none base count ws = record { below = λ _ _. refl; above = λ _ _. refl }

pub outside_more : (base count i : ℕ) (v : ℤ) (was mid now : List ℤ) → base ≤ i → i < base + count → Outside base count was mid → Wrote i v mid now → Outside base count was now
outside_more base count i v was mid now h k o w = record { below = λ j l. w.rest j (omega arith) ∙ o.below j l; above = λ j l. w.rest j (omega arith) ∙ o.above j l }

pub outside_both : (base count : ℕ) (was mid now : List ℤ) → Outside base count was mid → Outside base count mid now → Outside base count was now
outside_both base count was mid now o w = record { below = λ j l. w.below j l ∙ o.below j l; above = λ j l. w.above j l ∙ o.above j l }

pub outside_wider : (base count base' count' : ℕ) (was now : List ℤ) → base' ≤ base → base + count ≤ base' + count' → Outside base count was now → Outside base' count' was now
outside_wider base count base' count' was now a b o = record { below = λ j l. o.below j (omega arith); above = λ j l. o.above j (omega arith) }

-- what writing a part anew leaves
module _ (ws ys : List ℤ) (base k : ℕ) (within : base + k ≤ length ws) (many : length ys ≡ k) where
  pub part_word_put : (i : ℕ) → i < k → word_at (put_mid base k ws ys) (base + i) ≡ word_at ys i
  part_word_put i h = grind (arith, common_steps)

  pub part_outside : Outside base k ws (put_mid base k ws ys)
  part_outside = record { below = λ i h. grind (arith, common_steps); above = λ i h. grind (arith, common_steps) }
