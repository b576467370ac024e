-- Marks that go back along the trail tell which assumed literals a conflict rests on.
use Rattle.std.proofs.Common.{◌≡◌, ℕ, zero, suc, ◌+◌, ◌*◌, ◌<◌, ◌≤◌, Bool, true, false, cond, ◌&&◌, ◌||◌, eqb, ◌⊎◌, List, [], ◌∷◌, ℤ, pos, neg_ℤ, nat_abs, filter, sym, refl, ap, ◌∙◌, subst, inl, inr, add-one, arith}
use mathlib.Core.Path.{fun_ext}
use mathlib.Core.Bool.{and_comm, false≢true}
use Rattle.std.proofs.lemmas.Bool.{cond-true, cond_both, cases_Bool, cases_eq, eqb-true, eq-eqb, ne_eqb, and_parts, and_from, and_right, or_cases, or_left, or_right}
use Rattle.std.proofs.lemmas.Bool.{and_cases, both_ways}
use Rattle.std.specs.Cmp.{both_ways as each_way}
use Rattle.std.proofs.Math.Bool.{or-false}
use Rattle.rules.specs.Literals.{same, has}
use Rattle.rules.specs.Values.{value_in}
use Rattle.rules.specs.declared.literal.Value.{Value}
use Rattle.rules.specs.declared.literal.Value.TheVariants.{True, False, Unassigned}
use Rattle.rules.proofs.Literals.{same_true, all_has, any_has, has_any}
use Rattle.rules.proofs.Statuses.{kept_in, in_kept, kept_cong}
use Rattle.theory.specs.Trail.{Entry, Entry.assumed, Entry.decided, Entry.implied, Trail, literal, on, assumed_literals, WellFormed}
use Rattle.theory.specs.Chunks.{Stands, Stands.newest, Stands.older, Chunk.of_assumed, joins, in_chunk, touches}
use Rattle.theory.proofs.Trails.{AllFalse, meets, on_top, on_below, on_range, Part, Part.whole, Part.next, part_formed, part_on, chunk_top}
use Rattle.theory.proofs.Chunks.{chunk_part, chunk_test}
use Rattle.session.specs.Words.{word_at, words_from, index_of, trail_at, clause_at, mark_at, row_at, Wrote, Outside}
use Rattle.session.specs.Decode.{as_entry, reason_of, entry_at, trail_of, clause_of, marked_index, marked, Coherent}
use Rattle.session.specs.Analysis.{names_index}
use Rattle.session.specs.Naming.{with_reason, marks_member}
use Rattle.session.proofs.Words.{index_range, index_neg}
use Rattle.session.proofs.Decode.{literal_of}
use Rattle.session.proofs.Marking.{joins_cong}
use Rattle.session.proofs.Counting.{index_one}
use Rattle.session.proofs.Resolving.{false_up}
use Rattle.session.proofs.Analysing.{same_clause}
use Rattle.session.proofs.Choosing.{trail_kept, entry_kept}

-- MARKED MEMBERS

-- there is one on the trail
member_on : (K : ℕ → Bool) (M : ℤ → Bool) (t : Trail) → marks_member K M t ≡ true → (l : ℤ) × (on t l ≡ true) × (K (index_of l) ≡ true) × (M l ≡ true)
member_on K M [] h = absurd (false≢true h)
member_on K M (e ∷ t) h = elim (or_cases (K (index_of (literal e)) && M (literal e)) (marks_member K M t) h) [
  | inl p ↦ let q = and_parts (K (index_of (literal e))) (M (literal e)) p in (literal e, on_top e t, q.0, q.1)
  | inr p ↦ let r = member_on K M t p in (r.0, on_below e t r.0 r.1, r.2, r.3)
]

on_member : (K : ℕ → Bool) (M : ℤ → Bool) (t : Trail) (l : ℤ) → on t l ≡ true → K (index_of l) ≡ true → M l ≡ true → marks_member K M t ≡ true
on_member K M [] l o k m = absurd (false≢true o)
on_member K M (e ∷ t) l o k m = elim (or_cases (same l (literal e)) (on t l) o) [
  | inl p ↦ or_left (K (index_of (literal e)) && M (literal e)) (marks_member K M t)
      (subst (λ z. (K (index_of z) && M z) ≡ true) (same_true l (literal e) p) (and_from (K (index_of l)) (M l) k m))
  | inr p ↦ or_right (K (index_of (literal e)) && M (literal e)) (marks_member K M t) (on_member K M t l p k m)
]

member_cong : (K N : ℕ → Bool) (M : ℤ → Bool) (t : Trail) → ((l : ℤ) → on t l ≡ true → K (index_of l) ≡ N (index_of l)) → marks_member K M t ≡ marks_member N M t
member_cong K N M [] h = refl
member_cong K N M (e ∷ t) h = rw (h (literal e) (on_top e t), member_cong K N M t (λ l o. h l (on_below e t l o)))

-- more marks
member_or : (K N : ℕ → Bool) (M : ℤ → Bool) (t : Trail) → marks_member (λ x. K x || N x) M t ≡ (marks_member K M t || marks_member N M t)
member_or K N M [] = refl
member_or K N M (e ∷ t) =
    ap (λ b. ((K (index_of (literal e)) || N (index_of (literal e))) && M (literal e)) || b) (member_or K N M t)
    ∙ mix (K (index_of (literal e))) (N (index_of (literal e))) (M (literal e)) (marks_member K M t) (marks_member N M t)
  where
    mix : (a b c p q : Bool) → (((a || b) && c) || (p || q)) ≡ (((a && c) || p) || ((b && c) || q))
    mix true b true p q = refl
    mix true true false p q = refl
    mix true false false p q = refl
    mix false true true true q = refl
    mix false true true false q = refl
    mix false true false p q = refl
    mix false false c p q = refl

-- a literal of the trail whose variable a false clause names is the negation of one of the clause's
named_meets : (n : ℕ) (t : Trail) → WellFormed n t → (C : List ℤ) → AllFalse t C → (M : ℤ → Bool) (l : ℤ) → on t l ≡ true → names_index C (index_of l) ≡ true → M l ≡ true → meets M C ≡ true
named_meets n t w C f M l o h m =
    let r = any_has (λ k. eqb (index_of l) (index_of k)) C h in
    let p = all_has (λ k. on t (neg_ℤ k) ≡ true) C f r.0 r.1 in
    let q = index_one n t w l (neg_ℤ r.0) o p (eqb-true (index_of l) (index_of r.0) r.2 ∙ sym (index_neg r.0)) in
    has_any (λ k. M (neg_ℤ k)) C r.0 r.1 (subst (λ z. M z ≡ true) q m)

member_names : (n : ℕ) (t : Trail) → WellFormed n t → (C : List ℤ) → AllFalse t C → (M : ℤ → Bool) → marks_member (names_index C) M t ≡ meets M C
member_names n t w C f M = each_way (marks_member (names_index C) M t) (meets M C)
    (λ h. let r = member_on (names_index C) M t h in named_meets n t w C f M r.0 r.1 r.2 r.3)
    (λ h.
    let r = any_has (λ k. M (neg_ℤ k)) C h in
    on_member (names_index C) M t (neg_ℤ r.0) (all_has (λ k. on t (neg_ℤ k) ≡ true) C f r.0 r.1)
    (has_any (λ k. eqb (index_of (neg_ℤ r.0)) (index_of k)) C r.0 r.1 (eq-eqb (index_of (neg_ℤ r.0)) (index_of r.0) (index_neg r.0))) r.2)

-- AN ASSUMED LITERAL

assumed_stands : (t : Trail) (r : ℤ) → has (assumed_literals t) r ≡ true → Stands (assumed r) t
assumed_stands [] r h = absurd (false≢true h)
assumed_stands (assumed l ∷ t) r h = elim (or_cases (same r l) (has (assumed_literals t) r) h)
    [ inl p ↦ subst (λ y. Stands (assumed r) (assumed y ∷ t)) (same_true r l p) newest | inr p ↦ older (assumed_stands t r p) ]
assumed_stands (decided l ∷ t) r h = older (assumed_stands t r h)
assumed_stands (implied l others ∷ t) r h = older (assumed_stands t r h)

stands_on : (e : Entry) {t : Trail} → Stands e t → on t (literal e) ≡ true
stands_on e (newest {t}) = on_top e t
stands_on e (older {newer} {t} s) = on_below newer t (literal e) (stands_on e s)

module _ (n : ℕ) (T : Trail) (w : WellFormed n T) (r : ℤ) (a : has (assumed_literals T) r ≡ true) where
  -- it stands on the trail, and is in its own chunk
  stands : on T r ≡ true
  stands = stands_on (assumed r) (assumed_stands T r a)

  own : in_chunk r T r ≡ true
  own = chunk_test n T w r (of_assumed (assumed_stands T r a))

  -- which entries are in the chunk
  joined : (e : Entry) (t : Trail) → Part T (e ∷ t) → in_chunk r T (literal e) ≡ joins r (in_chunk r T) e
  joined e t h = chunk_part r n T h w (literal e) (on_top e t) ∙ chunk_top r e t
      ∙ joins_cong r t (in_chunk r t) (in_chunk r T) (λ l o. sym (chunk_part r n T (next h) w l o)) e (part_formed n T h w).0.grounded

  -- before the walk back
  pub walk_none : (K : ℕ → Bool) → (K (index_of r) || marks_member K (in_chunk r T) T) ≡ marks_member K (in_chunk r T) T
  walk_none K = each_way (K (index_of r) || marks_member K (in_chunk r T) T) (marks_member K (in_chunk r T) T)
      (λ h. elim (or_cases (K (index_of r)) (marks_member K (in_chunk r T) T) h) [ inl p ↦ on_member K (in_chunk r T) T r stands p own | inr p ↦ p ])
      (λ h. or_right (K (index_of r)) (marks_member K (in_chunk r T) T) h)

  -- an entry that is not implied
  plain : (K : ℕ → Bool) (l : ℤ) (t : Trail) → in_chunk r T l ≡ same r l
      → (K (index_of r) || marks_member K (in_chunk r T) t) ≡ (K (index_of r) || ((K (index_of l) && in_chunk r T l) || marks_member K (in_chunk r T) t))
  plain K l t m = by (K (index_of r)) (K (index_of l) && in_chunk r T l) (marks_member K (in_chunk r T) t) (λ h.
      let p = and_parts (K (index_of l)) (in_chunk r T l) h in
      subst (λ z. K (index_of z) ≡ true) (sym (same_true r l (sym m ∙ p.1))) p.0)
    where
      by : (k i m : Bool) → (i ≡ true → k ≡ true) → (k || m) ≡ (k || (i || m))
      by true i m h = refl
      by false true m h = absurd (false≢true (h refl))
      by false false m h = refl

  -- one step back
  walk_more : (K : ℕ → Bool) (e : Entry) (t : Trail) → Part T (e ∷ t)
      → (with_reason K e (index_of r) || marks_member (with_reason K e) (in_chunk r T) t) ≡ (K (index_of r) || marks_member K (in_chunk r T) (e ∷ t))
  walk_more K (assumed l) t h = plain K l t (joined (assumed l) t h)
  walk_more K (decided l) t h = plain K l t (joined (decided l) t h)
  walk_more K (implied l others) t h =
      let M = in_chunk r T in
      let N = names_index others in
      let k = K (index_of l) in
      let pl = part_formed n T h w in
      let f = pl.0.grounded in
      let j = joined (implied l others) t h in
      let up = false_up t T (part_on T (next h)) others f in
      let more = member_or K (λ x. k && N x) M t ∙ ap (λ b. marks_member K M t || b) (gate k N t ∙ ap (λ b. k && b) (member_names n t pl.1 others f M ∙ sym j)) in
      ap (λ b. (K (index_of r) || (k && N (index_of r))) || b) more
      ∙ by (K (index_of r)) (k && N (index_of r)) (marks_member K M t) (k && M l)
      (λ p. let q = and_parts k (N (index_of r)) p in and_from k (M l) q.0 (j ∙ named_meets n T w others up M r stands q.1 own))
    where
      gate : (b : Bool) (N : ℕ → Bool) (t : Trail) → marks_member (λ x. b && N x) (in_chunk r T) t ≡ (b && marks_member N (in_chunk r T) t)
      gate true N t = refl
      gate false N [] = refl
      gate false N (e ∷ t) = gate false N t

      by : (k i m j : Bool) → (i ≡ true → j ≡ true) → ((k || i) || (m || j)) ≡ (k || (j || m))
      by true i m j h = refl
      by false true m true h = refl
      by false true m false h = absurd (false≢true (h refl))
      by false false true true h = refl
      by false false true false h = refl
      by false false false true h = refl
      by false false false false h = refl

-- MARKS IN THE WORDS

-- words that are no marks stay while marks are written
pub apart_word : (n base k : ℕ) (was now : List ℤ) → (base + k ≤ 5 * n) ⊎ (6 * n ≤ base) → Outside (5 * n) n was now → (i : ℕ) → i < k → word_at now (base + i) ≡ word_at was (base + i)
apart_word n base k was now (inl a) o i h = o.below (base + i) (omega arith)
apart_word n base k was now (inr a) o i h = o.above (base + i) (omega arith)

-- one mark more
pub mark_more : (n y : ℕ) (was now : List ℤ) → Wrote (mark_at n y) (pos 1) was now → (x : ℕ) → marked_index n now x ≡ (marked_index n was x || eqb x y)
mark_more n y was now w x = elim (cases_eq x y) [
  | inl e ↦ ap (marked_index n now) e ∙ ap (λ v. eqb (nat_abs v) 1) w.at ∙ sym (or_right (marked_index n was x) (eqb x y) (eq-eqb x y e))
  | inr d ↦ ap (λ v. eqb (nat_abs v) 1) (w.rest (mark_at n x) (λ z. d (omega arith))) ∙ sym (rw (ne_eqb x y d) (or-false (marked_index n was x)))
]

-- the reason of the literal at a place, by the row of its variable
module _ (n : ℕ) (ws : List ℤ) (K : ℕ → Bool) (p x : ℕ) (i : x ≡ index_of (word_at ws (trail_at n p))) where
  -- where the variable is marked and implied, those of its reason are marked too
  pub reason_marked : (K x && eqb (nat_abs (word_at ws (row_at n x 0))) 3) ≡ true
      → (y : ℕ) → with_reason K (entry_at n ws p) y ≡ (K y || names_index (reason_of n ws x) y)
  reason_marked h y =
      by (word_at ws (row_at n (index_of l) 0)) (subst (λ z. (K z && eqb (nat_abs (word_at ws (row_at n z 0))) 3) ≡ true) i h)
      ∙ ap (λ z. K y || names_index (reason_of n ws z) y) (sym i)
    where
      l : ℤ
      l = word_at ws (trail_at n p)

      by : (s : ℤ) → (K (index_of l) && eqb (nat_abs s) 3) ≡ true
          → with_reason K (as_entry s l (reason_of n ws (index_of l))) y ≡ (K y || names_index (reason_of n ws (index_of l)) y)
      by s g = let q = and_parts (K (index_of l)) (eqb (nat_abs s) 3) g in rw (q.1, q.0)

  -- where it is not both, the marks stay as they are
  pub reason_unmarked : (K x && eqb (nat_abs (word_at ws (row_at n x 0))) 3) ≡ false → (y : ℕ) → with_reason K (entry_at n ws p) y ≡ K y
  reason_unmarked h y = by (word_at ws (row_at n (index_of l) 0)) (reason_of n ws (index_of l))
      (subst (λ z. (K z && eqb (nat_abs (word_at ws (row_at n z 0))) 3) ≡ false) i h)
    where
      l : ℤ
      l = word_at ws (trail_at n p)

      by : (s : ℤ) (others : List ℤ) → (K (index_of l) && eqb (nat_abs s) 3) ≡ false → with_reason K (as_entry s l others) y ≡ K y
      by s others g = cond_both (eqb (nat_abs s) 3) (implied l others) (cond (eqb (nat_abs s) 1) (assumed l) (decided l)) (λ e. with_reason K e y ≡ K y)
          (λ t. elim (and_cases (K (index_of l)) (eqb (nat_abs s) 3) g) [ inl k ↦ rw k (or-false (K y)) | inr k ↦ absurd (both_ways (eqb (nat_abs s) 3) k t) ])
          (λ _. cond_both (eqb (nat_abs s) 1) (assumed l) (decided l) (λ e. with_reason K e y ≡ K y) (λ _. refl) (λ _. refl))

-- the oldest entries are a part of the trail
part_under : {T : Trail} (e : Entry) {t : Trail} → Part T t → Part (e ∷ T) t
part_under e whole = next whole
part_under e (next h) = next (part_under e h)

front_part : (n len : ℕ) (ws : List ℤ) (p : ℕ) → p ≤ len → Part (trail_of n len ws) (trail_of n p ws)
front_part n zero ws p h = let q : p ≡ zero = omega arith in subst (λ z. Part (trail_of n zero ws) (trail_of n z ws)) (sym q) whole
front_part n (suc k) ws p h = elim (cases_eq p (suc k))
    [ inl e ↦ subst (λ z. Part (trail_of n (suc k) ws) (trail_of n z ws)) (sym e) whole | inr e ↦ part_under (entry_at n ws k) (front_part n k ws p (omega arith)) ]

-- one step back from place q
pub walk_back : (n L len : ℕ) (was ws now : List ℤ) → Coherent n L len was → Outside (5 * n) n was ws → (p q : ℕ) → p + 1 ≡ q → p < len
    → ((x : ℕ) → marked_index n now x ≡ with_reason (marked_index n ws) (entry_at n ws p) x) → (r : ℤ) → has (assumed_literals (trail_of n len was)) r ≡ true
    → (marked n now r || marks_member (marked_index n now) (in_chunk r (trail_of n len was)) (trail_of n p was))
    ≡ (marked n ws r || marks_member (marked_index n ws) (in_chunk r (trail_of n len was)) (trail_of n q was))
walk_back n L len was ws now st o p q e h k r a =
    let T = trail_of n len was in
    let K = marked_index n ws in
    let f : marked_index n now ≡ with_reason K (entry_at n was p) = fun_ext (λ x. k x ∙ ap (λ z. with_reason K z x) (entry_kept n L len was ws st o p h)) in
    ap (λ J. J (index_of r) || marks_member J (in_chunk r T) (trail_of n p was)) f
    ∙ walk_more n T st.formed r a K (entry_at n was p) (trail_of n p was) (front_part n len was (suc p) (omega arith))
    ∙ ap (λ z. K (index_of r) || marks_member K (in_chunk r T) (trail_of n z was)) (sym (add-one p) ∙ e)

-- the marks that the walk begins with: the clause in hand, and no other variable of the trail
module _ (n L len k : ℕ) (was : List ℤ) (few : k ≤ n) (st : Coherent n L len was) where
  pub begun : (mid ws : List ℤ) (base : ℕ) → ((x : ℕ) → x < n → word_at mid (mark_at n x) ≡ pos 0) → Outside (5 * n) n was mid → base ≡ clause_at n 0
      → ((x : ℕ) → marked_index n ws x ≡ (marked_index n mid x || names_index (words_from mid base k) x)) → (l : ℤ) → on (trail_of n len was) l ≡ true → marked n ws l ≡ names_index (clause_of n k was) (index_of l)
  begun mid ws base z o b m l h =
      m (index_of l) ∙ ap (λ v. eqb (nat_abs v) 1 || names_index (words_from mid base k) (index_of l)) (z (index_of l) (index_range n l (on_range n (trail_of n len was) st.formed l h)).1)
      ∙ ap (λ a. names_index (words_from mid a k) (index_of l)) b ∙ ap (λ C. names_index C (index_of l)) (same_clause n k was mid few o)

  -- and what it ends with
  pub named : (ws now : List ℤ) → Outside (5 * n) n was ws → AllFalse (trail_of n len was) (clause_of n k was)
      → ((l : ℤ) → on (trail_of n len was) l ≡ true → marked n ws l ≡ names_index (clause_of n k was) (index_of l))
      → ((r : ℤ) → has (assumed_literals (trail_of n len ws)) r ≡ true → marked n now r ≡ marks_member (marked_index n ws) (in_chunk r (trail_of n len ws)) (trail_of n len ws))
      → filter (marked n now) (assumed_literals (trail_of n len was)) ≡ filter (λ r. touches (trail_of n len was) r (clause_of n k was)) (assumed_literals (trail_of n len was))
  named ws now o f b m =
      let T = trail_of n len was in
      let C = clause_of n k was in
      let e = trail_kept n L len was ws st o in
      kept_cong (marked n now) (λ r. touches T r C) (assumed_literals T) (λ r a.
      m r (subst (λ t. has (assumed_literals t) r ≡ true) (sym e) a) ∙ ap (λ t. marks_member (marked_index n ws) (in_chunk r t) t) e
      ∙ member_cong (marked_index n ws) (names_index C) (in_chunk r T) T b ∙ member_names n T st.formed C f (in_chunk r T))

-- MARKED ROOTS

value_true : (f : ℤ → Bool) (l : ℤ) → True ≡ value_in f l → f l ≡ true
value_true f l = by (f l) (f (neg_ℤ l))
  where
    by : (a b : Bool) → True ≡ cond a True (cond b False Unassigned) → a ≡ true
    by true b h = refl
    by false true h = let z : ◌≡◌ {A = ℕ} 0 1 = cc in absurd (omega arith)
    by false false h = let z : ◌≡◌ {A = ℕ} 0 1 = cc in absurd (omega arith)

value_other : (f : ℤ → Bool) (l : ℤ) (v : Value) → (v ≡ True → ⊥) → v ≡ value_in f l → f l ≡ false
value_other f l v d e = elim (cases_Bool (f l)) [ inl h ↦ absurd (d (e ∙ cond-true (f l) True (cond (f (neg_ℤ l)) False Unassigned) h)) | inr h ↦ h ]

has_kept : (test : ℤ → Bool) (ls : List ℤ) (x : ℤ) → has (filter test ls) x ≡ (has ls x && test x)
has_kept test ls x = each_way (has (filter test ls) x) (has ls x && test x)
    (λ h. let r = kept_in test ls x h in and_from (has ls x) (test x) r.0 r.1) (λ h. let r = and_parts (has ls x) (test x) h in in_kept test ls x r.0 r.1)

as_assumed : (s l : ℤ) (others : List ℤ) (t : Trail) (x : ℤ) → has (assumed_literals (as_entry s l others ∷ t)) x ≡ ((eqb (nat_abs s) 1 && same x l) || has (assumed_literals t) x)
as_assumed s l others t x =
    cond_both (eqb (nat_abs s) 3) (implied l others) (cond (eqb (nat_abs s) 1) (assumed l) (decided l)) Goal (λ h. let q = eqb-true (nat_abs s) 3 h in rw (ne_eqb (nat_abs s) 1 (λ z. omega arith)))
    (λ _. cond_both (eqb (nat_abs s) 1) (assumed l) (decided l) Goal (λ h. rw h) (λ h. rw h))
  where
    Goal : Entry → Type 0
    Goal e = has (assumed_literals (e ∷ t)) x ≡ ((eqb (nat_abs s) 1 && same x l) || has (assumed_literals t) x)

-- the row of an assumed literal says so
assumed_is : (n len : ℕ) (ws : List ℤ) (x : ℤ) → has (assumed_literals (trail_of n len ws)) x ≡ (on (trail_of n len ws) x && eqb (nat_abs (word_at ws (row_at n (index_of x) 0))) 1)
assumed_is n zero ws x = refl
assumed_is n (suc k) ws x =
    as_assumed (word_at ws (row_at n (index_of l) 0)) l (reason_of n ws (index_of l)) t x ∙ ap (λ b. (A l && same x l) || b) (assumed_is n k ws x)
    ∙ elim (cases_Bool (same x l)) [
      | inl p ↦ subst (λ z. ((A z && same x l) || (on t x && A x)) ≡ ((same x l || on t x) && A x)) (same_true x l p) (rw p (one (A x) (on t x)))
      | inr p ↦ rw (p, and_right (A l) false refl)
    ]
    ∙ ap (λ z. (same x z || on t x) && A x) (sym (literal_of n ws l))
  where
    A : ℤ → Bool
    A z = eqb (nat_abs (word_at ws (row_at n (index_of z) 0))) 1

    l : ℤ
    l = word_at ws (trail_at n k)

    t : Trail
    t = trail_of n k ws

    one : (a o : Bool) → ((a && true) || (o && a)) ≡ a
    one true o = refl
    one false o = and_right o false refl

module _ (n len : ℕ) (ws : List ℤ) (l : ℤ) where
  root_is : has (filter (marked n ws) (assumed_literals (trail_of n len ws))) l ≡ ((on (trail_of n len ws) l && eqb (nat_abs (word_at ws (row_at n (index_of l) 0))) 1) && marked n ws l)
  root_is = has_kept (marked n ws) (assumed_literals (trail_of n len ws)) l ∙ ap (λ b. b && marked n ws l) (assumed_is n len ws l)

  -- a literal that is true, and one that is not
  pub root_true : (x : ℕ) → x ≡ index_of l → True ≡ value_in (on (trail_of n len ws)) l
      → (marked_index n ws x && eqb (nat_abs (word_at ws (row_at n x 0))) 1) ≡ has (filter (marked n ws) (assumed_literals (trail_of n len ws))) l
  root_true x i v = and_comm (marked_index n ws x) (eqb (nat_abs (word_at ws (row_at n x 0))) 1)
      ∙ ap (λ z. eqb (nat_abs (word_at ws (row_at n z 0))) 1 && marked_index n ws z) i ∙ sym (root_is ∙ rw (value_true (on (trail_of n len ws)) l v))

  pub root_other : (v : Value) → (v ≡ True → ⊥) → v ≡ value_in (on (trail_of n len ws)) l → false ≡ has (filter (marked n ws) (assumed_literals (trail_of n len ws))) l
  root_other v d e = sym (root_is ∙ rw (value_other (on (trail_of n len ws)) l v d e))
