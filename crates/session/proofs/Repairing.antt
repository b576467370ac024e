-- The repair of a conflict: what each of its parts asks, and where they lead.
use Rattle.std.proofs.Common.{◌≡◌, ℕ, ◌+◌, ◌*◌, ◌<◌, ◌≤◌, Bool, true, not, List, [], ◌∷◌, length, ℤ, neg_ℤ, All, filter, sym, refl, ap, ◌∙◌, subst, arith, Some, pos}
use Rattle.std.proofs.Common.{◌-◌}
use Rattle.std.specs.List.{position}
use Rattle.std.proofs.lemmas.List.Quantifiers.{position-Some}
use Rattle.std.proofs.lemmas.List.FromFn.{length-map-range_with_len, get_or-map-range_with_len}
use Rattle.rules.specs.Literals.{in_range, has, any_pass}
use Rattle.rules.specs.Clauses.{Status.falsified, status}
use Rattle.rules.proofs.Literals.{has_all, has_any}
use Rattle.rules.proofs.Statuses.{kept_in, falsified_all}
use Rattle.theory.specs.Trail.{Entry, Entry.implied, Trail, literal, on, decided_literals, Placeable, WellFormed}
use Rattle.theory.specs.Chunks.{in_chunk, touches, chunk, without_chunk}
use Rattle.theory.specs.Look.{Position}
use Rattle.theory.specs.Search.{placed}
use Rattle.theory.specs.Conflict.{Touched, Analysed, literals_from, learned, others_of, written}
use Rattle.theory.proofs.Trails.{AllFalse, on_top, on_below}
use Rattle.theory.proofs.Analysis.{analysed_false, one_touching}
use Rattle.theory.proofs.Repairing.{chunk_kept, learned_all, repaired_formed}
use Rattle.session.specs.Words.{word_at, index_of, clause_at, row_at, size, Outside}
use Rattle.session.specs.Decode.{literal_at, trail_of, clause_of, marked_index, marked, unmarked, Marked, Sound}
use Rattle.session.specs.Repair.{Repairs}
use Rattle.session.proofs.Words.{slot_behind, index_range, index_neg, words_same, has_word, words_all, outside_both, outside_wider}
use Rattle.session.proofs.Decode.{length_trail, false_ranged, outside_trail}
use Rattle.session.proofs.Placing as placing
use Rattle.session.proofs.Marking.{marked_is}
use Rattle.session.proofs.Storing.{touched_outside}

-- what is kept goes by what is said of the trail's literals
kept_cong : (f g : ℤ → Bool) (t : Trail) → ((l : ℤ) → on t l ≡ true → f l ≡ g l) → filter (λ e. not (f (literal e))) t ≡ filter (λ e. not (g (literal e))) t
kept_cong f g [] h = refl
kept_cong f g (e ∷ t) h = rw (h (literal e) (on_top e t), kept_cong f g t (λ l o. h l (on_below e t l o)))

module _ (n : ℕ) (T : Trail) (w : WellFormed n T) (d : ℤ) (C : List ℤ) (dec : has (decided_literals T) d ≡ true) (fal : status (on T) C ≡ falsified) (tou : touches T d C ≡ true)
    (S : ℤ → Bool) (an : Analysed (in_chunk d T) T (has C) S) where
  chosen : Touched T C d
  chosen = record { decision = dec; touching = tou }

  left_false : (x : ℤ) → S x ≡ true → on T (neg_ℤ x) ≡ true
  left_false = analysed_false n T w d an (falsified_all (on T) C fal)

  pub learned_false : AllFalse T (learned n S)
  learned_false = has_all (λ x. on T (neg_ℤ x) ≡ true) (learned n S) (λ x h. left_false x (kept_in S (literals_from 0 n) x h).1)

  -- where the marks tell the chunk, what is left has a marked literal
  module _ (ws : List ℤ) (m : Marked n T (in_chunk d T) ws) where
    by_marks : (x : ℤ) → S x ≡ true → marked n ws x ≡ in_chunk d T (neg_ℤ x)
    by_marks x s = ap (marked_index n ws) (sym (index_neg x)) ∙ marked_is n T (in_chunk d T) ws m (neg_ℤ x) (left_false x s)

    pub some_marked : any_pass (marked n ws) (learned n S) ≡ true
    some_marked =
        let r = one_touching n T w d C tou an in
        has_any (marked n ws) (learned n S) r.0 (learned_all n T w C fal d chosen S an r.0 r.1) (by_marks r.0 r.1 ∙ r.2)

    -- a literal of it that is marked is the one to place
    pub found_left : (u : ℤ) → has (learned n S) u ≡ true → marked n ws u ≡ true → (S u ≡ true) × (in_chunk d T (neg_ℤ u) ≡ true)
    found_left u h k = let s = (kept_in S (literals_from 0 n) u h).1 in (s, sym (by_marks u s) ∙ k)

  pub next_formed : (u : ℤ) → S u ≡ true → in_chunk d T (neg_ℤ u) ≡ true → WellFormed n (implied u (others_of u (learned n S)) ∷ without_chunk T d)
  next_formed u su tu = repaired_formed n T w C fal d chosen S an u su tu

-- Where a repair stands after the analysis: what it began with, and what it has left in hand.
pub record Resolved (n L count len filled k j root : ℕ) (S : ℤ → Bool) (w0 w1 : List ℤ) : Type 0 where
  pub sound : Sound n L count len filled w0
  pub few : j ≤ n
  pub decision : has (decided_literals (trail_of n len w0)) (literal_at n w0 root) ≡ true
  pub conflict : status (on (trail_of n len w0)) (clause_of n k w0) ≡ falsified
  pub touching : touches (trail_of n len w0) (literal_at n w0 root) (clause_of n k w0) ≡ true
  pub analysed : Analysed (in_chunk (literal_at n w0 root) (trail_of n len w0)) (trail_of n len w0) (has (clause_of n k w0)) S
  pub clause : clause_of n j w1 ≡ learned n S
  pub marks : Marked n (trail_of n len w0) (in_chunk (literal_at n w0 root) (trail_of n len w0)) w1
  pub frame : Outside (4 * n) (2 * n) w0 w1

-- the first marked literal in hand
pub first_left : (n j at : ℕ) (ws : List ℤ) → position (marked n ws) (clause_of n j ws) ≡ Some at → (at < j) × (marked n ws (word_at ws (clause_at n 0 + at)) ≡ true)
first_left n j at ws e =
    let p = position-Some (marked n ws) (clause_of n j ws) at (pos 0) e in
    let inside : at < j = subst (λ k. at < k) (length-map-range_with_len (word_at ws) (clause_at n 0) j) p.0 in
    (inside, ap (marked n ws) (sym (get_or-map-range_with_len (word_at ws) (clause_at n 0) j at (clause_at n 0 + at) (pos 0) inside (omega arith))) ∙ p.1)

-- and once the first marked literal in hand is found
pub record Found (n L count len filled k j root at : ℕ) (S : ℤ → Bool) (w0 w1 : List ℤ) : Type 0 where
  pub resolved : Resolved n L count len filled k j root S w0 w1
  pub within : at < j
  pub found : marked n w1 (word_at w1 (clause_at n 0 + at)) ≡ true

module _ (n L count len filled k j root : ℕ) (S : ℤ → Bool) (w0 w1 : List ℤ) (h : Resolved n L count len filled k j root S w0 w1) where
  abbrev T : Trail
  T = trail_of n len w0

  abbrev d : ℤ
  d = literal_at n w0 root

  formed : WellFormed n T
  formed = h.sound.coherent.formed

  pub left_ranged : (i : ℕ) → i < j → in_range n (word_at w1 (clause_at n 0 + i)) ≡ true
  left_ranged = false_ranged n T formed w1 (clause_at n 0) j
      (subst (AllFalse T) (sym h.clause) (learned_false n T formed d (clause_of n k w0) h.decision h.conflict h.touching S h.analysed))

  pub left_all : All (λ l. in_range n l ≡ true) (clause_of n j w1)
  left_all = words_all (λ l. in_range n l ≡ true) w1 (clause_at n 0) j left_ranged

  pub touching_left : any_pass (marked n w1) (clause_of n j w1) ≡ true
  touching_left = ap (any_pass (marked n w1)) h.clause ∙ some_marked n T formed d (clause_of n k w0) h.decision h.conflict h.touching S h.analysed w1 h.marks

  undone_is : unmarked n w1 (trail_of n len w1) ≡ without_chunk T d
  undone_is = ap (unmarked n w1) (outside_trail n L len (4 * n) (2 * n) w0 w1 (omega arith) (omega arith) h.sound.coherent h.frame)
      ∙ kept_cong (marked n w1) (in_chunk d T) T (marked_is n T (in_chunk d T) w1 h.marks)

module _ (n L count len filled k j root at : ℕ) (S : ℤ → Bool) (w0 w1 : List ℤ) (g : Found n L count len filled k j root at S w0 w1) where
  abbrev h : Resolved n L count len filled k j root S w0 w1
  h = g.resolved

  abbrev t : Trail
  t = trail_of n len w0

  abbrev root_literal : ℤ
  root_literal = literal_at n w0 root

  -- the literal to place
  abbrev u : ℤ
  u = word_at w1 (clause_at n 0 + at)

  u_left : (S u ≡ true) × (in_chunk root_literal t (neg_ℤ u) ≡ true)
  u_left = found_left n t h.sound.coherent.formed root_literal (clause_of n k w0) h.decision h.conflict h.touching S h.analysed w1 h.marks u
      (subst (λ D. has D u ≡ true) h.clause (has_word w1 (clause_at n 0) j at g.within)) g.found

  formed_next : WellFormed n (implied u (others_of u (learned n S)) ∷ without_chunk t root_literal)
  formed_next = next_formed n t h.sound.coherent.formed root_literal (clause_of n k w0) h.decision h.conflict h.touching S h.analysed u u_left.0 u_left.1

  undone : unmarked n w1 (trail_of n len w1) ≡ without_chunk t root_literal
  undone = undone_is n L count len filled k j root S w0 w1 h

  pub closed : WellFormed n (unmarked n w1 (trail_of n len w1))
  closed = subst (WellFormed n) (sym undone) formed_next.1

  -- after the chunk is undone
  module _ (w2 : List ℤ) (o2 : Outside (2 * n) (2 * n) w1 w2) where
    same_literal : word_at w2 (clause_at n at) ≡ u
    same_literal = o2.above (clause_at n at) (omega arith) ∙ ap (word_at w1) (omega arith)

    pub same_learned : clause_of n j w2 ≡ learned n S
    same_learned = words_same w1 w2 (clause_at n 0) (clause_at n 0) j (λ i l. o2.above (clause_at n 0 + i) (omega arith)) ∙ h.clause

    -- the entry that is placed
    pub entry_is : implied (word_at w2 (clause_at n at)) (others_of (word_at w2 (clause_at n at)) (clause_of n j w2)) ≡ implied u (others_of u (learned n S))
    entry_is = ap (λ v. implied v (others_of v (clause_of n j w2))) same_literal ∙ ap (λ D. implied u (others_of u D)) same_learned

    pub placeable : (t2 : Trail) → t2 ≡ unmarked n w1 (trail_of n len w1) → Placeable n t2 (implied (word_at w2 (clause_at n at)) (others_of (word_at w2 (clause_at n at)) (clause_of n j w2)))
    placeable t2 e = subst (λ s. Placeable n s (implied (word_at w2 (clause_at n at)) (others_of (word_at w2 (clause_at n at)) (clause_of n j w2)))) (sym (e ∙ undone))
        (subst (Placeable n (without_chunk t root_literal)) (sym entry_is) formed_next.0)

    around : Outside (2 * n) (4 * n + n * (n + 1)) w0 w2
    around = outside_both (2 * n) (4 * n + n * (n + 1)) w0 w1 w2
        (outside_wider (4 * n) (2 * n) (2 * n) (4 * n + n * (n + 1)) w0 w1 (omega arith) (omega arith) h.frame)
        (outside_wider (2 * n) (2 * n) (2 * n) (4 * n + n * (n + 1)) w1 w2 (omega arith) (omega arith) o2)

    -- after the literal is placed and the clause learned
    module _ (rest : ℕ) (w3 w4 : List ℤ) (room : rest < n) (to : placing.Touched n rest (index_of (word_at w2 (clause_at n at))) w2 w3)
        (be : (i : ℕ) → i < row_at n n 0 → word_at w4 i ≡ word_at w3 i) where
      -- no word before the trail has changed, and none behind the slots
      pub repair_frame : ((i : ℕ) → size n L ≤ i → word_at w4 i ≡ word_at w3 i) → Outside (2 * n) (size n L - 2 * n) w0 w4
      repair_frame bh =
          let a = subst (λ v. index_of v < n) (sym same_literal) (index_range n u (left_ranged n L count len filled k j root S w0 w1 h at g.within)).1 in
          let q = touched_outside n rest (index_of (word_at w2 (clause_at n at))) w2 w3 room a to in
          let m = slot_behind n L 0 in
          record {
            below = λ i l. be i (omega arith) ∙ (q.below i l ∙ around.below i l);
            above = λ i l. bh i (omega arith) ∙ (q.above i (omega arith) ∙ around.above i (omega arith));
          }

  -- how many are undone, where so many are left
  pub undone_count : (many rest : ℕ) → many + rest ≡ len → length (unmarked n w1 (trail_of n len w1)) ≡ rest → many ≡ length (chunk t root_literal)
  undone_count many rest e q =
      let a = chunk_kept t root_literal in
      let b = length_trail n len w0 in
      let c = ap length (sym undone) ∙ q in
      omega arith

  -- one position after another: as it was, undone, placed, learned
  pub repairs : (p p2 p3 p4 : Position) (e : Entry) (C2 C3 : List ℤ) → p.trail ≡ t → p2 ≡ record { assumptions = p.assumptions; trail = unmarked n w1 (trail_of n len w1); slots = p.slots }
      → e ≡ implied u (others_of u (learned n S)) → p3 ≡ placed p2 e → C3 ≡ C2 → C2 ≡ learned n S
      → p4 ≡ record { assumptions = p3.assumptions; trail = p3.trail; slots = written L p3.slots C3 } → Repairs n L p (clause_of n k w0) root_literal p4
  repairs p p2 p3 p4 e C2 C3 pt e2 ee e3 c3 c2 e4 = record {
    placed = u;
    left = S;
    analysed = subst (λ T. Analysed (in_chunk root_literal T) T (has (clause_of n k w0)) S) (sym pt) h.analysed;
    is_left = u_left.0;
    touched = subst (λ T. in_chunk root_literal T (neg_ℤ u) ≡ true) (sym pt) u_left.1;
    leads = rw (e4, e3, e2, ee, c3, c2, undone, pt);
  }
