-- Decisions from the latest back, and the lightest of their chunks.
use Rattle.std.proofs.Common.{◌≡◌, ℕ, ◌+◌, ◌*◌, ◌<◌, ◌≤◌, Bool, true, false, cond, ltb, List, ◌∷◌, length, take, ℤ, Some, None, filter, Option, sym, refl, ap, ◌∙◌, subst, add-one, arith}
use Rattle.std.proofs.lemmas.List.FromFn.{length-map-range_with_len}
use Rattle.std.proofs.lemmas.Bool.{cond-true, cond-false, cond_both, lt-ltb, le-ltb}
use Rattle.rules.specs.Clauses.{Status.falsified, status}
use Rattle.weights.specs.Choosing.{by_weight, offered}
use Rattle.weights.specs.Weighing.{total_weight}
use Rattle.weights.specs.declared.chooser.Candidate.{Candidate}
use Rattle.theory.specs.Look.{Position}
use Rattle.theory.specs.Weighing.{Member, Decided, Total, Chain, Fair}
use Rattle.theory.specs.Trail.{Entry, Entry.assumed, Entry.decided, Entry.implied, Trail, literal, on, decided_literals}
use Rattle.theory.specs.Chunks.{standing, in_chunk, touches, chunk}
use Rattle.theory.proofs.Choice.{lighter, choice, Chooses, choice_chooses}
use Rattle.session.specs.Words.{word_at, clause_at, index_of, trail_at, row_at, Outside}
use Rattle.session.specs.Decode.{entry_of, entry_at, trail_of, slot_of, slots_of, Marked, Coherent, clause_of}
use Rattle.session.proofs.Words.{words_same}
use Rattle.session.proofs.Decode.{literal_of, entry_same, outside_trail}
use Rattle.session.specs.Candidates.{by_total, is_touched, decision_at, PlaceWithin}

-- the position that the words stand for, under these assumptions
abbrev position_with : List ℤ → ℕ → ℕ → ℕ → List ℤ → Position
position_with assumptions n len filled ws = record { assumptions = assumptions; trail = trail_of n len ws; slots = slots_of n filled ws }

-- an entry that is decided is touched where the clause touches the chunk of its literal
pub touched_decided : (t : Trail) (C : List ℤ) (e : Entry) → Decided ≡ standing e → is_touched t C e ≡ touches t (literal e) C
touched_decided t C (assumed l) h = let z : ◌≡◌ {A = ℕ} 0 1 = cc in absurd (omega arith)
touched_decided t C (decided l) h = refl
touched_decided t C (implied l others) h = let z : ◌≡◌ {A = ℕ} 0 1 = cc in absurd (omega arith)

-- an entry that is not decided is not touched
pub touched_not : (t : Trail) (C : List ℤ) (e : Entry) → (standing e ≡ Decided → ⊥) → is_touched t C e ≡ false
touched_not t C (assumed l) h = refl
touched_not t C (decided l) h = absurd (h refl)
touched_not t C (implied l others) h = refl

-- the touched decisions of a part of the trail
abbrev pub decisions_in : Trail → List ℤ → Trail → List ℤ
decisions_in t C part = filter (λ d. touches t d C) (decided_literals part)

decisions_entry : (t : Trail) (C : List ℤ) (e : Entry) (part : Trail) → decisions_in t C (e ∷ part) ≡ cond (is_touched t C e) (literal e ∷ decisions_in t C part) (decisions_in t C part)
decisions_entry t C (assumed l) part = refl
decisions_entry t C (decided l) part = refl
decisions_entry t C (implied l others) part = refl

module _ (n : ℕ) (ws : List ℤ) (t : Trail) (C : List ℤ) (p q : ℕ) (e : p + 1 ≡ q) where
  step : decisions_in t C (trail_of n q ws) ≡ cond (is_touched t C (entry_at n ws p)) (literal (entry_at n ws p) ∷ decisions_in t C (trail_of n p ws)) (decisions_in t C (trail_of n p ws))
  step = ap (λ z. decisions_in t C (trail_of n z ws)) (sym e ∙ add-one p) ∙ decisions_entry t C (entry_at n ws p) (trail_of n p ws)

  pub decisions_with : is_touched t C (entry_at n ws p) ≡ true → decisions_in t C (trail_of n q ws) ≡ word_at ws (trail_at n p) ∷ decisions_in t C (trail_of n p ws)
  decisions_with h = step ∙ cond-true (is_touched t C (entry_at n ws p)) (literal (entry_at n ws p) ∷ decisions_in t C (trail_of n p ws)) (decisions_in t C (trail_of n p ws)) h
      ∙ ap (λ l. l ∷ decisions_in t C (trail_of n p ws)) (literal_of n ws (word_at ws (trail_at n p)))

  pub decisions_without : is_touched t C (entry_at n ws p) ≡ false → decisions_in t C (trail_of n q ws) ≡ decisions_in t C (trail_of n p ws)
  decisions_without h = step ∙ cond-false (is_touched t C (entry_at n ws p)) (literal (entry_at n ws p) ∷ decisions_in t C (trail_of n p ws)) (decisions_in t C (trail_of n p ws)) h

-- what is the same where only marks changed
module _ (n L len : ℕ) (was now : List ℤ) (st : Coherent n L len was) (o : Outside (5 * n) n was now) where
  pub trail_kept : trail_of n len now ≡ trail_of n len was
  trail_kept = outside_trail n L len (5 * n) n was now (omega arith) (omega arith) st o

  pub literal_kept : (p : ℕ) → p < len → word_at now (trail_at n p) ≡ word_at was (trail_at n p)
  literal_kept p h = let f = st.fits in o.below (trail_at n p) (omega arith)

  pub marked_kept : (p : ℕ) → p < len → (later : List ℤ) → Marked n (trail_of n len now) (in_chunk (word_at now (trail_at n p)) (trail_of n len now)) later
      → Marked n (trail_of n len was) (in_chunk (word_at was (trail_at n p)) (trail_of n len was)) later
  marked_kept p h later m = subst (λ t. Marked n t (in_chunk (word_at was (trail_at n p)) t) later) trail_kept
      (subst (λ d. Marked n (trail_of n len now) (in_chunk d (trail_of n len now)) later) (literal_kept p h) m)

  pub entry_kept : (p : ℕ) → p < len → entry_at n now p ≡ entry_at n was p
  entry_kept p h = ap (entry_of n now) (literal_kept p h) ∙ entry_same n was now (word_at was (trail_at n p))
      (λ k g. o.above (row_at n (index_of (word_at was (trail_at n p))) k) (omega arith))

  module _ (k : ℕ) (few : k ≤ n) where
    pub hand_kept : clause_of n k now ≡ clause_of n k was
    hand_kept = words_same was now (clause_at n 0) (clause_at n 0) k (λ i l. o.below (clause_at n 0 + i) (omega arith))

    pub falsified_kept : status (on (trail_of n len was)) (clause_of n k was) ≡ falsified → status (on (trail_of n len now)) (clause_of n k now) ≡ falsified
    falsified_kept f = ap (λ t. status (on t) (clause_of n k now)) trail_kept ∙ ap (status (on (trail_of n len was))) hand_kept ∙ f

    pub touched_kept : (p : ℕ) → p < len → is_touched (trail_of n len now) (clause_of n k now) (entry_at n now p) ≡ is_touched (trail_of n len was) (clause_of n k was) (entry_at n was p)
    touched_kept p h =
        ap (λ e. is_touched (trail_of n len now) (clause_of n k now) e) (entry_kept p h)
        ∙ ap (λ t. is_touched t (clause_of n k now) (entry_at n was p)) trail_kept ∙ ap (λ C. is_touched (trail_of n len was) C (entry_at n was p)) hand_kept

-- which of them are allowed: all while a slot is empty, otherwise the first
module _ (n L filled : ℕ) (ws ds : List ℤ) where
  long : length (slots_of n filled ws) ≡ filled
  long = length-map-range_with_len (slot_of n ws) 0 filled

  pub allowed_all : filled < L → cond (ltb (length (slots_of n filled ws)) L) ds (take 1 ds) ≡ ds
  allowed_all h = let e = long in cond-true (ltb (length (slots_of n filled ws)) L) ds (take 1 ds) (lt-ltb (length (slots_of n filled ws)) L (omega arith))

  pub allowed_first : L ≤ filled → cond (ltb (length (slots_of n filled ws)) L) ds (take 1 ds) ≡ take 1 ds
  allowed_first h = let e = long in cond-false (ltb (length (slots_of n filled ws)) L) ds (take 1 ds) (le-ltb (length (slots_of n filled ws)) L (omega arith))

-- CANDIDATES AS DECISIONS

-- the place of a kept candidate
abbrev pub kept_place : {W : Type 0} → Option (Candidate W) → Option ℕ
kept_place None = None
kept_place (Some c) = Some c.place

module _ {W : Type 0} (at_most : W → W → Bool) (zero : W) (plus : W → W → W) (weight : Member → W) (n len : ℕ) (ws : List ℤ) (t : Trail) where
  -- a candidate stands on the trail, and weighs what the chunk of its decision weighs
  abbrev pub Right : Candidate W → Type 0
  Right c = (c.place < len) × (c.weight ≡ total_weight zero plus weight (chunk t (word_at ws (trail_at n c.place))))

  abbrev pub KeptRight : Option (Candidate W) → Type 0
  KeptRight None = Unit {0}
  KeptRight (Some c) = Right c

  -- the place of a candidate that is kept is one of the trail's
  pub kept_within : (kept : Option (Candidate W)) → KeptRight kept → PlaceWithin len (kept_place kept)
  kept_within None h = tt
  kept_within (Some c) h = h.0

  pub offered_right : (kept : Option (Candidate W)) (c : Candidate W) → KeptRight kept → Right c → KeptRight (offered (by_weight at_most) kept c)
  offered_right None c h k = k
  offered_right (Some d) c h k = cond_both (by_weight at_most d c) (Some d) (Some c) KeptRight (λ _. h) (λ _. k)

  pub offered_decision : (kept : Option (Candidate W)) (c : Candidate W) → KeptRight kept → Right c
      → decision_at n ws (kept_place (offered (by_weight at_most) kept c)) ≡ offered (lighter (by_total at_most zero plus weight) t) (decision_at n ws (kept_place kept)) (word_at ws (trail_at n c.place))
  offered_decision None c h k = refl
  offered_decision (Some d) c h k =
      by (by_weight at_most d c) ∙ ap (λ b. cond b (Some (word_at ws (trail_at n d.place))) (Some (word_at ws (trail_at n c.place))))
      (ap (λ w. at_most w c.weight) h.1 ∙ ap (at_most (total_weight zero plus weight (chunk t (word_at ws (trail_at n d.place))))) k.1)
    where
      by : (b : Bool) → decision_at n ws (kept_place (cond b (Some d) (Some c))) ≡ cond b (Some (word_at ws (trail_at n d.place))) (Some (word_at ws (trail_at n c.place)))
      by true = refl
      by false = refl

-- THE RULE

module _ {W : Type 0} (at_most : W → W → Bool) (total : Total at_most) (chain : Chain at_most) (zero : W) (plus : W → W → W) (weight : Member → W) where
  by_total_fair : Fair (by_total at_most zero plus weight)
  by_total_fair = (
    (λ a b. total (total_weight zero plus weight a) (total_weight zero plus weight b)),
    (λ a b c. chain (total_weight zero plus weight a) (total_weight zero plus weight b) (total_weight zero plus weight c)),
  )

  -- what the choice gives is chosen by the rules
  pub choice_rule : (n L len filled : ℕ) (ws : List ℤ) → Coherent n L len ws → (C assumptions : List ℤ) (o : Option ℤ)
      → o ≡ choice L (by_total at_most zero plus weight) (position_with assumptions n len filled ws) C → Chooses L (by_total at_most zero plus weight) (position_with assumptions n len filled ws) C o
  choice_rule n L len filled ws st C assumptions o e =
      let p = position_with assumptions n len filled ws in
      subst (Chooses L (by_total at_most zero plus weight) p C) (sym e) (choice_chooses n L (by_total at_most zero plus weight) by_total_fair p st.formed C)
