-- What a look leads to: a step by the rules, however it is taken, or an end.
use Rattle.std.proofs.Common.{◌≡◌, ℕ, ◌+◌, ◌*◌, ◌<◌, ◌≤◌, Bool, true, false, cond, List, [], ◌∷◌, length, ℤ, pos, neg_ℤ, Some, None, filter, Option, sym, refl, ap, ◌∙◌, subst, inl, inr, arith}
use Rattle.std.proofs.lemmas.Bool.{cases_Bool, not-true}
use Rattle.rules.specs.Clauses.{Status.falsified, status}
use Rattle.rules.specs.Values.{value_in}
use Rattle.rules.specs.declared.literal.Value.TheVariants.{True, False, Unassigned}
use Rattle.theory.specs.Trail.{Entry, Entry.assumed, Entry.decided, on, free, assumed_literals}
use Rattle.theory.specs.Chunks.{in_chunk, touches}
use Rattle.theory.specs.Look.{Position, First, NonePass, Look}
use Rattle.theory.specs.Conflict.{Touched, Chosen}
use Rattle.theory.specs.Search.{Guide, Verdict.model, Verdict.refuted, missing, Ends, Ends.contradicts, Ends.denies, Ends.completes, Kind, Kind.assuming, Kind.deciding, placed, Step, Step.conflict, Step.assume, Step.prefer, Step.lowest as low}
use Rattle.theory.proofs.Trails.{parts_free}
use Rattle.theory.proofs.Invariant.{first_passes}
use Rattle.session.specs.Words.{word_at, Outside}
use Rattle.session.specs.Candidates.{is_touched}
use Rattle.session.specs.Decode.{literal_at, entry_at, Marked, trail_of, assumptions_of, clause_of, slots_of, position_of, Sound}
use Rattle.session.specs.Deciding.{Decides, Decides.preferred, Decides.lowest, Decides.complete}
use Rattle.session.specs.InUse.{trail_at, position_at, SoundAt}
use Rattle.session.specs.Memories.{trail_in, position_in, clause_in, FalsifiedInHand, Framed}
use Rattle.session.specs.declared.layout.Layout.{Layout}
use Rattle.session.specs.declared.layout.Extent.{Extent}
use Rattle.session.specs.declared.memory.Memory.{Memory}
use Rattle.session.specs.Plans.{ConflictInHand, Placed, Undone}
use Rattle.session.proofs.Words.{outside_both, outside_wider}
use Rattle.session.proofs.Decode.{outside_trail, outside_coherent}
use Rattle.session.proofs.Storing.{sound_kept, position_kept}
use Rattle.session.proofs.Analysing.{same_clause as clause_same}
use Rattle.session.proofs.Choosing.{literal_kept, hand_kept, marked_kept, falsified_kept, touched_kept}

-- a change among the clause in hand and the marks leaves the position
module _ (n L a len f base count : ℕ) (was now : List ℤ) (low : 4 * n ≤ base) (high : base + count ≤ 6 * n) (so : Sound n L a len f was) (o : Outside base count was now) where
  wide : Outside (2 * n) (4 * n + n * (n + 1)) was now
  wide = outside_wider base count (2 * n) (4 * n + n * (n + 1)) was now (omega arith) (omega arith) o

  pub margin_sound : length now ≡ length was → Sound n L a len f now
  margin_sound e = sound_kept n L a len len f was now so wide (outside_coherent n L len base count was now low high so.coherent o e)

  pub margin_position : position_of n a len f now ≡ position_of n a len f was
  margin_position = position_kept n L a len len f was now so wide
      ∙ ap (λ t. record { assumptions = assumptions_of a was; trail = t; slots = slots_of n f was }) (outside_trail n L len base count was now low high so.coherent o)

-- the same of a memory's words
module _ (m : Memory) (base count : ℕ) (now : List ℤ) (low : 4 * m.layout.variables ≤ base) (high : base + count ≤ 6 * m.layout.variables) (o : Outside base count m.words.now now) where
  pub frame_sound : length now ≡ length m.words.now → SoundAt m.layout m.extent now
  frame_sound = margin_sound m.layout.variables m.layout.slots m.extent.assumptions m.extent.trail m.extent.slots base count m.words.now now low high m.sound o

  pub frame_position : position_at m.layout m.extent now ≡ position_in m
  frame_position = margin_position m.layout.variables m.layout.slots m.extent.assumptions m.extent.trail m.extent.slots base count m.words.now now low high m.sound o

  pub frame_trail : trail_at m.layout m.extent now ≡ trail_in m
  frame_trail = outside_trail m.layout.variables m.layout.slots m.extent.trail base count m.words.now now low high m.sound.coherent o

-- what holds of layout and extent as they are holds of those that they are the same as
pub rebased : (was now : Memory) → now.layout ≡ was.layout → now.extent ≡ was.extent → (P : Layout → Extent → Type 0) → P now.layout now.extent → P was.layout was.extent
rebased was now l e P x = subst (λ z. P was.layout z) e (subst (λ y. P y now.extent) l x)

-- a framed change, of which another follows, and what it leaves
pub framed_both : (base count : ℕ) (was mid now : Memory) → Framed base count was mid → Framed base count mid now → Framed base count was now
framed_both base count was mid now f h = record {
  layout = h.layout ∙ f.layout;
  extent = h.extent ∙ f.extent;
  size = h.size ∙ f.size;
  outside = outside_both base count was.words.now mid.words.now now.words.now f.outside h.outside;
}

pub framed_next : (b c : ℕ → ℕ) (was mid now : Memory) → Framed (b was.layout.variables) (c was.layout.variables) was mid → Framed (b mid.layout.variables) (c mid.layout.variables) mid now
    → Framed (b was.layout.variables) (c was.layout.variables) was now
framed_next b c was mid now f h = framed_both (b was.layout.variables) (c was.layout.variables) was mid now f (subst (λ y. Framed (b y.variables) (c y.variables) mid now) f.layout h)

-- marks changed: the clause in hand is the same, and as falsified as it was
pub marks_clause : (was now : Memory) (k : ℕ) → Framed (5 * was.layout.variables) was.layout.variables was now → k ≤ was.layout.variables → clause_in now k ≡ clause_in was k
marks_clause was now k f few = ap (λ y. clause_of y.variables k now.words.now) f.layout ∙ clause_same was.layout.variables k was.words.now now.words.now few f.outside

pub marks_falsified : (was now : Memory) (k : ℕ) → Framed (5 * was.layout.variables) was.layout.variables was now → FalsifiedInHand was k → FalsifiedInHand now k
marks_falsified was now k f h =
    rebased now was (sym f.layout) (sym f.extent) (λ y e. (k ≤ y.variables) × (status (on (trail_at y e now.words.now)) (clause_of y.variables k now.words.now) ≡ falsified))
    (h.0, falsified_kept was.layout.variables was.layout.slots was.extent.trail was.words.now now.words.now was.sound.coherent f.outside k h.0 h.1)

-- and so are whether an entry is touched, and the chunk of a literal that was marked since
pub marks_touched : (was now : Memory) (k : ℕ) → Framed (5 * was.layout.variables) was.layout.variables was now → k ≤ was.layout.variables → (p : ℕ) → p < was.extent.trail → (b : Bool)
    → b ≡ is_touched (trail_in now) (clause_in now k) (entry_at now.layout.variables now.words.now p) → b ≡ is_touched (trail_in was) (clause_in was k) (entry_at was.layout.variables was.words.now p)
marks_touched was now k f few p h b e =
    rebased was now f.layout f.extent (λ y x. b ≡ is_touched (trail_at y x now.words.now) (clause_of y.variables k now.words.now) (entry_at y.variables now.words.now p)) e
    ∙ touched_kept was.layout.variables was.layout.slots was.extent.trail was.words.now now.words.now was.sound.coherent f.outside k few p h

pub marks_marked : (was now : Memory) → Framed (5 * was.layout.variables) was.layout.variables was now → (p : ℕ) → p < was.extent.trail → (later : List ℤ)
    → Marked now.layout.variables (trail_in now) (in_chunk (literal_at now.layout.variables now.words.now p) (trail_in now)) later
    → Marked was.layout.variables (trail_in was) (in_chunk (literal_at was.layout.variables was.words.now p) (trail_in was)) later
marks_marked was now f p h later x =
    marked_kept was.layout.variables was.layout.slots was.extent.trail was.words.now now.words.now was.sound.coherent f.outside p h later
    (rebased was now f.layout f.extent (λ y e. Marked y.variables (trail_at y e now.words.now) (in_chunk (literal_at y.variables now.words.now p) (trail_at y e now.words.now)) later) x)

-- a chunk marked on the trail as it was is marked on the same trail
pub same_marked : (was now : Memory) → Framed (5 * was.layout.variables) was.layout.variables was now → (d : ℤ) → Marked was.layout.variables (trail_in was) (in_chunk d (trail_in was)) now.words.now
    → Marked now.layout.variables (trail_in now) (in_chunk d (trail_in now)) now.words.now
same_marked was now f d x =
    rebased now was (sym f.layout) (sym f.extent) (λ y e. Marked y.variables (trail_at y e now.words.now) (in_chunk d (trail_at y e now.words.now)) now.words.now)
    (subst (λ t. Marked was.layout.variables t (in_chunk d t) now.words.now) (sym (frame_trail was (5 * was.layout.variables) was.layout.variables now.words.now (omega arith) (omega arith) f.outside)) x)

module _ (base count : ℕ) (was now : Memory) (f : Framed base count was now) (low : 4 * was.layout.variables ≤ base) (high : base + count ≤ 6 * was.layout.variables) where
  pub same_position : position_in now ≡ position_in was
  same_position = ap (λ y. position_at y now.extent now.words.now) f.layout ∙ ap (λ e. position_at was.layout e now.words.now) f.extent ∙ frame_position was base count now.words.now low high f.outside

-- whatever taking a step comes to is that step
module _ (n L : ℕ) (g : Guide) (p : Position) where
  pub placing_step : (e : Entry) (is k : Kind) (undone : ℕ) (p' : Position) → Step n L g p is 0 (placed p e) → Placed p e is k undone p' → Step n L g p k undone p'
  placing_step e is k undone p' st h = rw (h.kind, h.none, h.leads) st

  pub repairing_step : (C : List ℤ) (d : ℤ) → Look n g.source p (Some C) → status (on p.trail) C ≡ falsified → Chosen L g.weighing p C d
      → (k : Kind) (undone : ℕ) (p' : Position) → Undone n L p C d k undone p' → Step n L g p k undone p'
  repairing_step C d lk fa ch k undone p' h =
      let r = h.leads in
      rw (h.kind, h.many, r.leads) (conflict C d r.placed r.left lk fa ch r.analysed r.is_left r.touched)

-- A FALSIFIED CLAUSE, and what follows once a chunk was chosen, by which only marks changed

module _ (n L a len f : ℕ) (was now : List ℤ) (so : Sound n L a len f was) (o : Outside (5 * n) n was now) (g : Guide) (count : ℕ) (few : count ≤ n)
    (lk : Look n g.source (position_of n a len f was) (Some (clause_of n count was))) (fa : status (on (trail_of n len was)) (clause_of n count was) ≡ falsified) where
  position_same : position_of n a len f now ≡ position_of n a len f was
  position_same = margin_position n L a len f (5 * n) n was now (omega arith) (omega arith) so o

  same_clause : clause_of n count now ≡ clause_of n count was
  same_clause = hand_kept n L len was now so.coherent o count few

  -- what holds of position and clause before holds of them now
  carried : (P : Position → List ℤ → Type 0) → P (position_of n a len f was) (clause_of n count was) → P (position_of n a len f now) (clause_of n count now)
  carried P h = subst (λ p. P p (clause_of n count now)) (sym position_same) (subst (P (position_of n a len f was)) (sym same_clause) h)

  pub conflict_planned : (root : ℕ) → root < len → Chosen L g.weighing (position_of n a len f was) (clause_of n count was) (literal_at n was root)
      → ConflictInHand n len now count root
      × ((k : Kind) (undone : ℕ) (p' : Position) → Undone n L (position_of n a len f now) (clause_of n count now) (literal_at n now root) k undone p' → Step n L g (position_of n a len f now) k undone p')
  conflict_planned root h ch =
      let moved : (P : Position → List ℤ → ℤ → Type 0) → P (position_of n a len f was) (clause_of n count was) (literal_at n was root) → P (position_of n a len f now) (clause_of n count now) (literal_at n now root)
      = λ P x. subst (P (position_of n a len f now) (clause_of n count now)) (sym (literal_kept n L len was now so.coherent o root h)) (carried (λ p C. P p C (literal_at n was root)) x) in (
        record {
          few = few;
          place = h;
          stands = carried (λ p C. status (on p.trail) C ≡ falsified) fa;
          touched = moved (λ p C d. Touched p.trail C d) ch.allowed.touched;
        },
        moved (λ p C d. ((k : Kind) (undone : ℕ) (p' : Position) → Undone n L p C d k undone p' → Step n L g p k undone p')) (repairing_step n L g (position_of n a len f was) (clause_of n count was) (literal_at n was root) lk fa ch),
      )

  pub contradiction_planned : ((d : ℤ) → Touched (trail_of n len was) (clause_of n count was) d → ⊥)
      → ((count ≤ n) × (status (on (trail_of n len now)) (clause_of n count now) ≡ falsified))
      × Ends n g.source (position_of n a len f now) refuted (filter (λ r. touches (trail_of n len now) r (clause_of n count now)) (assumed_literals (trail_of n len now)))
  contradiction_planned none = (
    (few, carried (λ p C. status (on p.trail) C ≡ falsified) fa),
    carried (λ p C. Ends n g.source p refuted (filter (λ r. touches p.trail r C) (assumed_literals p.trail)))
        (contradicts (clause_of n count was) lk fa (λ d h. elim (cases_Bool (touches (trail_of n len was) d (clause_of n count was)))
        [ inl z ↦ absurd (none d (record { decision = h; touching = z })) | inr z ↦ z ])),
  )

-- NO CLAUSE

value_false : (f : ℤ → Bool) (l : ℤ) → value_in f l ≡ False → f (neg_ℤ l) ≡ true
value_false f l = by (f l) (f (neg_ℤ l))
  where
    by : (a b : Bool) → cond a True (cond b False Unassigned) ≡ False → b ≡ true
    by true b e = let z : ◌≡◌ {A = ℕ} 0 1 = cc in absurd (omega arith)
    by false true e = refl
    by false false e = let z : ◌≡◌ {A = ℕ} 0 1 = cc in absurd (omega arith)

value_not_false : (f : ℤ → Bool) (l : ℤ) → f l ≡ false → (value_in f l ≡ False → ⊥) → f (neg_ℤ l) ≡ false
value_not_false f l h k = elim (cases_Bool (f (neg_ℤ l))) [ inl e ↦ absurd (k (rw (h, e))) | inr e ↦ e ]

-- the first assumption that is not true, by its value
module _ (n L a len f : ℕ) (ws : List ℤ) (so : Sound n L a len f ws) (i : ℕ) (within : i < a) (first : First (missing (trail_of n len ws)) (assumptions_of a ws) (word_at ws i)) where
  off : on (trail_of n len ws) (word_at ws i) ≡ false
  off = not-true (on (trail_of n len ws) (word_at ws i)) (first_passes (missing (trail_of n len ws)) first)

  module _ (g : Guide) (lk : Look n g.source (position_of n a len f ws) None) where
    pub denial_planned : value_in (on (trail_of n len ws)) (word_at ws i) ≡ False
        → ((i < a) × (on (trail_of n len ws) (neg_ℤ (word_at ws i)) ≡ true))
        × Ends n g.source (position_of n a len f ws) refuted (word_at ws i ∷ filter (λ r. in_chunk r (trail_of n len ws) (neg_ℤ (word_at ws i))) (assumed_literals (trail_of n len ws)))
    denial_planned v =
        let d = value_false (on (trail_of n len ws)) (word_at ws i) v in
        ((within, d), denies (word_at ws i) lk first d)

    pub assumption_planned : (value_in (on (trail_of n len ws)) (word_at ws i) ≡ False → ⊥)
        → ((i < a) × (free n (trail_of n len ws) (word_at ws i) ≡ true))
        × ((k : Kind) (undone : ℕ) (p' : Position) → Placed (position_of n a len f ws) (assumed (word_at ws i)) assuming k undone p' → Step n L g (position_of n a len f ws) k undone p')
    assumption_planned v =
        let open-there = value_not_false (on (trail_of n len ws)) (word_at ws i) off v in (
          (within, parts_free n (trail_of n len ws) (word_at ws i) (so.ranged i within) off open-there),
          λ k undone p'. placing_step n L g (position_of n a len f ws) (assumed (word_at ws i)) assuming k undone p' (assume (word_at ws i) lk first open-there),
        )

module _ (n L : ℕ) (g : Guide) (p : Position) (lk : Look n g.source p None) where
  pub decision_step : (l : ℤ) → NonePass (missing p.trail) p.assumptions → (o : Option ℤ) → o ≡ Some l → Decides n p.trail g.preferences o → Step n L g p deciding 0 (placed p (decided l))
  decision_step l all o e (preferred m f) = let q : m ≡ l = cc in subst (λ x. Step n L g p deciding 0 (placed p (decided x))) q (prefer m lk all f)
  decision_step l all o e (lowest v nf fr least) = let q : pos v ≡ l = cc in subst (λ x. Step n L g p deciding 0 (placed p (decided x))) q (low v lk all nf fr least)
  decision_step l all o e (complete nf full) = let z : ◌≡◌ {A = ℕ} 0 1 = cc in absurd (omega arith)

  pub completion : NonePass (missing p.trail) p.assumptions → (o : Option ℤ) → o ≡ None → Decides n p.trail g.preferences o → Ends n g.source p model []
  completion all o e (preferred m f) = let z : ◌≡◌ {A = ℕ} 0 1 = cc in absurd (omega arith)
  completion all o e (lowest v nf fr least) = let z : ◌≡◌ {A = ℕ} 0 1 = cc in absurd (omega arith)
  completion all o e (complete nf full) = completes lk all full
