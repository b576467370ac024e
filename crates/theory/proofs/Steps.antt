-- Every step keeps what a search keeps and what the source entails, and raises the potential.
use Rattle.std.proofs.Common.{◌≡◌, ℕ, Bool, true, not, List, [], ◌∷◌, ◌++◌, ℤ, pos, Some, All, filter, inl, inr}
use Rattle.std.proofs.lemmas.List.Elements.{All-push}
use Rattle.std.proofs.lemmas.Bool.{cond_both, or_left, cases_Bool, not_from_false}
use Rattle.rules.specs.Literals.{same, has}
use Rattle.rules.specs.Clauses.{Status.falsified, status}
use Rattle.rules.specs.Sources.{Meaning, LawfulAt}
use Rattle.rules.proofs.Literals.{has_later}
use Rattle.rules.proofs.Statuses.{in_kept}
use Rattle.theory.specs.Trail.{Entry, Trail, literal, on, free}
use Rattle.theory.specs.Chunks.{in_chunk}
use Rattle.theory.specs.Look.{Position, Look}
use Rattle.theory.specs.Conflict.{Touched, slot_empty, Analysed, learned, others_of}
use Rattle.theory.specs.Search.{Guide, Kind, Step, Step.conflict, Step.imply, Step.assume, Step.prefer, Step.lowest}
use Rattle.theory.proofs.Soundness.{Entailed, EntailedReasons, analysed_entailed}
use Rattle.theory.proofs.Invariant.{Orderly, Admitted, Sound, first_passes, look_entailed}
use Rattle.theory.proofs.Placing.{Advances, assume_advances, decide_advances, imply_advances}
use Rattle.theory.proofs.Repairing.{conflict_advances, learned_all}

-- a step of a run that questions a lawful source
pub step_advances : (n L : ℕ) (g : Guide) (p : Position) → LawfulAt n g.source → Orderly n L p
    → {k : Kind} {undone : ℕ} {p' : Position} → Step n L g p k undone p' → Advances n L p p'
step_advances n L g p law o (conflict C d u S lk fa ch an su tu) = conflict_advances n L p o C fa d ch.allowed S an u su tu
step_advances n L g p law o (imply C l lk st) = imply_advances n L p o g.source law C l lk st
step_advances n L g p law o (assume a lk f z) = assume_advances n L p o a f z
step_advances n L g p law o (prefer l lk al f) = decide_advances n L p o l al (first_passes (free n p.trail) f)
step_advances n L g p law o (lowest v lk al nf f low) = decide_advances n L p o (pos v) al f

-- a clause is its literal l and the others
split_clause : (C : List ℤ) (l x : ℤ) → has C x ≡ true → has (l ∷ others_of l C) x ≡ true
split_clause C l x h = elim (cases_Bool (same x l)) [
  | inl e ↦ or_left (same x l) (has (others_of l C) x) e
  | inr e ↦ has_later l (others_of l C) x (in_kept (λ y. not (same y l)) C x h (not_from_false (same x l) e))
]

entailed_split : (Ad : List Bool → Type 0) (C : List ℤ) (l : ℤ) → Entailed Ad (has C) → Entailed Ad (has (l ∷ others_of l C))
entailed_split Ad C l h bs ad = let y = h bs ad in (y.0, split_clause C l y.0 y.1, y.2)

kept_reasons : (Ad : List Bool → Type 0) (test : Entry → Bool) (t : Trail) → EntailedReasons Ad t → EntailedReasons Ad (filter test t)
kept_reasons Ad test [] r = tt
kept_reasons Ad test (e ∷ t) r = cond_both (test e) (e ∷ filter test t) (filter test t) (EntailedReasons Ad) (λ _. (r.0, kept_reasons Ad test t r.1)) (λ _. kept_reasons Ad test t r.1)

learned_entailed : (n L : ℕ) (m : Meaning) (p : Position) → LawfulAt n m → Orderly n L p → Sound n m p → (C : List ℤ) → Look n m p (Some C) → status (on p.trail) C ≡ falsified
    → (d : ℤ) → Touched p.trail C d → (S : ℤ → Bool) → Analysed (in_chunk d p.trail) p.trail (has C) S → Entailed (Admitted n m) (has (learned n S))
learned_entailed n L m p law o s C lk fa d tch S an bs ad =
    let y = analysed_entailed (Admitted n m) n (in_chunk d p.trail) p.trail o.formed s.reasons an (look_entailed n m p law s.slots lk) bs ad in
    (y.0, learned_all n p.trail o.formed C fa d tch S an y.0 y.1, y.2)

pub step_sound : (n L : ℕ) (g : Guide) (p : Position) → LawfulAt n g.source → Orderly n L p → Sound n g.source p
    → {k : Kind} {undone : ℕ} {p' : Position} → Step n L g p k undone p' → Sound n g.source p'
step_sound n L g p law o s (conflict C d u S lk fa ch an su tu) =
    let Ad = Admitted n g.source in
    let e = learned_entailed n L g.source p law o s C lk fa d ch.allowed.touched S an in
    record {
      reasons = (entailed_split Ad (learned n S) u e, kept_reasons Ad (λ x. not (in_chunk d p.trail (literal x))) p.trail s.reasons);
      slots = cond_both (slot_empty L p.slots) (p.slots ++ (learned n S ∷ [])) p.slots (All (λ K. Entailed Ad (has K)))
          (λ _. All-push (λ K. Entailed Ad (has K)) p.slots (learned n S) s.slots e) (λ _. s.slots);
    }
step_sound n L g p law o s (imply C l lk st) =
    record { reasons = (entailed_split (Admitted n g.source) C l (look_entailed n g.source p law s.slots lk), s.reasons); slots = s.slots }
step_sound n L g p law o s (assume a lk f z) = record { reasons = (tt, s.reasons); slots = s.slots }
step_sound n L g p law o s (prefer l lk al f) = record { reasons = (tt, s.reasons); slots = s.slots }
step_sound n L g p law o s (lowest v lk al nf f low) = record { reasons = (tt, s.reasons); slots = s.slots }
