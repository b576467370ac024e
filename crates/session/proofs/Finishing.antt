-- What a search ends as: the marks tell what is named.
use Rattle.std.proofs.Common.{◌≡◌, ℕ, ◌*◌, ◌<◌, ◌≤◌, true, List, [], ◌∷◌, ℤ, neg_ℤ, Some, None, filter, Option, sym, refl, ap, ◌∙◌, subst, arith}
use Rattle.std.specs.Option.{ForSome}
use mathlib.Core.Bool.{or-false}
use Rattle.rules.specs.Clauses.{Status.falsified, status}
use Rattle.rules.proofs.Statuses.{kept_cong}
use Rattle.theory.specs.Trail.{Trail, on, assumed_literals}
use Rattle.theory.specs.Chunks.{in_chunk, touches}
use Rattle.theory.specs.Search.{Verdict.refuted}
use Rattle.session.specs.Words.{word_at, Outside}
use Rattle.session.specs.Decode.{marked}
use Rattle.session.specs.InUse.{trail_at, position_at, SoundAt}
use Rattle.session.specs.Searches.{with_failed, search_at}
use Rattle.session.specs.declared.layout.Layout.{Layout}
use Rattle.session.specs.declared.layout.Extent.{Extent}
use Rattle.session.specs.declared.memory.Memory.{Memory}
use Rattle.session.specs.declared.report.Verdict.TheVariants.{Refuted}
use Rattle.session.proofs.Decode.{outside_trail}
use Rattle.session.proofs.Planning.{margin_position, same_position}
use Rattle.session.specs.Memories.{trail_in, position_in, clause_in, FalsifiedInHand, Framed}

-- no number, and one that is below the count
pub within_none : (count : ℕ) → ForSome None (λ i. i < count)
within_none count x e = let z : ◌≡◌ {A = ℕ} 0 1 = cc in absurd (omega arith)

pub within_some : (count i : ℕ) → i < count → ForSome (Some i) (λ i. i < count)
within_some count i h x e = let q : i ≡ x = cc in omega arith

-- one false literal
pub one_falsified : (t : Trail) (l : ℤ) → on t (neg_ℤ l) ≡ true → status (on t) (l ∷ []) ≡ falsified
one_falsified t l h = rw h

touches_one : (t : Trail) (r l : ℤ) → touches t r (l ∷ []) ≡ in_chunk r t (neg_ℤ l)
touches_one t r l = or-false (in_chunk r t (neg_ℤ l))

-- a search is refuted by what changed only the clause in hand and the marks
module _ (layout : Layout) (extent : Extent) (was now : List ℤ) (so : SoundAt layout extent was) (o : Outside (4 * layout.variables) (2 * layout.variables) was now) where
  same_trail : trail_at layout extent now ≡ trail_at layout extent was
  same_trail = outside_trail layout.variables layout.slots extent.trail (4 * layout.variables) (2 * layout.variables) was now (omega arith) (omega arith) so.coherent o

  same_failed : (failed : Option ℕ) → ForSome failed (λ i. i < extent.assumptions) → (ls : List ℤ) → with_failed now failed ls ≡ with_failed was failed ls
  same_failed None h ls = refl
  same_failed (Some i) h ls = let f = so.few in let b = h i refl in ap (λ l. l ∷ ls) (o.below i (omega arith))

  pub refuted_search : (failed : Option ℕ) → ForSome failed (λ i. i < extent.assumptions) → (ls : List ℤ) → filter (marked layout.variables now) (assumed_literals (trail_at layout extent was)) ≡ ls
      → search_at layout extent Refuted failed now ≡ record { position = position_at layout extent was; verdict = refuted; named = with_failed was failed ls }
  refuted_search failed h ls e =
      let p = margin_position layout.variables layout.slots extent.assumptions extent.trail extent.slots (4 * layout.variables) (2 * layout.variables) was now (omega arith) (omega arith) so o in
      let k = ap (λ t. filter (marked layout.variables now) (assumed_literals t)) same_trail ∙ e in
      let ns = ap (with_failed now failed) k ∙ same_failed failed h ls in
      λ i. record { position = p i; verdict = refuted; named = ns i }

-- the same of a memory and what it became
pub refuted_memory : (m now : Memory) → now.layout ≡ m.layout → now.extent ≡ m.extent → Outside (4 * m.layout.variables) (2 * m.layout.variables) m.words.now now.words.now
    → (failed : Option ℕ) → ForSome failed (λ i. i < m.extent.assumptions) → (ls : List ℤ) → filter (marked m.layout.variables now.words.now) (assumed_literals (trail_in m)) ≡ ls
    → search_at now.layout now.extent Refuted failed now.words.now ≡ record { position = position_in m; verdict = refuted; named = with_failed m.words.now failed ls }
refuted_memory m now l x o failed h ls e =
    ap (λ y. search_at y now.extent Refuted failed now.words.now) l ∙ ap (λ z. search_at m.layout z Refuted failed now.words.now) x ∙ refuted_search m.layout m.extent m.words.now now.words.now m.sound o failed h ls e

-- where there is an assumption there is a variable
pub some_variable : (layout : Layout) (extent : Extent) (was : List ℤ) → SoundAt layout extent was → (i : ℕ) → i < extent.assumptions → 1 ≤ layout.variables
some_variable layout extent was so i within = let f = so.few in omega arith

-- the assumption found false was taken in hand
module _ (m mid : Memory) (i : ℕ) (within : i < m.extent.assumptions) (f : Framed (4 * m.layout.variables) m.layout.variables m mid) (c : clause_in mid 1 ≡ word_at m.words.now i ∷ []) where
  same_trail_in : trail_in mid ≡ trail_in m
  same_trail_in = ap (λ p. p.trail) (same_position (4 * m.layout.variables) m.layout.variables m mid f (omega arith) (omega arith))

  pub denied_falsified : on (trail_in m) (neg_ℤ (word_at m.words.now i)) ≡ true → FalsifiedInHand mid 1
  denied_falsified d =
      let few = m.sound.few in (
        subst (λ y. 1 ≤ y.variables) (sym f.layout) (omega arith),
        ap (λ C. status (on (trail_in mid)) C) c ∙ ap (λ t. status (on t) (word_at m.words.now i ∷ [])) same_trail_in ∙ one_falsified (trail_in m) (word_at m.words.now i) d,
      )

  pub denied_names : (now : List ℤ)
      → filter (marked mid.layout.variables now) (assumed_literals (trail_in mid)) ≡ filter (λ r. touches (trail_in mid) r (clause_in mid 1)) (assumed_literals (trail_in mid))
      → filter (marked m.layout.variables now) (assumed_literals (trail_in m)) ≡ filter (λ r. in_chunk r (trail_in m) (neg_ℤ (word_at m.words.now i))) (assumed_literals (trail_in m))
  denied_names now e =
      let t = trail_in m in
      let l = word_at m.words.now i in
      subst (λ y. filter (marked y.variables now) (assumed_literals t) ≡ filter (λ r. touches t r (clause_in mid 1)) (assumed_literals t)) f.layout
      (subst (λ u. filter (marked mid.layout.variables now) (assumed_literals u) ≡ filter (λ r. touches u r (clause_in mid 1)) (assumed_literals u)) same_trail_in e)
      ∙ ap (λ C. filter (λ r. touches t r C) (assumed_literals t)) c
      ∙ kept_cong (λ r. touches t r (l ∷ [])) (λ r. in_chunk r t (neg_ℤ l)) (assumed_literals t) (λ r _. touches_one t r l)
