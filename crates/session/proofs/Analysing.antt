-- The analysis on the words is the one of the trail, the chunk and the clause that they stand for.
use Rattle.std.proofs.Common.{◌≡◌, ℕ, zero, suc, ◌+◌, ◌*◌, ◌≤◌, Bool, false, List, get_or, replicate, ℤ, sym, refl, ap, ◌∙◌, subst, arith}
use Rattle.rules.specs.Literals.{has}
use Rattle.rules.specs.Clauses.{Status.falsified, status}
use Rattle.rules.proofs.Statuses.{falsified_all}
use Rattle.theory.specs.Trail.{on}
use Rattle.theory.specs.Chunks.{in_chunk}
use Rattle.theory.specs.Conflict.{Analysed}
use Rattle.theory.proofs.Trails.{AllFalse, on_range}
use Rattle.theory.proofs.Analysis.{analyse, analyse_analysed}
use Rattle.session.specs.Words.{words_from, index_of, mark_at, clause_at, Outside}
use Rattle.session.specs.Decode.{trail_of, marked, Marked, Coherent}
use Rattle.session.specs.Analysis.{held}
use Rattle.session.proofs.Words.{index_range, words_same}
use Rattle.session.proofs.Decode.{all_false, outside_trail}
use Rattle.session.proofs.Marking.{marked_is}
use Rattle.session.proofs.Collecting.{analyse_cong}

-- bytes that are all 0 hold nothing
pub nothing_held : (m x : ℕ) (bytes : List ℕ) → bytes ≡ replicate m 0 → held bytes x ≡ false
nothing_held m x bytes e = rw (e, zeros m x)
  where
    zeros : (k i : ℕ) → ◌≡◌ {A = ℕ} (get_or (replicate k 0) i 0) 0
    zeros zero i = refl
    zeros (suc k) zero = refl
    zeros (suc k) (suc i) = zeros k i

-- the clause in hand stays while marks are written
pub same_clause : (n k : ℕ) (was now : List ℤ) → k ≤ n → Outside (5 * n) n was now → words_from now (clause_at n 0) k ≡ words_from was (clause_at n 0) k
same_clause n k was now h o = words_same was now (clause_at n 0) (clause_at n 0) k (λ i l. o.below (clause_at n 0 + i) (omega arith))

module _ (n L len k : ℕ) (was now : List ℤ) (few : k ≤ n) (st : Coherent n L len was) (o : Outside (5 * n) n was now)
    (fa : status (on (trail_of n len was)) (words_from was (clause_at n 0) k) ≡ falsified) where
  pub same_trail : trail_of n len now ≡ trail_of n len was
  same_trail = outside_trail n L len (5 * n) n was now (omega arith) (omega arith) st o

  -- on the trail as it was, the clause in hand is false
  pub clause_false : AllFalse (trail_of n len was) (words_from now (clause_at n 0) k)
  clause_false = subst (AllFalse (trail_of n len was)) (sym (same_clause n k was now few o))
      (all_false (trail_of n len was) (words_from was (clause_at n 0) k) fa)

  -- and on the trail as it is
  pub still_false : AllFalse (trail_of n len now) (words_from now (clause_at n 0) k)
  still_false = subst (λ t. AllFalse t (words_from now (clause_at n 0) k)) (sym same_trail) clause_false

  pub analysis_is : (d : ℤ) → Marked n (trail_of n len was) (in_chunk d (trail_of n len was)) now → (S : ℤ → Bool)
      → S ≡ analyse (marked n now) (trail_of n len now) (has (words_from now (clause_at n 0) k)) → Analysed (in_chunk d (trail_of n len was)) (trail_of n len was) (has (words_from was (clause_at n 0) k)) S
  analysis_is d m S e =
      let T = trail_of n len was in
      let C = words_from was (clause_at n 0) k in
      subst (Analysed (in_chunk d T) T (has C))
      (sym (e ∙ ap (λ t. analyse (marked n now) t (has (words_from now (clause_at n 0) k))) same_trail ∙ ap (λ D. analyse (marked n now) T (has D)) (same_clause n k was now few o)
      ∙ analyse_cong (marked n now) (in_chunk d T) T (marked_is n T (in_chunk d T) now m) (has C)))
      (analyse_analysed n T st.formed d C (falsified_all (on T) C fa))

-- marks stay while the clause in hand is written
pub marked_still : (n L len : ℕ) (test : ℤ → Bool) (was ws now : List ℤ) → Coherent n L len was → Marked n (trail_of n len was) test ws
    → Outside (4 * n) n ws now → Marked n (trail_of n len was) test now
marked_still n L len test was ws now st m o = record {
  on_trail = λ l g.
      let r = (index_range n l (on_range n (trail_of n len was) st.formed l g)).1 in
      o.above (mark_at n (index_of l)) (omega arith) ∙ m.on_trail l g;
  off_trail = λ l r g h. let i = (index_range n l r).1 in o.above (mark_at n (index_of l)) (omega arith) ∙ m.off_trail l r g h;
}
