-- The calls determine the answers.
use Rattle.std.proofs.Common.{◌≡◌, ℕ, List, ◌∷◌, map, length, pos, sym, refl, ap, subst, arith}
use Rattle.std.proofs.lemmas.Bool.{both_ways}
use Rattle.rules.specs.Literals.{in_range}
use Rattle.theory.specs.Calls.{Call, Reply, State, Next, Next.assumes, Next.assumes_outside, Next.assumes_full, Next.clears, Next.begins, Next.closes, Next.runs, Next.runs_other, Next.runs_short, Next.settles, Next.finds, Next.values, Next.values_without, Next.values_outside, Next.names, Next.names_without, Next.names_outside, Next.reopens}
use Rattle.theory.specs.Events.{Event}
use Rattle.theory.specs.Promise.{History, History.opening, History.more}
use Rattle.theory.specs.Determined.{AnswersDetermined}
use Rattle.theory.proofs.Uniqueness.{run_one}

next_one : (n L : ℕ) {s : State} {c : Call} {a a' : Reply} {s₁ s₂ : State} → Next n L s c a s₁ → Next n L s c a' s₂ → (a ≡ a') × (s₁ ≡ s₂)
next_one n L (assumes l r f) (assumes _ r' f') = (refl, refl)
next_one n L (assumes l r f) (assumes_outside _ r') = absurd (both_ways (in_range n l) r' r)
next_one n L (assumes l r f) (assumes_full _ r' f') = let q : ⊥ = omega arith in absurd q
next_one n L (assumes_outside l r) (assumes _ r' f) = absurd (both_ways (in_range n l) r r')
next_one n L (assumes_outside l r) (assumes_outside _ r') = (refl, refl)
next_one n L (assumes_outside l r) (assumes_full _ r' f) = absurd (both_ways (in_range n l) r r')
next_one n L (assumes_full l r f) (assumes _ r' f') = let q : ⊥ = omega arith in absurd q
next_one n L (assumes_full l r f) (assumes_outside _ r') = absurd (both_ways (in_range n l) r' r)
next_one n L (assumes_full l r f) (assumes_full _ r' f') = (refl, refl)
next_one n L clears clears = (refl, refl)
next_one n L begins begins = (refl, refl)
next_one n L closes closes = (refl, refl)
next_one n L (runs limit g scratch r e f x) (runs _ _ _ r' e' f' x') = let o = run_one n L g x x' in (ap Reply.reported o.0, ap State.searching o.1)
next_one n L (runs limit g scratch r e f x) (runs_other _ _ _ e') = absurd (e' e)
next_one n L (runs limit g scratch r e f x) (runs_short _ _ _ e' f') = let q : ⊥ = omega arith in absurd q
next_one n L (runs_other limit g scratch e) (runs _ _ _ r e' f x) = absurd (e e')
next_one n L (runs_other limit g scratch e) (runs_other _ _ _ e') = (refl, refl)
next_one n L (runs_other limit g scratch e) (runs_short _ _ _ e' f) = absurd (e e')
next_one n L (runs_short limit g scratch e f) (runs _ _ _ r e' f' x) = let q : ⊥ = omega arith in absurd q
next_one n L (runs_short limit g scratch e f) (runs_other _ _ _ e') = absurd (e' e)
next_one n L (runs_short limit g scratch e f) (runs_short _ _ _ e' f') = (refl, refl)
next_one n L settles settles = (refl, refl)
next_one n L finds finds = (refl, refl)
next_one n L (values v a b) (values _ a' b') = (refl, refl)
next_one n L (values v a b) (values_without _ a') = absurd (a' a)
next_one n L (values v a b) (values_outside _ a' b') = absurd (both_ways (in_range n (pos v)) b' b)
next_one n L (values_without v a) (values _ a' b) = absurd (a a')
next_one n L (values_without v a) (values_without _ a') = (refl, refl)
next_one n L (values_without v a) (values_outside _ a' b) = absurd (a a')
next_one n L (values_outside v a b) (values _ a' b') = absurd (both_ways (in_range n (pos v)) b b')
next_one n L (values_outside v a b) (values_without _ a') = absurd (a' a)
next_one n L (values_outside v a b) (values_outside _ a' b') = (refl, refl)
next_one n L (names l a b) (names _ a' b') = (refl, refl)
next_one n L (names l a b) (names_without _ a') = absurd (a' a)
next_one n L (names l a b) (names_outside _ a' b') = absurd (both_ways (in_range n l) b' b)
next_one n L (names_without l a) (names _ a' b) = absurd (a a')
next_one n L (names_without l a) (names_without _ a') = (refl, refl)
next_one n L (names_without l a) (names_outside _ a' b) = absurd (a a')
next_one n L (names_outside l a b) (names _ a' b') = absurd (both_ways (in_range n l) b b')
next_one n L (names_outside l a b) (names_without _ a') = absurd (a' a)
next_one n L (names_outside l a b) (names_outside _ a' b') = (refl, refl)
next_one n L reopens reopens = (refl, refl)

history_one : (n L : ℕ) {h h' : List Event} {s s' : State} → History n L h s → History n L h' s' → map (λ e. e.call) h ≡ map (λ e. e.call) h' → (h ≡ h') × (s ≡ s')
history_one n L opening opening c = (refl, refl)
history_one n L opening (more p x) c = let z = ap length c in let q : ⊥ = omega arith in absurd q
history_one n L (more p x) opening c = let z = ap length c in let q : ⊥ = omega arith in absurd q
history_one n L (more {h} {s} {e} p x) (more {h = h'} {s = s'} {e = e'} {s' = s₂} p' x') c =
    let ec : e.call ≡ e'.call = cc in
    let et : map (λ y. y.call) h ≡ map (λ y. y.call) h' = cc in
    let a = history_one n L p p' et in let eh = a.0 in
    let b = next_one n L x (subst (λ y. Next n L s y e'.reply s₂) (sym ec) (subst (λ y. Next n L y e'.call e'.reply s₂) (sym a.1) x')) in let er = b.0 in
    (λ i. record { call = ec i; reply = er i } ∷ eh i, b.1)

pub answers_determined : AnswersDetermined
answers_determined n L h h' s s' p p' c = history_one n L p p' c
