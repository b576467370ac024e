use Rattle.std.proofs.Common.{◌≡◌, Bool, true, false, List, [], ◌∷◌, ◌++◌, length, Some, None, All, Contains, Option, sym, refl, ap, ◌∙◌, subst, ⊎_elim, append_assoc, arith, length-append}
use Rattle.std.proofs.lemmas.List.Elements.{All-nil, All-head, All-tail, All-contains, All-push, All-weaker, Contains-append_right, Contains-get_or}
use Rattle.std.proofs.lemmas.Bool.{both_ways, cases_Bool, cond_both}
use Rattle.weights.specs.Choosing.{FirstLeast, Choice, offered}
use Rattle.weights.specs.Orders.{Total, Chain}

module _ {X : Type 0} (at_most : X → X → Bool) where
  -- of two that are at most each other, with none before either that is at most it, both stand at one place
  same_place : (before after before' after' : List X) (x y : X) → before ++ (x ∷ after) ≡ before' ++ (y ∷ after') → at_most x y ≡ true → at_most y x ≡ true → All (λ z. at_most z x ≡ false) before → All (λ z. at_most z y ≡ false) before' → x ≡ y
  same_place [] after [] after' x y e xy yx f f' = cc
  same_place [] after (z ∷ before') after' x y e xy yx f f' = let same : z ≡ x = cc in absurd (both_ways (at_most x y) (subst (λ v. at_most v y ≡ false) same (All-head (λ v. at_most v y ≡ false) z before' f')) xy)
  same_place (z ∷ before) after [] after' x y e xy yx f f' = let same : z ≡ y = cc in absurd (both_ways (at_most y x) (subst (λ v. at_most v x ≡ false) same (All-head (λ v. at_most v x ≡ false) z before f)) yx)
  same_place (z ∷ before) after (z' ∷ before') after' x y e xy yx f f' = same_place before after before' after' x y (cc) xy yx (All-tail (λ v. at_most v x ≡ false) z before f) (All-tail (λ v. at_most v y ≡ false) z' before' f')

  -- a first least is at most another
  at_most_other : (row : List X) (x y : X) → FirstLeast at_most row x → FirstLeast at_most row y → at_most x y ≡ true
  at_most_other row x y f g =
      let has-y = Contains-append_right g.before (y ∷ g.after) y (Contains-get_or (y ∷ g.after) 0 y (omega arith)) in
      All-contains (λ z. at_most x z ≡ true) row y f.least (subst (λ r. Contains r y) (sym g.stands) has-y)

  -- an empty row has no first least
  not_empty : (row : List X) (x : X) → row ≡ [] → FirstLeast at_most row x → ⊥
  not_empty row x e f = omega (arith, simp length-append at (ap length (sym e ∙ f.stands)))

  -- a row has one choice
  pub choice_unique : (row : List X) (kept other : Option X) → Choice at_most row kept → Choice at_most row other → other ≡ kept
  choice_unique row None None e e' = refl
  choice_unique row None (Some y) e g = absurd (not_empty row y e g)
  choice_unique row (Some x) None f e = absurd (not_empty row x e f)
  choice_unique row (Some x) (Some y) f g =
      ap Some (same_place g.before g.after f.before f.after y x (sym g.stands ∙ f.stands) (at_most_other row y x g f) (at_most_other row x y f g) g.first f.first)

  module _ (total : Total at_most) (chain : Chain at_most) where
    at_most_itself : (x : X) → at_most x x ≡ true
    at_most_itself x = ⊎_elim (λ e. e) (total x x) (cases_Bool (at_most x x))

    -- a new one is the first least where it is at most each before it and none of these is at most it
    last : (row : List X) (x : X) → All (λ y. at_most x y ≡ true) row → All (λ y. at_most y x ≡ false) row → FirstLeast at_most (row ++ (x ∷ [])) x
    last row x least first = record { before = row; after = []; stands = refl; least = All-push (λ y. at_most x y ≡ true) row x least (at_most_itself x); first = first }

    -- the one kept stays where it is at most the new one
    stays : (row : List X) (kept x : X) → FirstLeast at_most row kept → at_most kept x ≡ true → FirstLeast at_most (row ++ (x ∷ [])) kept
    stays row kept x f h = record {
      before = f.before;
      after = f.after ++ (x ∷ []);
      stands = ap (λ r. r ++ (x ∷ [])) f.stands ∙ append_assoc f.before (kept ∷ f.after) (x ∷ []);
      least = All-push (λ y. at_most kept y ≡ true) row x f.least h;
      first = f.first;
    }

    -- otherwise it yields to the new one
    yields : (row : List X) (kept x : X) → FirstLeast at_most row kept → at_most kept x ≡ false → FirstLeast at_most (row ++ (x ∷ [])) x
    yields row kept x f h =
        let below : (y : X) → at_most kept y ≡ true → at_most y x ≡ false = λ y k. ⊎_elim (λ e. absurd (both_ways (at_most kept x) h (chain kept y x k e))) (λ e. e) (cases_Bool (at_most y x)) in
        last row x (All-weaker (λ y. at_most kept y ≡ true) (λ y. at_most x y ≡ true) (λ y. chain x kept y (total kept x h)) row f.least)
        (All-weaker (λ y. at_most kept y ≡ true) (λ y. at_most y x ≡ false) below row f.least)

    -- what is kept after an offer is the choice from the row with the new one at its end
    pub choice_offered : (row : List X) (kept : Option X) (x : X) → Choice at_most row kept → Choice at_most (row ++ (x ∷ [])) (offered at_most kept x)
    choice_offered row None x e = subst (λ r. FirstLeast at_most (r ++ (x ∷ [])) x) (sym e) (last [] x (All-nil (λ y. at_most x y ≡ true)) (All-nil (λ y. at_most y x ≡ false)))
    choice_offered row (Some kept) x f = cond_both (at_most kept x) (Some kept) (Some x) (Choice at_most (row ++ (x ∷ []))) (stays row kept x f) (yields row kept x f)
