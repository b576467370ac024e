use Rattle.std.proofs.Common.{◌≡◌, ℕ, ◌+◌, ◌<◌, ◌≤◌, Bool, true, List, map, length, get_or, take, set, ℤ, pos, neg_ℤ, Some, None, filter, ◌-ℤ◌, Option, sym, subst, ap, ◌∙◌, arith, w32, SFits, to_z, of_z, rules}
use borrow.Author.Tests.{tests}
use Rattle.std.specs.List.{list_all}
use Rattle.std.specs.Iterator.{Yields}
use Rattle.std.proofs.lemmas.Int.{to_z-of_z}
use Rattle.std.proofs.lemmas.List.{length-map, length_push, map_push}
use Rattle.std.proofs.lemmas.List.Elements.{All-get_or, All-take, All-filter}
use Rattle.std.proofs.lemmas.List.Sums.{AllPass-from_list_all}
use Rattle.std.proofs.lemmas.Iterator.{YieldsList, YieldsList-from_slice, YieldsList-from_take}
use Rattle.std.proofs.lemmas.Iterator.Consumers.{YieldsList-at, YieldsList-from_filter, YieldsList-turn, YieldsList-end}
use Rattle.rules.specs.Literals.{var, in_range}
use Rattle.rules.specs.Sources.{true_in, Answer.tells, page_after}
use Rattle.rules.specs.Values.{value_in}
use Rattle.rules.specs.GroupTelling.{is_value}
use Rattle.rules.proofs.Literals.{var_neg, range_bounds}
use Rattle.rules.proofs.GroupTells.{small_fits, room_turn}
use Rattle.rules.proofs.groups.GroupRow.lay.Goals as goal
use Rattle.rules.proofs.groups.GroupRow.lay.Goals.{In-Some}

-- the turns and the end of a loop, in an order in which the chain's proof comes last
turns : {S A B : Type 0} {steps : S → Option A → S → Type 0} {s : S} (xs : List A) (t : S) → Yields steps s xs t → (r : Option A) (u : S) (x : A) → r ≡ Some x → steps t r u
    → (v : A → B) (all : List B) → YieldsList steps v s all → (length xs < length all) × (v x ≡ get_or all (length xs) (v x))
turns xs t y r u x e k v all road = YieldsList-turn road xs t y r u x e k

ends : {S A B : Type 0} {steps : S → Option A → S → Type 0} {s : S} (xs : List A) (t : S) → Yields steps s xs t → (r : Option A) (u : S) → r ≡ None → steps t r u
    → (v : A → B) (all : List B) → YieldsList steps v s all → (map v xs ≡ all) × (length xs ≡ length all)
ends xs t y r u e k v all road = YieldsList-end road xs t y r u e k

-- the literals that are told are as small as all
small : (p : ℤ → Bool) (ls : List ℤ) (m k : ℕ) (x : ℤ) → list_all (in_range 1000) ls ≡ true → let told = take m (filter p ls) in (k < length told) × (x ≡ get_or told k x) → var x ≤ 1000
small p ls m k x h t =
    let P : ℤ → Type 0 = λ l. in_range 1000 l ≡ true in
    let told = take m (filter p ls) in
    (range_bounds 1000 x (subst P (sym t.1) (All-get_or P told k x t.0 (All-take P m (filter p ls) (All-filter p P ls (AllPass-from_list_all (in_range 1000) ls h)))))).1

-- the negation of a literal, as the code computes it
less : (x : ℤ) → var x ≤ 1000 → pos 0 -ℤ to_z w32 (of_z w32 x) ≡ neg_ℤ x
less x h = let e : pos 0 -ℤ x ≡ neg_ℤ x = search rules in ap (λ y. pos 0 -ℤ y) (to_z-of_z w32 x (small_fits x h)) ∙ e

neg_fits : (x : ℤ) → var x ≤ 1000 → SFits w32 (neg_ℤ x)
neg_fits x h = small_fits (neg_ℤ x) (omega (arith, var_neg x))

negation : (x : ℤ) → var x ≤ 1000 → to_z w32 (of_z w32 (pos 0 -ℤ to_z w32 (of_z w32 x))) ≡ neg_ℤ x
negation x h = ap (λ y. to_z w32 (of_z w32 y)) (less x h) ∙ to_z-of_z w32 (neg_ℤ x) (neg_fits x h)

-- the literal of a turn is small
turn_small : (c : In-Some) → var c.in-Some.literal.now ≤ 1000
turn_small c =
    let ls = c.args.self.now.literals.now in
    let p = λ (l : ℤ). is_value c.args.value (value_in (true_in c.args.valuation.now) l) in
    small p ls c.args.most _ c.in-Some.literal.now c.args.self.now.ranged (
    turns c.loop-literal.yielded _ c.loop-literal.yielded_by _ _ c.in-Some.literal c.in-Some.is c.next.ensures.steps (λ y. y.now) (take c.args.most (filter p ls)) (
    YieldsList-at c.into_iter-literal-iterator.ensures.into_iter_gives (YieldsList-from_take c.args.most (YieldsList-at c.take-told.ensures.source
    (YieldsList-from_filter _ p (YieldsList-at c.filter.ensures.source (YieldsList-from_slice ls c.iter.ensures.rest)) c.filter.ensures.closure (λ x b q k. search (rules, tests)))) c.take-told.ensures.count)))

pub overflow_sub-negation : goal.overflow_sub-negation
overflow_sub-negation c = let h = turn_small (goal.at.overflow_sub-negation c).In-Some in subst (SFits w32) (sym (less c.in-Some.literal.now h)) (neg_fits c.in-Some.literal.now h)

pub loop-literal-preserved : goal.loop-literal-preserved
loop-literal-preserved c =
    let l = c.loop-literal in
    let x = c.in-Some.literal.now in
    let C = map (λ y. y.now) l.yielded in
    let more = length_push l.yielded c.in-Some.literal in
    record {
      now = omega (arith, l.invariant.now);
      room = c.put.ensures ∙ ap (set l.room l.now) (negation x (turn_small (goal.at.loop-literal-preserved c).In-Some))
          ∙ room_turn c.args.len c.args.room.now C x l.room l.now l.invariant.room (l.invariant.now ∙ ap (λ k. c.args.len + k) (sym (length-map l.yielded (λ y. y.now))))
          ∙ ap (λ D. page_after c.args.len (tells (map neg_ℤ D)) c.args.room.now) (sym (map_push (λ y. y.now) l.yielded c.in-Some.literal));
    }

pub returns : goal.returns
returns c =
    let ls = c.args.self.now.literals.now in
    let p = λ (l : ℤ). is_value c.args.value (value_in (true_in c.args.valuation.now) l) in
    let e = ends c.loop-literal.yielded _ c.loop-literal.yielded_by _ _ c.in-None.is c.next.ensures.steps (λ y. y.now) (take c.args.most (filter p ls)) (
    YieldsList-at c.into_iter-literal-iterator.ensures.into_iter_gives (YieldsList-from_take c.args.most (YieldsList-at c.take-told.ensures.source
    (YieldsList-from_filter _ p (YieldsList-at c.filter.ensures.source (YieldsList-from_slice ls c.iter.ensures.rest)) c.filter.ensures.closure (λ x b q k. search (rules, tests)))) c.take-told.ensures.count)) in
    record {
      count = c.loop-literal.invariant.now ∙ ap (λ k. c.args.len + k) e.1;
      room = c.loop-literal.invariant.room ∙ ap (λ C. page_after c.args.len (tells (map neg_ℤ C)) c.args.room.now) e.0;
    }
