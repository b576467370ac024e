use Rattle.std.proofs.Common.{◌≡◌, ℕ, ◌+◌, Bool, List, ◌++◌, map, length, take, drop, ℤ, neg_ℤ, filter, sym, ap, ◌∙◌, arith, length-append}
use Rattle.std.proofs.lemmas.List.{take_min, drop_min, length-take, length-map, map-append}
use Rattle.std.proofs.lemmas.List.Elements.{filter_agree}
use Rattle.rules.specs.Books.{true_ones, open_ones}
use Rattle.rules.specs.Sources.{true_in, laid}
use Rattle.rules.specs.GroupTelling.{group_in, first_of_value, is_value, is_open}
use Rattle.rules.specs.Values.{value_in}
use Rattle.rules.specs.declared.literal.Value.{Value}
use Rattle.rules.specs.declared.literal.Value.TheVariants.{True, Unassigned}
use Rattle.rules.proofs.GroupTells.{clause_over, clause_tight, is_true_value, is_open_value}
use Rattle.rules.proofs.Pages.{laid_more}
use Rattle.rules.proofs.groups.GroupRow.tell.Goals as goal
use Rattle.rules.proofs.groups.GroupRow.tell.Goals.{After-lay-len}

-- the literals that are told, as the code takes them
told : (v : Value) (test : (ℤ → Bool) → ℤ → Bool) → ((f : ℤ → Bool) (l : ℤ) → is_value v (value_in f l) ≡ test f l) → (values row : List ℤ) (m : ℕ) (ls : List ℤ) → values ≡ row
    → first_of_value (true_in values) v m ls ≡ take m (filter (test (true_in row)) ls)
told v test is values row m ls e =
    ap (λ q. first_of_value (true_in q) v m ls) e ∙ ap (take m) (filter_agree (λ l. is_value v (value_in (true_in row) l)) (test (true_in row)) (is (true_in row)) ls)

-- the page's two parts
parts : (c : After-lay-len) → let n = c.args.variables in let page = c.args.page.now in (c.split_at_mut-values.result.0.now ≡ take n page) × (c.split_at_mut-values.result.1.now ≡ drop n page)
parts c =
    let n = c.args.variables in
    let page = c.args.page.now in
    let split = c.split_at_mut-values.ensures in
    let long = ap length c.valuation.ensures ∙ length-take n page in
    (split.front ∙ ap (λ k. take k page) long ∙ take_min n page, split.back ∙ ap (λ k. drop k page) long ∙ drop_min n page)

-- the first limit + 1 true literals are laid
trues : (c : After-lay-len) → let n = c.args.variables in let page = c.args.page.now in let G = group_in c.args.self.now in let C = take (G.most + 1) (true_ones (true_in (take n page)) G) in
    (c.lay-len.result ≡ length C) × (c.lay-len.new.room ≡ laid (map neg_ℤ C) (drop n page))
trues c =
    let p = parts c in
    let G = group_in c.args.self.now in
    let split = c.split_at_mut-values in
    let C = take (G.most + 1) (true_ones (true_in (take c.args.variables c.args.page.now)) G) in
    let first = told True (λ f. f) is_true_value split.result.0.now (take c.args.variables c.args.page.now) (G.most + 1) G.literals p.0 in
    (omega (arith, c.lay-len.ensures.count, ap length first), c.lay-len.ensures.room ∙ ap (λ K. laid (map neg_ℤ K) split.result.1.now) first ∙ ap (laid (map neg_ℤ C)) p.1)

pub returns-then-len-self : goal.returns-then-len-self
returns-then-len-self c =
    let n = c.args.variables in
    let page = c.args.page.now in
    let f = true_in (take n page) in
    let G = group_in c.args.self.now in
    let at = (goal.at.returns-then-len-self c).After-lay-len in
    let first = trues at in
    let C = take (G.most + 1) (true_ones f G) in
    let clause = clause_over f G (omega (arith, c.if-len-self.true, first.0)) in
    record {
      count = first.0 ∙ sym (length-map C neg_ℤ) ∙ ap length (sym clause);
      page = ap (λ k. k ++ c.lay-len.new.room) (parts at).0 ∙ ap (λ r. take n page ++ r) (first.1 ∙ ap (λ D. laid D (drop n page)) (sym clause));
    }

pub returns : goal.returns
returns c =
    let n = c.args.variables in
    let page = c.args.page.now in
    let f = true_in (take n page) in
    let G = group_in c.args.self.now in
    let at = (goal.at.returns c).After-lay-len in
    let p = parts at in
    let first = trues at in
    let C = take (G.most + 1) (true_ones f G) in
    let O = take 1 (open_ones f G) in
    let clause = clause_tight f G (omega (arith, c.if-len-self.false, first.0)) in
    let len = c.lay-len.result in
    let last = told Unassigned is_open is_open_value c.split_at_mut-values.result.0.now (take n page) 1 G.literals p.0 in
    let most : c.lay.result ≡ length C + length O = c.lay.ensures.count ∙ ap (λ K. len + length K) last ∙ ap (λ k. k + length O) first.0 in
    let both : c.lay.new.room ≡ laid (map neg_ℤ (C ++ O)) (drop n page) =
    c.lay.ensures.room ∙ ap (λ K. take len c.lay-len.new.room ++ laid (map neg_ℤ K) (drop len c.lay-len.new.room)) last
    ∙ ap (λ r. take len r ++ laid (map neg_ℤ O) (drop len r)) first.1
    ∙ ap (λ k. take k (laid (map neg_ℤ C) (drop n page)) ++ laid (map neg_ℤ O) (drop k (laid (map neg_ℤ C) (drop n page)))) (first.0 ∙ sym (length-map C neg_ℤ))
    ∙ laid_more (map neg_ℤ C) (map neg_ℤ O) (drop n page) ∙ ap (λ D. laid D (drop n page)) (sym (map-append neg_ℤ C O)) in
    record {
      count = most ∙ sym (length-append C O) ∙ sym (length-map (C ++ O) neg_ℤ) ∙ ap length (sym clause);
      page = ap (λ k. k ++ c.lay.new.room) p.0 ∙ ap (λ r. take n page ++ r) (both ∙ ap (λ D. laid D (drop n page)) (sym clause));
    }
