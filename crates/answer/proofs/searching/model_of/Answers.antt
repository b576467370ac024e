use Rattle.std.proofs.Common.{◌≡◌, ◌+◌, ◌<◌, ◌++◌, ◌∷◌, [], length, take, sym, ap, ◌∙◌, arith, rules, w32, to_z, of_z}
use Rattle.std.proofs.lemmas.List.{take_more_set}
use Rattle.std.proofs.lemmas.List.FromFn.{map-range_with_len_more}
use Rattle.answer.specs.Lines.{true_literal as literal_by}
use Rattle.answer.specs.Searching.{values_of}
use Rattle.answer.proofs.searching.model_of.Goals as goal

pub loop-place-preserved : goal.loop-place-preserved
loop-place-preserved c = (
  search rules,
  let place = c.loop-place.place in
      let literal = literal_by (values_of c.args.settled.now) in
      let low : place < length c.loop-place.literals = let long = c.loop-place.invariant.0 in omega arith in
      let stored : to_z w32 (of_z w32 c.true_literal.result) ≡ c.true_literal.result = search rules in
      take_more_set c.loop-place.literals place _ low
      ∙ ap (λ k. take place c.loop-place.literals ++ (k ∷ [])) (stored ∙ c.true_literal.ensures)
      ∙ ap (λ k. k ++ (literal (place + 1) ∷ [])) c.loop-place.invariant.1
      ∙ sym (map-range_with_len_more literal 1 place (place + 1) (omega arith)),
)
