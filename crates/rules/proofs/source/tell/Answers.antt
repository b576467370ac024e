use Rattle.std.proofs.Common.{◌≡◌, ◌+◌, ◌-◌, length, take, ap, ◌∙◌, arith, rules}
use borrow.Rule.Slice.PartMut.{put_mid}
use Rattle.std.proofs.lemmas.List.{length-take}
use Rattle.rules.proofs.Pages.{page_told}
use Rattle.rules.proofs.source.tell.Goals as goal

pub returns-clause-page : goal.returns-clause-page
returns-clause-page c =
    let page = c.args.page.now in
    let C = c.args.clause.now in
    let start = length c.valuation-start.result.now in
    let k = c.min-fits.result in
    let front : c.copy_from_slice.new.self ≡ take k C = search rules in
    let e : start + k - start ≡ k = omega arith in
    ap (λ ys. put_mid start (start + k - start) page ys) front ∙ ap (λ j. put_mid start j page (take k C)) e ∙ page_told c.args.variables page C start k (ap length c.valuation-start.ensures ∙ length-take c.args.variables page) c.min-fits.ensures
