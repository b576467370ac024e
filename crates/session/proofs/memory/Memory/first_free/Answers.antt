use Rattle.std.proofs.Common.{rules, tests}
use Rattle.std.proofs.lemmas.Iterator.{YieldsList-from_slice}
use Rattle.std.proofs.lemmas.Iterator.Consumers.{YieldsList-from_copied}
use Rattle.std.proofs.lemmas.Iterator.Search.{find_from_yields_List}
use Rattle.theory.specs.Trail.{free}
use Rattle.session.specs.Decode.{trail_of}
use Rattle.session.proofs.Decisions.{find_first}
use Rattle.session.proofs.memory.Memory.first_free.Goals as goal

pub returns : goal.returns
returns c =
    let n = c.args.self.now.layout.variables in
    let ws = c.args.self.now.words.now in
    let test = free n (trail_of n c.args.self.now.extent.trail ws) in
    find_first test c.args.preferences.now c.find.result
    (find_from_yields_List test _ _ c.find.result c.find.ensures.ran (YieldsList-from_copied (YieldsList-from_slice c.args.preferences.now cc))
    (λ x b q k. (search (rules, tests), search (rules, tests))))
