use Rattle.std.proofs.Common.{◌≡◌, ◌≢◌, sym, ap, ◌∙◌, w32, rules}
use Rattle.std.proofs.lemmas.Int.{to_z-of_z}
use Rattle.rules.specs.declared.literal.Value.TheVariants.{True}
use Rattle.session.specs.Words.{index_of}
use Rattle.session.proofs.Rooting.{root_true, root_other}
use Rattle.session.proofs.memory.Memory.is_marked_root.Goals as goal

pub returns-then-eq : goal.returns-then-eq
returns-then-eq c =
    let len = c.args.self.now.extent.trail in
    let l = c.args.literal in
    let e = to_z-of_z w32 l c.ranges.literal in
    let is : c.value.result ≡ True = search rules in
    let v = rw e at (sym is ∙ c.value.ensures) in
    c.is_marked_as.ensures ∙ root_true c.args.self.now.layout.variables len c.args.self.now.words.now l _ (c.index_of.ensures.is ∙ ap index_of e) v

pub returns-else-eq : goal.returns-else-eq
returns-else-eq c =
    let len = c.args.self.now.extent.trail in
    let l = c.args.literal in
    let e = to_z-of_z w32 l c.ranges.literal in
    let other : c.value.result ≢ True = search rules in
    let v = rw e at c.value.ensures in
    c.if-eq.false ∙ root_other c.args.self.now.layout.variables len c.args.self.now.words.now l c.value.result other v
