use Rattle.std.proofs.Common.{◌≡◌}
use Rattle.rules.specs.Literals.{has}
use Rattle.theory.specs.Conflict.{learned}
use Rattle.theory.proofs.Analysis.{analyse as analysis}
use Rattle.session.specs.Decode.{literal_at, clause_of, marked}
use Rattle.session.specs.InUse.{trail_at}
use Rattle.session.specs.Analysis.{held, set_of}
use Rattle.session.specs.Memories.{trail_in, clause_in}
use Rattle.session.proofs.Decode.{all_false}
use Rattle.session.proofs.Analysing.{analysis_is}
use Rattle.session.proofs.Planning.{rebased, marks_falsified}
use Rattle.session.proofs.memory.Memory.analyse.Goals as goal

pub resolve-requires-clause-falsified : goal.resolve-requires-clause-falsified
resolve-requires-clause-falsified c =
    let mid = c.mark_chunk.new.self in
    all_false (trail_in mid) (clause_in mid c.args.k) (marks_falsified c.args.self.now mid c.args.k c.mark_chunk.ensures.frame c.requires.falsified).1

pub returns-clause-left : goal.returns-clause-left
returns-clause-left c =
    let m = c.args.self.now in
    let n = m.layout.variables in
    let mid = c.mark_chunk.new.self in
    let now = c.collect.new.self.words.now in
    let f = c.mark_chunk.ensures.frame in
    let B = held c.resolve.new.scratch in
    let S = set_of (trail_at m.layout m.extent mid.words.now) B in
    let k = c.collect.result in
    let left : S ≡ analysis (marked n mid.words.now) (trail_at m.layout m.extent mid.words.now) (has (clause_of n c.args.k mid.words.now))
    = rebased m mid f.layout f.extent (λ y e. set_of (trail_at y e mid.words.now) B ≡ analysis (marked y.variables mid.words.now) (trail_at y e mid.words.now) (has (clause_of y.variables c.args.k mid.words.now))) c.resolve.ensures in
    let clause : clause_of n k now ≡ learned n S = rebased m mid f.layout f.extent (λ y e. clause_of y.variables k now ≡ learned y.variables (set_of (trail_at y e mid.words.now) B)) c.collect.ensures.clause in (
      S,
      analysis_is _ _ _ _ _ _ c.requires.falsified.0 m.sound.coherent f.outside c.requires.falsified.1 (literal_at n m.words.now c.args.root) c.mark_chunk.ensures.marked S left,
      clause,
    )
