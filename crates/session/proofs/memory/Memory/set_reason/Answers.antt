use Rattle.std.proofs.Common.{◌≡◌, ◌+◌, ◌-◌, ◌<◌, ◌≤◌, ◌++◌, set, length, get_or, take, drop, pos, refl, ap, ◌∙◌, arith, w32, SFits, to_z, of_z, rules}
use Rattle.theory.proofs.Trails.{ranged}
use Rattle.theory.specs.Conflict.{others_of}
use Rattle.session.specs.Words.{word_at, clause_at}
use Rattle.session.specs.Memories.{clause_in}
use Rattle.session.proofs.Words.{index_range, row_below}
use Rattle.session.proofs.Implying.{others_front, clause_fewer, Held, held}
use Rattle.session.proofs.memory.Memory.set_reason.Goals as goal
use Rattle.session.proofs.memory.Memory.set_reason.Goals.{After-reason, After-clause-start, After-row}

start_fits : (c : After-reason) → c.reason.result + c.args.self.now.layout.variables ≤ length c.args.self.now.words.now + 1
start_fits c =
    let m = c.args.self.now in
    let n = m.layout.variables in
    let b = (index_range n (word_at m.words.now (clause_at n c.args.at)) (ranged c.requires.placeable)).1 in
    let x = c.requires.is in
    let big = m.sound.coherent.big in
    let start = c.reason.ensures in
    let few = c.requires.few in
    let among = c.requires.among in
    let r = row_below n m.layout.slots c.args.x n (omega arith) (omega arith) in
    omega arith

pub split_at_mut-front-requires : goal.split_at_mut-front-requires
split_at_mut-front-requires c = let h = start_fits c in let few = c.requires.few in let among = c.requires.among in omega arith

-- the others that the call is given, as they are of the words
given : (c : After-clause-start) → let m = c.args.self.now in let n = m.layout.variables in let l = word_at m.words.now (clause_at n c.args.at) in
    let C = take (c.clause-start.result + c.args.k - c.clause-start.result) (drop c.clause-start.result c.split_at_mut-front.result.0.now) in
    (others_of (to_z w32 (of_z w32 (get_or C c.args.at (pos 0)))) C ≡ others_of l (clause_in m c.args.k)) × (length (others_of l (clause_in m c.args.k)) < c.args.k)
given c =
    let m = c.args.self.now in
    let n = m.layout.variables in
    let l = word_at m.words.now (clause_at n c.args.at) in
    let few = c.requires.few in
    let among = c.requires.among in
    let start = c.reason.ensures in
    let fits : SFits w32 l = search rules in
    let room = start_fits (goal.at.After-clause-start c).After-reason in
    let s = c.split_at_mut-front.ensures in (
      others_front m c.args.k c.args.at c.clause-start.result c.reason.result c.split_at_mut-front.result.0.now fits among c.clause-start.ensures (omega arith) (omega arith) s.front,
      clause_fewer m c.args.k c.args.at l among refl,
    )

pub copy_others-count-requires : goal.copy_others-count-requires
copy_others-count-requires c =
    let few = c.requires.few in
    let room = start_fits (goal.at.copy_others-count-requires c).After-reason in
    let g = given (goal.at.copy_others-count-requires c).After-clause-start in
    let e = ap length g.0 in
    let less = g.1 in
    let back = c.split_at_mut-front.ensures.back_len in
    omega arith

-- the words that the row's writing leaves
written : (c : After-row) → let m = c.args.self.now in
    Held m (word_at m.words.now (clause_at m.layout.variables c.args.at)) c.args.x c.args.k (set (c.split_at_mut-front.result.0.now ++ c.copy_others-count.new.room) c.row.result (to_z w32 c.copy_others-count.result))
written c =
    let m = c.args.self.now in
    let l = word_at m.words.now (clause_at m.layout.variables c.args.at) in
    let g = given (goal.at.After-row c).After-clause-start in
    let d = c.copy_others-count.ensures in
    let s = c.split_at_mut-front.ensures in
    let b = d.copied ∙ ap (λ C. C ++ drop c.copy_others-count.result c.split_at_mut-front.result.1.now) g.0 ∙ ap (λ r. others_of l (clause_in m c.args.k) ++ drop c.copy_others-count.result r) s.back in
    let many = d.count ∙ ap length g.0 in
    let less = g.1 in
    held m l c.args.x c.args.k c.copy_others-count.result c.reason.result c.row.result (to_z w32 c.copy_others-count.result) c.split_at_mut-front.result.0.now c.copy_others-count.new.room
    c.requires.placeable c.requires.is c.requires.few (omega arith) many c.reason.ensures c.row.ensures.at (search rules) s.front b

pub overflow_cast-words : goal.overflow_cast-words
overflow_cast-words c =
    let d = c.copy_others-count.ensures in
    let g = given (goal.at.overflow_cast-words c).After-clause-start in
    let many = d.count ∙ ap length g.0 in
    let less = g.1 in
    let few = c.requires.few in
    let small = c.args.self.now.layout.small.0 in
    let most : c.copy_others-count.result ≤ 1000 = omega arith in
    search rules

pub invariant_of-self : goal.invariant_of-self
invariant_of-self c = record { sound = (written c).sound }

pub returns-clause-reason : goal.returns-clause-reason
returns-clause-reason c = (written (goal.at.returns-clause-reason c).After-row).reason

pub returns-clause-position : goal.returns-clause-position
returns-clause-position c = (written (goal.at.returns-clause-position c).After-row).position

pub returns-clause-frame : goal.returns-clause-frame
returns-clause-frame c = let w = written (goal.at.returns-clause-frame c).After-row in record { layout = refl; extent = refl; size = w.long; outside = w.out }
