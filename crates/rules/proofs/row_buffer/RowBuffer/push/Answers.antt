use Rattle.std.proofs.Common.{◌≡◌, ◌+◌, ◌<◌, true, not, ltb, [], ◌∷◌, ◌++◌, length, sym, ap, ◌∙◌, subst, arith, w32, to_z, of_z, None, Some, rules}
use Rattle.std.specs.List.{list_all}
use Rattle.std.proofs.lemmas.List.{length-set, take-set-le, drop-set-lt}
use Rattle.std.proofs.lemmas.Int.{to_z-of_z}
use Rattle.std.proofs.lemmas.Bool.{not_from_false, cond-true, lt-ltb}
use Rattle.rules.specs.Rows.{is_zero, ended, rows}
use Rattle.rules.specs.RowBuffers.{content, writing, noted}
use Rattle.rules.specs.declared.refusal.Refusal.TheVariants.{NoRoom}
use Rattle.rules.proofs.RowLaws.{none_zero, pass_push, zeros_after}
use Rattle.rules.proofs.RowBuffers.{draft_end, draft_pushed}
use Rattle.rules.proofs.row_buffer.RowBuffer.push.Goals as goal

pub bounds-self-self : goal.bounds-self-self
bounds-self-self c = omega (arith, draft_end c.args.self.now)

pub invariant_of-self-2 : goal.invariant_of-self-2
invariant_of-self-2 c =
    let b = c.args.self.now in
    let ws = b.words.now in
    let at = b.used + b.len in
    let z = to_z w32 (of_z w32 c.args.word) in
    let word : z ≡ c.args.word = to_z-of_z w32 c.args.word c.ranges.word in
    let room : at < length ws = omega (arith, draft_end b) in
    record {
      within = omega (arith, length-set ws at z);
      ends = ap ended (take-set-le b.used ws at z (omega arith)) ∙ b.ends;
      drafted = subst (λ k. none_zero k ≡ true) (sym (draft_pushed b.used b.len ws z room))
          (pass_push (λ w. not (is_zero w)) (content b).draft z b.drafted (not_from_false (is_zero z) (ap is_zero word ∙ c.requires)));
      zeros = ap (list_all is_zero) (drop-set-lt (b.used + (b.len + 1)) ws at z (omega arith)) ∙ zeros_after at (b.used + (b.len + 1)) ws (omega arith) b.zeros;
      few = b.few;
    }

pub returns : goal.returns
returns c =
    let b = c.args.self.now in
    let ws = b.words.now in
    let w = c.args.word in
    let at = b.used + b.len in
    let z = to_z w32 (of_z w32 w) in
    let word : z ≡ w = to_z-of_z w32 w c.ranges.word in
    let room : at < length ws = omega (arith, draft_end b) in
    let fine : b.fault ≡ None = search rules in
    let old = content b in
    let more = writing old (old.draft ++ (w ∷ [])) old.fault in
    let size = length-set ws at z in
    let front = ap rows (take-set-le b.used ws at z (omega arith)) in
    let draft = draft_pushed b.used b.len ws z room in
    let fits = cond-true _ more (writing old old.draft (Some NoRoom)) (ap (λ k. ltb k (length ws)) (draft_end b) ∙ lt-ltb at (length ws) room) in
    (cc) ∙ sym (ap (noted old w) fine ∙ fits)
