use Rattle.std.proofs.Common.{◌-◌, ◌<◌, ◌≤◌, List, ℕ, length, take, drop, ap, ◌∙◌, rules}
use Rattle.std.proofs.lemmas.List.{take_rest}
use Rattle.rulefile.specs.Words.{run}
use Rattle.rulefile.proofs.WordLaws.{end_next, end_again, token_next}
use Rattle.rulefile.proofs.words.Reader.next.Goals as goal

pub returns-then-is_empty : goal.returns-then-is_empty
returns-then-is_empty c =
    let r = c.args.self.now in
    let skipped = c.skip_gap.new.self in
    let ended : length skipped.text.now ≤ skipped.at.place = search rules in
    record {
      ahead = end_next r.mode r.at.place r.at.line _ _ r.text.now skipped.text.now c.skip_gap.ensures.spot ended;
      left = end_again r.mode r.at.place r.at.line _ _ r.text.now skipped.text.now c.skip_gap.ensures.spot skipped.mode ended;
    }

pub returns : goal.returns
returns c =
    let r = c.args.self.now in
    let s = c.skip_gap.new.self.text.now in
    let q = c.skip_gap.new.self.at.place in
    let more : q < length s = search rules in
    let rest = take (length s - q) (drop q s) in
    let part = ap (λ n. take n rest) c.run_length.ensures.value ∙ ap (λ (x : List ℕ). take (run x) x) (take_rest s q) in
    let next = token_next r.mode r.at.place r.at.line _ _ r.text.now s c.skip_gap.ensures.spot (take c.run_length.result rest) more (c.skip_gap.ensures.stops more) part _ c.token.ensures in
    record { ahead = next.0; left = next.1 }
