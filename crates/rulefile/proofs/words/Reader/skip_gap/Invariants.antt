use Rattle.std.proofs.Common.{◌≡◌, ◌+◌, drop}
use Rattle.rulefile.specs.Words.{gap}
use Rattle.rulefile.proofs.words.Reader.skip_gap.Given as goal

abbrev pub invariant-loop-byte : goal.invariant-loop-byte
invariant-loop-byte l = record {
  text : l.self.text ≡ l.initial.self.text;
  place : l.self.at.place ≡ l.initial.self.at.place + l.byte-index;
  led : gap l.initial.self.mode l.initial.self.at.place l.initial.self.at.line (drop l.initial.self.at.place l.initial.self.text.now)
      ≡ gap l.self.mode l.self.at.place l.self.at.line (drop l.self.at.place l.initial.self.text.now);
}
