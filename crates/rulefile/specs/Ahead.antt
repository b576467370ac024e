-- What a reader has before it.
use Rattle.std.specs.Prelude.{List, drop}
use Rattle.rulefile.specs.declared.words.Reader.{Reader}
use Rattle.rulefile.specs.Words.{Seen, shown, between}

-- what the text still shows
abbrev pub ahead : Reader → List Seen
ahead r = shown (between r.mode) r.at.place r.at.line (drop r.at.place r.text.now)
