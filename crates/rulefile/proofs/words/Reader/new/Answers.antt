use Rattle.rulefile.proofs.PlaceLaws.{text_shows}
use Rattle.rulefile.proofs.PrintLaws.{written_as_printed, nine_digits, printed_is_read}
use Rattle.rulefile.proofs.PartLaws.{text_whole}
use Rattle.rulefile.proofs.words.Reader.new.Goals as goal

pub returns-clause-parts : goal.returns-clause-parts
returns-clause-parts c = text_shows c.args.text.now

pub returns-clause-numbers : goal.returns-clause-numbers
returns-clause-numbers c = (written_as_printed, nine_digits, printed_is_read)

pub returns-clause-whole : goal.returns-clause-whole
returns-clause-whole c = text_whole c.args.text.now
