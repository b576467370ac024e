-- What a source answers, as the code has it.
use Rattle.rules.specs.Sources.{Answer, Answer.silent, Answer.tells}
use Rattle.std.specs.Prelude.{ℕ, length, Some, None, Option}

-- how many literals the told clause has
abbrev pub told_of : Answer → Option ℕ
told_of silent = None
told_of (tells C) = Some (length C)
