-- What `decide` prints for a file, and what that says of the file.
use Rattle.std.specs.Prelude.{◌≡◌, ℕ, ◌≤◌, Bool, true, List, [], ◌++◌, length, take, Ok, Err, codes}
use Rattle.std.specs.Fmt.{decimal}
use Rattle.rulefile.specs.Words.{seen_in}
use Rattle.rulefile.specs.Faults.{Fault, named}
use Rattle.rulefile.specs.Outcomes.{Rule, Books, fresh}
use Rattle.rulefile.specs.Grammar.{File, takes, obeys, meaning as books_meaning}
use Rattle.theory.specs.Search.{Verdict.paused, Verdict.model, Verdict.refuted}
use Rattle.session.specs.Reports.{report_of}
use Rattle.answer.specs.declared.answers.Answer.{Answer}
use Rattle.answer.specs.declared.answers.Answer.TheVariants.{Refused, Satisfiable, Unsatisfiable as Impossible, Unknown}
use Rattle.answer.specs.Lines.{line, refusal_line, values_text, true_literals, answer_lines}
use Rattle.answer.specs.Reading.{reading}
use Rattle.answer.specs.Searching.{Searched}

-- the lines of an answer
abbrev pub answer_text : Answer → List ℕ
answer_text (Refused fault) = refusal_line (named fault)
answer_text (Satisfiable m counts) = answer_lines model (take m.count m.literals) (report_of counts.0)
answer_text (Impossible counts) = answer_lines refuted [] (report_of counts.0)
answer_text (Unknown counts) = answer_lines paused [] (report_of counts.0)

-- A refused file gives its fault; any other the lines of a search of the rules that its books hold.
pub data Printed (text : List ℕ) : List ℕ → Type 0 where
  refused : (f : Fault) → reading text ≡ Err f → Printed text (refusal_line f)
  answered : (b : Books) (out : List ℕ) → reading text ≡ Ok b → Searched (books_meaning b) out → Printed text out

-- A file within the limits: at most 65,536 bytes, 64 variables, and rules that books of 8,192 and 2,048 words take.
pub record Readable (text : List ℕ) (n : ℕ) (rules : List Rule) : Type 0 where
  pub short : length text ≤ 65536
  pub few : n ≤ 64
  pub file : File (seen_in text) n rules
  pub taken : takes (fresh n 8192 2048) rules

-- an assignment of n variables obeys the rules
abbrev pub Obeyed : ℕ → List Rule → List Bool → Type 0
Obeyed n rules bs = (length bs ≡ n) × (obeys rules bs ≡ true)

-- The file can be read, and no assignment obeys its rules.
pub record Unsatisfiable (text : List ℕ) : Type 0 where
  pub variables : ℕ
  pub rules : List Rule
  pub readable : Readable text variables rules
  pub none : (bs : List Bool) → Obeyed variables rules bs → ⊥

-- The file can be read, and the line with which this begins has the literals of an assignment that obeys its rules.
pub record Satisfied (text printed : List ℕ) : Type 0 where
  pub variables : ℕ
  pub rules : List Rule
  pub readable : Readable text variables rules
  pub values : List Bool
  pub obeyed : Obeyed variables rules values
  pub rest : List ℕ
  pub shown : printed ≡ line (values_text (true_literals variables values)) ++ rest

-- The file can be read, and this begins by saying that all 1,000,000 steps were taken.
pub record Undecided (text printed : List ℕ) : Type 0 where
  pub variables : ℕ
  pub rules : List Rule
  pub readable : Readable text variables rules
  pub rest : List ℕ
  pub shown : printed ≡ codes "c steps " ++ (decimal 1000000 ++ rest)

-- What the first words that are printed say of the file.
pub record Truthful (text printed : List ℕ) : Type 0 where
  pub unsatisfiable : (rest : List ℕ) → printed ≡ line (codes "s UNSATISFIABLE") ++ rest → Unsatisfiable text
  pub satisfiable : (rest : List ℕ) → printed ≡ line (codes "s SATISFIABLE") ++ rest → Satisfied text rest
  pub unknown : (rest : List ℕ) → printed ≡ line (codes "s UNKNOWN") ++ rest → Undecided text rest
  pub refused : (rest : List ℕ) → printed ≡ codes "refused" ++ rest → (n : ℕ) (rules : List Rule) → Readable text n rules → ⊥

-- What is promised of a printed text: it is the defined one, no other text is, and it is truthful.
pub record Promised (text printed : List ℕ) : Type 0 where
  pub defined : Printed text printed
  pub only : (other : List ℕ) → Printed text other → other ≡ printed
  pub truthful : Truthful text printed
