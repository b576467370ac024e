-- What a fault names: its number, its layer (1 words, 2 form, 3 books, 4 a program above them), its line and its place.
use Rattle.std.specs.Prelude.{ℕ, List, ◌∷◌, ◌++◌}
use Rattle.std.specs.Fmt.{decimal}
use Rattle.rules.specs.Drafts.{number_of}
use Rattle.rulefile.specs.declared.words.Position.{Position}
use Rattle.rulefile.specs.declared.words.Misspelling.{Misspelling}
use Rattle.rulefile.specs.declared.words.Misspelling.TheVariants.{Spelling, Length}
use Rattle.rulefile.specs.declared.words.WordFault.{WordFault}
use Rattle.rulefile.specs.declared.faults.Misfit.{Misfit}
use Rattle.rulefile.specs.declared.faults.Misfit.TheVariants.{NotAllowed, TooLarge, Count, Ends}
use Rattle.rulefile.specs.declared.faults.FormFault.{FormFault}
use Rattle.rulefile.specs.declared.faults.FormFault.TheVariants as F
use Rattle.rulefile.specs.declared.faults.BookFault.{BookFault}
use Rattle.rulefile.specs.declared.faults.BookFault.TheVariants as B
use Rattle.rulefile.specs.declared.faults.Layer.{Layer}
use Rattle.rulefile.specs.declared.faults.Layer.TheVariants.{Words, Form, Books, Program}
use Rattle.rulefile.specs.declared.faults.Fault.{Fault as Described}

pub record Fault : Type 0 where
  pub number : ℕ
  pub layer : ℕ
  pub line : ℕ
  pub place : ℕ

abbrev pub fault : ℕ → ℕ → Position → Fault
fault n layer p = record { number = n; layer = layer; line = p.line; place = p.place }

abbrev pub misspelling_number : Misspelling → ℕ
misspelling_number Spelling = 10
misspelling_number Length = 11

abbrev pub misfit_number : Misfit → ℕ
misfit_number NotAllowed = 10
misfit_number TooLarge = 11
misfit_number Count = 12
misfit_number Ends = 13

abbrev pub word_fault : WordFault → Fault
word_fault f = fault (misspelling_number f.kind) 1 f.at

abbrev pub form_fault : FormFault → Fault
form_fault (F.Word f) = word_fault f
form_fault (F.Form k p) = fault (misfit_number k) 2 p

abbrev pub book_fault : BookFault → Fault
book_fault (B.Form f) = form_fault f
book_fault (B.Book r p) = fault (number_of r) 3 p

-- a program that reads rule files may find faults too, in a layer above
abbrev pub layer_number : Layer → ℕ
layer_number Words = 1
layer_number Form = 2
layer_number Books = 3
layer_number Program = 4

-- what is told of a fault
abbrev pub named : Described → Fault
named f = fault f.number (layer_number f.layer) f.at

-- a fault in print: its numbers, with a space between each two
abbrev pub fault_text : Fault → List ℕ
fault_text f = decimal f.number ++ (32 ∷ (decimal f.layer ++ (32 ∷ (decimal f.line ++ (32 ∷ decimal f.place)))))
