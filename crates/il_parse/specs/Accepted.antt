-- Accepted texts: programs of the model with their places. This project's own.
use Rattle.std.specs.Prelude.{◌≡◌, ℕ, List, Result, Ok, Err}
use Rattle.il_model.specs.declared.program.Program.{Program}
use Rattle.il_model.specs.declared.written.WrittenClass.{WrittenClass}
use Rattle.il_model.specs.Accepted.{IsProgramText}
use Rattle.il_parse.specs.declared.fault.ParseFault.{ParseFault}
use Rattle.il_parse.specs.declared.answer.Parsed.{Parsed}
use Rattle.il_parse.specs.Answer.{spots_of}

-- the text is accepted as this program, and the places are those of the classes that it spells
pub record IsAccepted (text : List ℕ) (a : Parsed) : Type 0 where
  pub classes : List WrittenClass
  pub is : IsProgramText text classes a.program
  pub spots : a.spots ≡ spots_of text classes

-- the text is that of no program
abbrev pub IsOfNone : List ℕ → Type 0
IsOfNone text = (classes : List WrittenClass) (p : Program) → ¬ (IsProgramText text classes p)

-- the answer says whether the text is that of a program, and of which
abbrev pub Says : List ℕ → Result Parsed ParseFault → Type 0
Says text (Ok a) = IsAccepted text a
Says text (Err fault) = IsOfNone text
