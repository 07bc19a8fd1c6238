-- Texts and the programs that they are accepted as. This project's own.
use Rattle.std.specs.Prelude.{ℕ, List}
use Rattle.il_model.specs.declared.program.Program.{Program}
use Rattle.il_model.specs.declared.written.WrittenClass.{WrittenClass}
use Rattle.il_model.specs.Accepted.{IsProgramText}

-- the text is accepted as this program, by the classes that it spells
abbrev pub IsTextOf : List ℕ → Program → Type 0
IsTextOf text p = (classes : List WrittenClass) × IsProgramText text classes p
