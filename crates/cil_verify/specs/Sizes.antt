-- How large a program may be that is judged: no larger than its numbers reach. This project's own.
use Rattle.std.specs.Prelude.{◌≡◌, ℕ, ◌≤◌, List, length, slice_get, Some}
use Rattle.il_model.specs.declared.method.MethodDef.{MethodDef}
use Rattle.il_model.specs.declared.program.Program.{Program}
use Rattle.cil_verify.specs.Places.{code_of}

-- no body has more instructions than a text can give it
abbrev pub HasFewInstructions : List MethodDef → Type 0
HasFewInstructions methods = (number : ℕ) (m : MethodDef) → slice_get methods number ≡ Some m → length (code_of m.body) ≤ 16384

-- classes and methods are numbered in 16 bits, and bodies are no longer than a text can make them
pub record FitsNumbers (program : Program) : Type 0 where
  pub classes : length program.classes ≤ 65536
  pub methods : length program.methods ≤ 65536
  pub code : HasFewInstructions program.methods
