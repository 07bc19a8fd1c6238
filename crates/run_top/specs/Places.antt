-- Where in the text a class, a method or an instruction of its program stands. This project's own.
use Rattle.std.specs.Prelude.{ℕ, ◌+◌, List, length, slice_get, Option, Some, None, unwrap_or}
use Rattle.il_text.specs.declared.place.Spot.{Spot}
use Rattle.il_parse.specs.declared.answer.Spots.{Spots}
use Rattle.il_parse.specs.declared.answer.Parsed.{Parsed}
use Rattle.cil_verify.specs.declared.fault.Where.{Where}
use Rattle.cil_verify.specs.declared.fault.Where.TheVariants as at

-- the place of what is in no text
abbrev pub no_spot : Spot
no_spot = record { line = 1; column = 1 }

abbrev pub declared_at : Option Spots → Spot
declared_at None = no_spot
declared_at (Some s) = s.declared

abbrev pub code_at : Option Spots → ℕ → Spot
code_at None number = no_spot
code_at (Some s) number = unwrap_or (slice_get s.code number) no_spot

-- behind the places of so many classes stand those of the methods
abbrev pub spot_in : List Spots → ℕ → Where → Spot
spot_in spots classes (at.Class number) = declared_at (slice_get spots number)
spot_in spots classes (at.Method number) = declared_at (slice_get spots (classes + number))
spot_in spots classes (at.Instr number instr) = code_at (slice_get spots (classes + number)) instr

abbrev pub spot_at : Parsed → Where → Spot
spot_at parsed place = spot_in parsed.spots (length parsed.program.classes) place
