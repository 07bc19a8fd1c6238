-- A catalogue as plain lists, and the conditions on one. This project's own.
use Rattle.std.specs.Prelude.{◌≡◌, ℕ, ◌<◌, ◌≤◌, ◌^◌, true, List, [], length, Some}
use Rattle.il_model.specs.declared.key.BodyRow.{BodyRow}
use Rattle.il_model.specs.declared.method.MethodDef.{MethodDef}
use Rattle.il_model.specs.declared.entry.Entry.{Entry}
use Rattle.il_model.specs.declared.entry.Def.TheVariants as def
use Rattle.il_model.specs.declared.program.Program.{Program}
use Rattle.il_model.specs.Bases.{own_of}
use Rattle.il_model.specs.Found.{method_at}
use Rattle.il_model.specs.Entries.{template_of}
use Rattle.il_model.specs.ClassRules.{EachClass, HasTypes, HasImplementations, HasFewSlots}
use Rattle.rgctx_template.specs.declared.catalogue.Catalogue.{Catalogue}
use Rattle.rgctx_template.specs.Admitted.{is_admitted, is_admitted_method}
use Rattle.rgctx_template.specs.Written.{HasCounts, FindsMembers}
use Rattle.rgctx_template.specs.GotEntries.{AreKeptEntries}

-- a catalogue without its loans
pub record CatData : Type 0 where
  pub program : Program
  pub bodies : List BodyRow
  pub got : List Entry

abbrev pub data_of : Catalogue → CatData
data_of cat = record { program = cat.program.now; bodies = cat.bodies.now; got = cat.got.now }

-- the most entries of a method's template
abbrev pub most_entries : ℕ
most_entries = 224

-- no method has too many entries
pub record HasFewEntries (program : Program) : Type 0 where
  pub each : (number : ℕ) → length (template_of program (def.Method number)) ≤ most_entries

-- the method with the entry point is there, and both its class and it are admitted
pub record HasMain (program : Program) : Type 0 where
  pub main : MethodDef
  pub is : method_at program program.main ≡ Some main
  pub class : is_admitted program (own_of program main.owner) ≡ true
  pub method : is_admitted_method program (own_of program main.owner) [] main ≡ true

-- what is asked of a catalogue
pub record IsCatalogue (cat : CatData) : Type 0 where
  -- no class is refused by the rules on hierarchies, layouts, implementations and slots
  pub types : HasTypes cat.program
  pub implementations : EachClass HasImplementations cat.program
  pub slots : EachClass HasFewSlots cat.program
  -- the types that are written have their numbers of arguments, the members that are named are found
  pub counts : HasCounts cat.program
  pub members : FindsMembers cat.program
  pub templates : HasFewEntries cat.program
  pub main : HasMain cat.program
  pub bodies : length cat.bodies < 2 ^ 32
  pub got : AreKeptEntries cat.program cat.got
