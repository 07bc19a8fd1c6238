-- What is written so that it can be written again: names are words, numbers and bytes are within their ranges.
use Rattle.std.proofs.Common.{◌≡◌, ◌^◌, ◌<◌, true, List, Option, Some, None}
use Rattle.std.specs.List.{AllByRecursion, list_all}
use Rattle.std.specs.Int.Signed.{mag}
use Rattle.il_text.specs.declared.token.TokenKind.TheVariants as token
use Rattle.il_model.specs.declared.written.WrittenVar.{WrittenVar}
use Rattle.il_model.specs.declared.written.WrittenOperand.{WrittenOperand}
use Rattle.il_model.specs.declared.written.WrittenOperand.TheVariants as operand
use Rattle.il_model.specs.declared.written.WrittenBody.{WrittenBody}
use Rattle.il_model.specs.declared.written.WrittenField.{WrittenField}
use Rattle.il_model.specs.declared.written.WrittenMethod.{WrittenMethod}
use Rattle.il_model.specs.declared.written.WrittenClass.{WrittenClass}
use Rattle.il_model.specs.Canonical.{Word}
use Rattle.il_model.specs.Bounds.{instrs_of, fields_of, methods_of}
use Rattle.il_print.proofs.TokenReads.{IsToken}
use Rattle.il_print.proofs.LiteralTokens.{is_writable}

-- a word, and not too long
abbrev pub IsNameWord : Word → Type 0
IsNameWord name = IsToken token.Word name

abbrev pub IsSpellableOperand : WrittenOperand → Type 0
IsSpellableOperand operand.Nothing = Unit {0}
IsSpellableOperand (operand.Int32 n) = mag n < 2 ^ 63
IsSpellableOperand (operand.Int64 n) = mag n < 2 ^ 63
IsSpellableOperand (operand.Text bytes) = list_all is_writable bytes ≡ true
IsSpellableOperand (operand.Place n) = n < 2 ^ 64
IsSpellableOperand (operand.Label to) = Unit {0}
IsSpellableOperand (operand.Labels to) = Unit {0}
IsSpellableOperand (operand.Type t) = Unit {0}
IsSpellableOperand (operand.Method m) = IsNameWord m.name
IsSpellableOperand (operand.Field f) = IsNameWord f.name
IsSpellableOperand (operand.Constrained t m) = IsNameWord m.name

abbrev pub IsSpellableBody : WrittenBody → Type 0
IsSpellableBody b = AllByRecursion (λ i. IsSpellableOperand i.operand) (instrs_of b.lines)

abbrev pub IsSpellableOption : Option WrittenBody → Type 0
IsSpellableOption None = Unit {0}
IsSpellableOption (Some b) = IsSpellableBody b

abbrev pub AreSpellableVars : List WrittenVar → Type 0
AreSpellableVars vs = AllByRecursion (λ v. IsNameWord v.name.name) vs

abbrev pub IsSpellableField : WrittenField → Type 0
IsSpellableField f = IsNameWord f.name.name

pub record IsSpellableMethod (m : WrittenMethod) : Type 0 where
  pub name : IsNameWord m.name.name
  pub vars : AreSpellableVars m.vars
  pub body : IsSpellableOption m.body

pub record IsSpellableClass (c : WrittenClass) : Type 0 where
  pub name : IsNameWord c.name.name
  pub vars : AreSpellableVars c.vars
  pub fields : AllByRecursion IsSpellableField (fields_of c.members)
  pub methods : AllByRecursion IsSpellableMethod (methods_of c.members)

-- the classes of a text
abbrev pub AreSpellable : List WrittenClass → Type 0
AreSpellable classes = AllByRecursion IsSpellableClass classes
