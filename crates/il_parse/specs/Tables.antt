-- The tables of instruction words, as the parser keeps them. This project's own.
use Rattle.std.specs.Prelude.{ℕ, List, [], ◌∷◌, Option, Some, None, option_map, if◌then◌else◌, bytes_eq}
use Rattle.std.specs.List.{find}
use Rattle.il_model.specs.declared.form.Form.{Form}
use Rattle.il_model.specs.declared.written.WrittenType.TheVariants as w
use Rattle.il_model.specs.declared.written.WrittenOperand.{WrittenOperand}
use Rattle.il_model.specs.declared.written.WrittenOperand.TheVariants as operand
use Rattle.il_model.specs.Forms.{OperandKind, no_operand, int32_literal, int64_literal, text_literal, place, label, labels, type_operand, called_method, method_operand, field_operand, constrained_method}
use Rattle.il_model.specs.Spellings.{short_words, shortened}
use Rattle.il_parse.specs.declared.mnemonics.Held.{Held}
use Rattle.il_parse.specs.declared.mnemonics.Held.TheVariants as held
use Rattle.il_parse.specs.declared.mnemonics.Says.{Says}
use Rattle.il_parse.specs.declared.mnemonics.Says.TheVariants as says
use Rattle.il_parse.specs.declared.forms.Takes.{Takes}
use Rattle.il_parse.specs.declared.forms.Takes.TheVariants as kind
use Rattle.il_parse.specs.Mnemonics.{Mnemonic, calls, takes, holds}

-- the first row with this word
abbrev pub form_in : List (List ℕ × Form) → List ℕ → Option Form
form_in [] word = None
form_in (row ∷ rows) word = if bytes_eq row.0 word then Some row.1 else form_in rows word

abbrev pub whole_in : List (List ℕ × (Form × Held)) → List ℕ → Option (Form × Held)
whole_in [] word = None
whole_in (row ∷ rows) word = if bytes_eq row.0 word then Some row.1 else whole_in rows word

-- what a short word holds, as an operand
abbrev pub held_operand : Held → WrittenOperand
held_operand (held.Int32 n) = operand.Int32 n
held_operand (held.Place n) = operand.Place n
held_operand held.Int32Type = operand.Type w.Int32
held_operand held.Int64Type = operand.Type w.Int64
held_operand held.ObjectType = operand.Type w.Object

abbrev pub mnemonic_view : Says → Mnemonic
mnemonic_view says.Calls = calls
mnemonic_view (says.Takes form) = takes form
mnemonic_view (says.Holds form held) = holds form (held_operand held)

-- what a short word says, where its operand follows it
unfoldable pub short_form : List ℕ → Option Mnemonic
short_form bytes = option_map (λ row. takes row.1) (find (λ row. bytes_eq row.0 bytes) short_words)

-- what a short word says, where it holds its operand
unfoldable pub whole_form : List ℕ → Option Mnemonic
whole_form bytes = option_map (λ row. holds row.form row.operand) (find (λ row. bytes_eq row.word bytes) shortened)

abbrev pub kind_view : Takes → OperandKind
kind_view kind.Nothing = no_operand
kind_view kind.Int32 = int32_literal
kind_view kind.Int64 = int64_literal
kind_view kind.Text = text_literal
kind_view kind.Place = place
kind_view kind.Label = label
kind_view kind.Labels = labels
kind_view kind.Type = type_operand
kind_view kind.Called = called_method
kind_view kind.Method = method_operand
kind_view kind.Field = field_operand
kind_view kind.Constrained = constrained_method
