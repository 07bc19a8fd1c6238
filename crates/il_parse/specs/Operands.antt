-- Reading instructions: the rule `instr` of the grammar, and what follows each kind of word.
use Rattle.std.specs.Prelude.{ℕ, ◌-◌, List, [], ◌∷◌, take, length, Option, Some, None, codes}
use Rattle.il_text.specs.declared.token.TokenKind.{TokenKind}
use Rattle.il_text.specs.declared.token.TokenKind.TheVariants as token
use Rattle.il_model.specs.declared.form.Form.{Form}
use Rattle.il_model.specs.declared.form.Form.TheVariants as form
use Rattle.il_model.specs.declared.written.WrittenMethodRef.{WrittenMethodRef}
use Rattle.il_model.specs.declared.written.WrittenOperand.{WrittenOperand}
use Rattle.il_model.specs.declared.written.WrittenOperand.TheVariants as operand
use Rattle.il_model.specs.declared.written.WrittenInstr.{WrittenInstr}
use Rattle.il_model.specs.Lexemes.{Lexeme}
use Rattle.il_model.specs.Literals.{int32_value, int64_value, place_value, text_value}
use Rattle.il_model.specs.Forms.{OperandKind, no_operand, int32_literal, int64_literal, text_literal, place, label, labels, type_operand, called_method, method_operand, field_operand, constrained_method, operand_kind}
use Rattle.il_parse.specs.Reading.{Reader, ◌>>=◌, ◌>>◌, pure, stuck, here, expect, read_name, read_separated}
use Rattle.il_parse.specs.Types.{read_type, read_enclosed}
use Rattle.il_parse.specs.Members.{read_method_ref, read_field_ref}
use Rattle.il_parse.specs.Mnemonics.{Mnemonic, calls, takes, holds, library_call_of}

-- the first lexeme stands for this value, or for none
abbrev pub value_or_stuck : {A : Type 0} → Option A → Lexeme → Reader A
value_or_stuck None l = λ ws. stuck (l ∷ ws)
value_or_stuck (Some x) l = pure x

-- what a number's bytes stand for; a lexeme of another kind is no number
abbrev pub number_value : {A : Type 0} → (List ℕ → Option A) → TokenKind → List ℕ → Option A
number_value value token.Number bytes = value bytes
number_value value token.Word bytes = None
number_value value token.Variable bytes = None
number_value value token.Text bytes = None
number_value value token.Mark bytes = None

unfoldable pub read_number : {A : Type 0} → (List ℕ → Option A) → Reader A
read_number value [] = stuck []
read_number value (l ∷ ws) = value_or_stuck (number_value value l.kind l.bytes) l ws

abbrev pub literal_value : TokenKind → List ℕ → Option (List ℕ)
literal_value token.Text bytes = Some (text_value bytes)
literal_value token.Word bytes = None
literal_value token.Variable bytes = None
literal_value token.Number bytes = None
literal_value token.Mark bytes = None

unfoldable pub read_text : Reader (List ℕ)
read_text [] = stuck []
read_text (l ∷ ws) = value_or_stuck (literal_value l.kind l.bytes) l ws

-- a type, the word `callvirt` and a method
unfoldable pub read_constrained : Reader WrittenOperand
read_constrained = do
  t ← read_type
  expect (codes "callvirt")
  m ← read_method_ref
  pure (operand.Constrained t m)

-- an operand of this kind; a called method is read as any other
unfoldable pub read_operand : OperandKind → Reader WrittenOperand
read_operand no_operand = pure operand.Nothing
read_operand int32_literal = do n ← read_number int32_value; pure (operand.Int32 n)
read_operand int64_literal = do n ← read_number int64_value; pure (operand.Int64 n)
read_operand text_literal = do bytes ← read_text; pure (operand.Text bytes)
read_operand place = do n ← read_number place_value; pure (operand.Place n)
read_operand label = do to ← read_name; pure (operand.Label to)
read_operand labels = do to ← read_enclosed (read_separated read_name (codes ",")); pure (operand.Labels to)
read_operand type_operand = do t ← read_type; pure (operand.Type t)
read_operand called_method = do m ← read_method_ref; pure (operand.Method m)
read_operand method_operand = do m ← read_method_ref; pure (operand.Method m)
read_operand field_operand = do f ← read_field_ref; pure (operand.Field f)
read_operand constrained_method = read_constrained

-- the lexemes that were read, where these remain
abbrev pub taken : List Lexeme → List Lexeme → List Lexeme
taken ws back = take (length ws - length back) ws

-- a call of this method, or the call of the library that is spelled so
abbrev pub called : Option (Form × WrittenOperand) → WrittenMethodRef → Form × WrittenOperand
called None m = (form.Call, operand.Method m)
called (Some found) m = found

-- what follows `call`
unfoldable pub read_call : Reader (Form × WrittenOperand)
read_call = do
  ws ← here
  m ← read_method_ref
  back ← here
  pure (called (library_call_of (taken ws back) m) m)

-- what the word says, with the operand that follows it
unfoldable pub read_meaning : Mnemonic → Reader (Form × WrittenOperand)
read_meaning calls = read_call
read_meaning (takes f) = do o ← read_operand (operand_kind f); pure (f, o)
read_meaning (holds f o) = pure (f, o)

-- `instr`, behind its word, which is at this place and says this
unfoldable pub read_instr : ℕ → Mnemonic → Reader WrittenInstr
read_instr at says = do
  found ← read_meaning says
  pure (record { at = at; form = found.0; operand = found.1 })
