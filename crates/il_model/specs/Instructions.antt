-- Instructions as they are written: the rule `instr` of the grammar.
use Rattle.std.specs.Prelude.{◌≡◌, ℕ, ℤ, List, [], ◌∷◌, ◌++◌, map, Some, Contains, codes}
use Rattle.il_text.specs.declared.token.TokenKind.TheVariants as token
use Rattle.il_model.specs.declared.form.Form.{Form}
use Rattle.il_model.specs.declared.written.WrittenName.{WrittenName}
use Rattle.il_model.specs.declared.written.WrittenType.{WrittenType}
use Rattle.il_model.specs.declared.written.WrittenMethodRef.{WrittenMethodRef}
use Rattle.il_model.specs.declared.written.WrittenFieldRef.{WrittenFieldRef}
use Rattle.il_model.specs.declared.written.WrittenOperand.{WrittenOperand}
use Rattle.il_model.specs.declared.written.WrittenOperand.TheVariants as operand
use Rattle.il_model.specs.declared.written.WrittenInstr.{WrittenInstr}
use Rattle.il_model.specs.Lexemes.{Lexeme, Is, IsName, name_at, Separated}
use Rattle.il_model.specs.Literals.{int32_value, int64_value, place_value, text_value}
use Rattle.il_model.specs.Types.{IsType}
use Rattle.il_model.specs.Members.{IsMethodRef, IsFieldRef}
use Rattle.il_model.specs.Forms.{OperandKind, no_operand, int32_literal, int64_literal, text_literal, place, label, labels, type_operand, called_method, method_operand, field_operand, constrained_method, word, library_call, word_of, operand_kind}
use Rattle.il_model.specs.Spellings.{plain_name, short_words, Shortened, shortened}

-- a label where an instruction names it: any word
pub data IsLabel : List Lexeme → WrittenName → Type 0 where
  label_name : (l : Lexeme) → IsName [] l → IsLabel (l ∷ []) (name_at l)

-- the words of these lexemes, `object` and `string` in their short spelling
abbrev pub plain_words : List Lexeme → List (List ℕ)
plain_words ws = map (λ l. plain_name l.bytes) ws

-- the operand of a call of the library, which is a type at most
pub data IsInside : OperandKind → List Lexeme → WrittenOperand → Type 0 where
  nothing_inside : IsInside no_operand [] operand.Nothing
  type_inside : (ws : List Lexeme) (t : WrittenType) → IsType [] ws t → IsInside type_operand ws (operand.Type t)

-- what follows `call` spells a call of the library, by the spelling alone
pub data IsLibraryCall : List Lexeme → Form → WrittenOperand → Type 0 where
  library_words : (ws front inner back : List Lexeme) (f : Form) (o : WrittenOperand) (first last : List (List ℕ)) →
      ws ≡ front ++ inner ++ back → word_of f ≡ library_call first last → plain_words front ≡ first →
      IsInside (operand_kind f) inner o → plain_words back ≡ last → IsLibraryCall ws f o

-- what follows the word of an instruction that takes an operand of this kind
pub data IsOperand : OperandKind → List Lexeme → WrittenOperand → Type 0 where
  nothing : IsOperand no_operand [] operand.Nothing
  int32_number : (l : Lexeme) (n : ℤ) → l.kind ≡ token.Number → int32_value l.bytes ≡ Some n →
      IsOperand int32_literal (l ∷ []) (operand.Int32 n)
  int64_number : (l : Lexeme) (n : ℤ) → l.kind ≡ token.Number → int64_value l.bytes ≡ Some n →
      IsOperand int64_literal (l ∷ []) (operand.Int64 n)
  text : (l : Lexeme) → l.kind ≡ token.Text → IsOperand text_literal (l ∷ []) (operand.Text (text_value l.bytes))
  place_number : (l : Lexeme) (n : ℕ) → l.kind ≡ token.Number → place_value l.bytes ≡ Some n →
      IsOperand place (l ∷ []) (operand.Place n)
  target : (ws : List Lexeme) (to : WrittenName) → IsLabel ws to → IsOperand label ws (operand.Label to)
  targets : (ws inner : List Lexeme) (left right : Lexeme) (to : List WrittenName) → ws ≡ left ∷ inner ++ right ∷ [] →
      Is (codes "(") left → Separated (codes ",") IsLabel inner to → Is (codes ")") right →
      IsOperand labels ws (operand.Labels to)
  type : (ws : List Lexeme) (t : WrittenType) → IsType [] ws t → IsOperand type_operand ws (operand.Type t)
  called : (ws : List Lexeme) (m : WrittenMethodRef) → IsMethodRef ws m →
      ((f : Form) (o : WrittenOperand) → ¬ (IsLibraryCall ws f o)) → IsOperand called_method ws (operand.Method m)
  method : (ws : List Lexeme) (m : WrittenMethodRef) → IsMethodRef ws m → IsOperand method_operand ws (operand.Method m)
  field : (ws : List Lexeme) (f : WrittenFieldRef) → IsFieldRef ws f → IsOperand field_operand ws (operand.Field f)
  constrained : (ws kind named : List Lexeme) (l : Lexeme) (t : WrittenType) (m : WrittenMethodRef) → ws ≡ kind ++ l ∷ named →
      IsType [] kind t → Is (codes "callvirt") l → IsMethodRef named m →
      IsOperand constrained_method ws (operand.Constrained t m)

-- `instr`: a long form; a call of the library; a short word, whose operand follows it or stands in it
pub data IsInstr : List Lexeme → WrittenInstr → Type 0 where
  long : (l : Lexeme) (ws : List Lexeme) (f : Form) (o : WrittenOperand) → word_of f ≡ word l.bytes →
      IsOperand (operand_kind f) ws o → IsInstr (l ∷ ws) (record { at = l.at; form = f; operand = o })
  library : (l : Lexeme) (ws : List Lexeme) (f : Form) (o : WrittenOperand) → Is (codes "call") l →
      IsLibraryCall ws f o → IsInstr (l ∷ ws) (record { at = l.at; form = f; operand = o })
  short : (l : Lexeme) (ws : List Lexeme) (f : Form) (o : WrittenOperand) → Contains short_words (l.bytes, f) →
      IsOperand (operand_kind f) ws o → IsInstr (l ∷ ws) (record { at = l.at; form = f; operand = o })
  short_whole : (l : Lexeme) (row : Shortened) → Contains shortened row → Is row.word l →
      IsInstr (l ∷ []) (record { at = l.at; form = row.form; operand = row.operand })
