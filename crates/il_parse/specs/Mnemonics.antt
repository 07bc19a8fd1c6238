-- The words of instructions, from the word to what it means. The forms and spellings are those of the model.
use Rattle.std.specs.Prelude.{ℕ, Bool, true, false, ◌&&◌, if◌then◌else◌, List, [], ◌∷◌, Option, Some, None, option_map, codes, bytes_eq}
use Rattle.std.specs.List.{find}
use Rattle.il_model.specs.declared.form.Form.{Form}
use Rattle.il_model.specs.declared.form.Form.TheVariants as form
use Rattle.il_model.specs.declared.written.WrittenType.{WrittenType}
use Rattle.il_model.specs.declared.written.WrittenParam.{WrittenParam}
use Rattle.il_model.specs.declared.written.WrittenMethodRef.{WrittenMethodRef}
use Rattle.il_model.specs.declared.written.WrittenOperand.{WrittenOperand}
use Rattle.il_model.specs.declared.written.WrittenOperand.TheVariants as operand
use Rattle.il_model.specs.Lexemes.{Lexeme}
use Rattle.il_model.specs.Forms.{FormWord, word, library_call, no_text, word_of}
use Rattle.il_model.specs.Spellings.{short_words, shortened}
use Rattle.il_model.specs.Instructions.{plain_words}

-- every form, in the order of the table
abbrev pub all_forms : List Form
all_forms =
    form.Nop ∷ form.Dup ∷ form.Pop ∷ form.LdcI4 ∷ form.LdcI8 ∷ form.Ldnull ∷ form.Ldstr ∷ form.Ldarg ∷ form.Ldloc ∷
    form.Ldarga ∷ form.Ldloca ∷ form.Starg ∷ form.Stloc ∷ form.Add ∷ form.Sub ∷ form.Mul ∷ form.And ∷ form.Or ∷
    form.Xor ∷ form.AddOvf ∷ form.SubOvf ∷ form.MulOvf ∷ form.AddOvfUn ∷ form.SubOvfUn ∷ form.MulOvfUn ∷ form.Div ∷
    form.Rem ∷ form.DivUn ∷ form.RemUn ∷ form.Shl ∷ form.Shr ∷ form.ShrUn ∷ form.Neg ∷ form.Not ∷ form.ConvI4 ∷
    form.ConvI8 ∷ form.ConvU8 ∷ form.ConvOvfI4 ∷ form.Ceq ∷ form.Cgt ∷ form.CgtUn ∷ form.Clt ∷ form.CltUn ∷ form.Br ∷
    form.Brtrue ∷ form.Brfalse ∷ form.Beq ∷ form.BneUn ∷ form.Bge ∷ form.Bgt ∷ form.Ble ∷ form.Blt ∷ form.BgeUn ∷
    form.BgtUn ∷ form.BleUn ∷ form.BltUn ∷ form.Switch ∷ form.Leave ∷ form.Call ∷ form.Callvirt ∷ form.Constrained ∷
    form.Newobj ∷ form.Ret ∷ form.Ldfld ∷ form.Stfld ∷ form.Ldflda ∷ form.Ldsfld ∷ form.Stsfld ∷ form.Ldsflda ∷
    form.Ldobj ∷ form.Stobj ∷ form.Initobj ∷ form.Newarr ∷ form.Ldlen ∷ form.Ldelem ∷ form.Stelem ∷ form.Box ∷
    form.UnboxAny ∷ form.Castclass ∷ form.Isinst ∷ form.Throw ∷ form.WriteLineInt32 ∷ form.WriteLineInt64 ∷
    form.WriteLineString ∷ form.CompareExchangeInt32 ∷ form.CompareExchangeInt64 ∷ form.CompareExchangeObject ∷
    form.ExchangeInt32 ∷ form.ExchangeInt64 ∷ form.ExchangeObject ∷ form.AddInt32 ∷ form.AddInt64 ∷ form.NameOf ∷
    form.Start ∷ form.Join ∷ form.Endfinally ∷ form.Rethrow ∷ form.Ldftn ∷ form.Ldvirtftn ∷ []

abbrev pub is_the_word : List ℕ → FormWord → Bool
is_the_word bytes (word spelling) = bytes_eq spelling bytes
is_the_word bytes (library_call first last) = false
is_the_word bytes no_text = false

-- the form with this word
unfoldable pub form_of_word : List ℕ → Option Form
form_of_word bytes = find (λ f. is_the_word bytes (word_of f)) all_forms

-- what a word of an instruction says: `call`; a form whose operand follows; or a form with its operand
pub data Mnemonic : Type 0 where
  calls : Mnemonic
  takes : Form → Mnemonic
  holds : Form → WrittenOperand → Mnemonic

abbrev pub or_else : {A : Type 0} → Option A → Option A → Option A
or_else (Some x) other = Some x
or_else None other = other

-- what this word says, if it is the word of an instruction
unfoldable pub mnemonic_of : List ℕ → Option Mnemonic
mnemonic_of bytes =
    if bytes_eq (codes "call") bytes then Some calls
    else or_else (option_map takes (form_of_word bytes))
    (or_else (option_map (λ row. takes row.1) (find (λ row. bytes_eq row.0 bytes) short_words))
    (option_map (λ row. holds row.form row.operand) (find (λ row. bytes_eq row.word bytes) shortened)))

abbrev pub same_words : List (List ℕ) → List (List ℕ) → Bool
same_words [] [] = true
same_words [] (b ∷ bs) = false
same_words (a ∷ others) [] = false
same_words (a ∷ others) (b ∷ bs) = bytes_eq a b && same_words others bs

-- a call of the library that has nothing of its own in it
abbrev pub is_whole_call : List (List ℕ) → FormWord → Bool
is_whole_call words (word spelling) = false
is_whole_call words (library_call first []) = same_words first words
is_whole_call words (library_call first (last ∷ lasts)) = false
is_whole_call words no_text = false

-- the second words begin with the first
abbrev pub begin_with : List (List ℕ) → List (List ℕ) → Bool
begin_with [] words = true
begin_with (a ∷ first) [] = false
begin_with (a ∷ first) (b ∷ words) = bytes_eq a b && begin_with first words

-- the words in front of a form's type argument
abbrev pub words_before : FormWord → List (List ℕ)
words_before (word spelling) = []
words_before (library_call first last) = first
words_before no_text = []

-- the type argument, where there is one and no parameter
abbrev pub only_argument : List WrittenType → List WrittenParam → Option WrittenType
only_argument (t ∷ []) [] = Some t
only_argument [] ps = None
only_argument (t ∷ []) (p ∷ ps) = None
only_argument (t ∷ u ∷ ts) ps = None

-- `NameOf` of a type
abbrev pub name_of_call : List (List ℕ) → WrittenMethodRef → Option (Form × WrittenOperand)
name_of_call words m =
    if begin_with (words_before (word_of form.NameOf)) words
    then option_map (λ t. (form.NameOf, operand.Type t)) (only_argument m.args m.params) else None

-- the call of the library that these words spell, which are those of this method
unfoldable pub library_call_of : List Lexeme → WrittenMethodRef → Option (Form × WrittenOperand)
library_call_of ws m =
    or_else (option_map (λ f. (f, operand.Nothing)) (find (λ f. is_whole_call (plain_words ws) (word_of f)) all_forms))
    (name_of_call (plain_words ws) m)
