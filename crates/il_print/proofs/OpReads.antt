-- Operands and instructions with the keys that they bring.
use Rattle.std.proofs.Common.{◌≡◌, ℕ, ◌&&◌, Bool, true, List, [], ◌∷◌, ◌++◌, map, codes, Option, Some, refl, sym, subst}
use Rattle.std.specs.Prelude.{slice_get, unwrap_or, decimal}
use Rattle.std.specs.List.{list_all}
use Rattle.std.specs.Fmt.{signed_decimal}
use Rattle.std.proofs.lemmas.Bool.{and_parts}
use Rattle.il_text.specs.declared.token.TokenKind.TheVariants as token
use Rattle.il_model.specs.declared.form.Form.{Form}
use Rattle.il_model.specs.declared.form.Form.TheVariants as form
use Rattle.il_model.specs.declared.op.Op.{Op}
use Rattle.il_model.specs.declared.written.WrittenOperand.{WrittenOperand}
use Rattle.il_model.specs.declared.written.WrittenInstr.{WrittenInstr}
use Rattle.il_model.specs.Forms.{FormWord, word, library_call, no_text, word_of}
use Rattle.il_model.specs.Ops.{Operand, form_of, operand_of}
use Rattle.il_model.specs.Names.{Scope}
use Rattle.il_model.specs.LookUp.{NamesOperand, names_nothing, names_int32, names_int64, names_literal, names_place, names_target, names_targets, names_type, names_method, names_field, names_constrained, NamesInstr}
use Rattle.il_model.specs.Canonical.{Word, comma, Printing, type_text, method_ref_words, literal_text, label_text, operand_words, form_words, op_words, between}
use Rattle.il_print.proofs.Keys.{Key, quoted, all_quoted, literal_key, label_key, keys_between, type_keys, method_ref_keys, operand_keys, form_keys, op_keys}
use Rattle.il_print.proofs.TokenReads.{IsToken, nothing_reads, is_quotable}
use Rattle.il_print.proofs.NumberTokens.{number_token, signed_token, label_token}
use Rattle.il_print.proofs.LiteralTokens.{literal_token}
use Rattle.il_print.proofs.WordReads.{Words, Starts, word_first, words_then, one_word, token_word, quoted_word, quoted_words, quoted_starts, nothing_starts, between_words, in_parentheses_read}
use Rattle.il_print.proofs.TypeReads.{IsReadable, type_read}
use Rattle.il_print.proofs.Spellable.{IsSpellableOperand}
use Rattle.il_print.proofs.PartReads.{of_each, method_ref_read, field_ref_read}

-- ---- operands

label_words : (places : List ℕ) (to : ℕ) → Words (label_text places to ∷ []) (label_key places to ∷ [])
label_words places to = token_word token.Word (label_text places to) [] [] (label_token places to) nothing_reads

labels_read : (places to : List ℕ) →
    Words (codes "(" ∷ between comma (map (λ n. label_text places n ∷ []) to) ++ codes ")" ∷ [])
    (quoted (codes "(") ∷ keys_between (codes ",") (map (λ n. label_key places n ∷ []) to) ++ quoted (codes ")") ∷ [])
labels_read places to =
    in_parentheses_read (between comma (map (λ n. label_text places n ∷ []) to)) (keys_between (codes ",") (map (λ n. label_key places n ∷ []) to))
    (between_words (λ n. label_text places n ∷ []) (λ n. label_key places n ∷ []) comma to refl
    (of_each (λ n. Words (label_text places n ∷ []) (label_key places n ∷ [])) (label_words places) to))

literal_read : (found : Option (List ℕ)) (bytes : List ℕ) → found ≡ Some bytes → IsToken token.Text (literal_text bytes) →
    Words (literal_text (unwrap_or found []) ∷ []) (literal_key (literal_text (unwrap_or found [])) ∷ [])
literal_read found bytes is spelled =
    subst (λ o. Words (literal_text (unwrap_or o []) ∷ []) (literal_key (literal_text (unwrap_or o [])) ∷ [])) (sym is)
    (token_word token.Text (literal_text bytes) [] [] spelled nothing_reads)

abbrev pub printing : Scope → List (List ℕ) → List ℕ → Printing
printing s literals places = record { names = s.names; literals = literals; places = places }

pub operand_read : (s : Scope) (literals : List (List ℕ)) (places : List ℕ) (labels : List (List ℕ × ℕ)) (written : WrittenOperand) (o : Operand) → IsReadable s →
    NamesOperand s literals labels written o → IsSpellableOperand written →
    Words (operand_words (printing s literals places) o) (operand_keys (printing s literals places) o)
operand_read s literals places labels written o r names_nothing spellable = nothing_reads
operand_read s literals places labels written o r (names_int32 n) spellable =
    token_word token.Number (signed_decimal n) [] [] (signed_token n spellable) nothing_reads
operand_read s literals places labels written o r (names_int64 n) spellable =
    token_word token.Number (signed_decimal n) [] [] (signed_token n spellable) nothing_reads
operand_read s literals places labels written o r (names_literal bytes number is) spellable =
    literal_read (slice_get literals number) bytes is (literal_token bytes spellable)
operand_read s literals places labels written o r (names_place number) spellable =
    token_word token.Number (decimal number) [] [] (number_token number spellable) nothing_reads
operand_read s literals places labels written o r (names_target w to named) spellable = label_words places to
operand_read s literals places labels written o r (names_targets w to named) spellable = labels_read places to
operand_read s literals places labels written o r (names_type w t named) spellable =
    one_word (type_text s.names t) (type_keys s.names t) (type_read s w t r named)
operand_read s literals places labels written o r (names_method w m named) spellable = method_ref_read s w m r named spellable
operand_read s literals places labels written o r (names_field w f named) spellable = field_ref_read s w f r named spellable
operand_read s literals places labels written o r (names_constrained w m t ref named method_named) spellable =
    word_first (type_text s.names t) (codes "callvirt" ∷ method_ref_words s.names ref) (type_keys s.names t)
    (quoted (codes "callvirt") ∷ method_ref_keys s.names ref) (type_read s w t r named)
    (quoted_word (codes "callvirt") (method_ref_words s.names ref) (method_ref_keys s.names ref) refl (method_ref_read s m ref r method_named spellable))

-- ---- instructions

-- each word and mark by which a form is spelled is a token
abbrev pub is_quotable_form : FormWord → Bool
is_quotable_form (word w) = is_quotable w
is_quotable_form (library_call first last) = list_all is_quotable first && list_all is_quotable last
is_quotable_form no_text = true

form_read : (f : FormWord) (ws : List Word) (ks : List Key) → is_quotable_form f ≡ true → Words ws ks → Starts (form_words f ws) (form_keys f ks)
form_read (word w) ws ks e read = quoted_starts w ws ks e read
form_read (library_call first last) ws ks e read =
    let parts = and_parts (list_all is_quotable first) (list_all is_quotable last) e in
    quoted_starts (codes "call") ((first ++ ws) ++ last) ((all_quoted first ++ ks) ++ all_quoted last) refl
    (words_then (first ++ ws) last (all_quoted first ++ ks) (all_quoted last) (words_then first ws (all_quoted first) ks (quoted_words first parts.0) read)
    (quoted_words last parts.1))
form_read no_text ws ks e read = nothing_starts

pub forms_quotable : (f : Form) → is_quotable_form (word_of f) ≡ true
forms_quotable form.Nop = refl
forms_quotable form.Dup = refl
forms_quotable form.Pop = refl
forms_quotable form.LdcI4 = refl
forms_quotable form.LdcI8 = refl
forms_quotable form.Ldnull = refl
forms_quotable form.Ldstr = refl
forms_quotable form.Ldarg = refl
forms_quotable form.Ldloc = refl
forms_quotable form.Ldarga = refl
forms_quotable form.Ldloca = refl
forms_quotable form.Starg = refl
forms_quotable form.Stloc = refl
forms_quotable form.Add = refl
forms_quotable form.Sub = refl
forms_quotable form.Mul = refl
forms_quotable form.And = refl
forms_quotable form.Or = refl
forms_quotable form.Xor = refl
forms_quotable form.AddOvf = refl
forms_quotable form.SubOvf = refl
forms_quotable form.MulOvf = refl
forms_quotable form.AddOvfUn = refl
forms_quotable form.SubOvfUn = refl
forms_quotable form.MulOvfUn = refl
forms_quotable form.Div = refl
forms_quotable form.Rem = refl
forms_quotable form.DivUn = refl
forms_quotable form.RemUn = refl
forms_quotable form.Shl = refl
forms_quotable form.Shr = refl
forms_quotable form.ShrUn = refl
forms_quotable form.Neg = refl
forms_quotable form.Not = refl
forms_quotable form.ConvI4 = refl
forms_quotable form.ConvI8 = refl
forms_quotable form.ConvU8 = refl
forms_quotable form.ConvOvfI4 = refl
forms_quotable form.Ceq = refl
forms_quotable form.Cgt = refl
forms_quotable form.CgtUn = refl
forms_quotable form.Clt = refl
forms_quotable form.CltUn = refl
forms_quotable form.Br = refl
forms_quotable form.Brtrue = refl
forms_quotable form.Brfalse = refl
forms_quotable form.Beq = refl
forms_quotable form.BneUn = refl
forms_quotable form.Bge = refl
forms_quotable form.Bgt = refl
forms_quotable form.Ble = refl
forms_quotable form.Blt = refl
forms_quotable form.BgeUn = refl
forms_quotable form.BgtUn = refl
forms_quotable form.BleUn = refl
forms_quotable form.BltUn = refl
forms_quotable form.Switch = refl
forms_quotable form.Leave = refl
forms_quotable form.Call = refl
forms_quotable form.Callvirt = refl
forms_quotable form.Constrained = refl
forms_quotable form.Newobj = refl
forms_quotable form.Ret = refl
forms_quotable form.Ldfld = refl
forms_quotable form.Stfld = refl
forms_quotable form.Ldflda = refl
forms_quotable form.Ldsfld = refl
forms_quotable form.Stsfld = refl
forms_quotable form.Ldsflda = refl
forms_quotable form.Ldobj = refl
forms_quotable form.Stobj = refl
forms_quotable form.Initobj = refl
forms_quotable form.Newarr = refl
forms_quotable form.Ldlen = refl
forms_quotable form.Ldelem = refl
forms_quotable form.Stelem = refl
forms_quotable form.Box = refl
forms_quotable form.UnboxAny = refl
forms_quotable form.Castclass = refl
forms_quotable form.Isinst = refl
forms_quotable form.Throw = refl
forms_quotable form.WriteLineInt32 = refl
forms_quotable form.WriteLineInt64 = refl
forms_quotable form.WriteLineString = refl
forms_quotable form.CompareExchangeInt32 = refl
forms_quotable form.CompareExchangeInt64 = refl
forms_quotable form.CompareExchangeObject = refl
forms_quotable form.ExchangeInt32 = refl
forms_quotable form.ExchangeInt64 = refl
forms_quotable form.ExchangeObject = refl
forms_quotable form.AddInt32 = refl
forms_quotable form.AddInt64 = refl
forms_quotable form.NameOf = refl
forms_quotable form.Start = refl
forms_quotable form.Join = refl
forms_quotable form.Endfinally = refl
forms_quotable form.Rethrow = refl
forms_quotable form.Ldftn = refl
forms_quotable form.Ldvirtftn = refl

pub op_read : (s : Scope) (literals : List (List ℕ)) (places : List ℕ) (labels : List (List ℕ × ℕ)) (written : WrittenInstr) (op : Op) → IsReadable s →
    NamesInstr s literals labels written op → IsSpellableOperand written.operand →
    Starts (op_words (printing s literals places) op) (op_keys (printing s literals places) op)
op_read s literals places labels written op r named spellable =
    form_read (word_of (form_of op)) (operand_words (printing s literals places) (operand_of op)) (operand_keys (printing s literals places) (operand_of op))
    (forms_quotable (form_of op)) (operand_read s literals places labels written.operand (operand_of op) r named.operand spellable)
