-- The word of an instruction is found again: the long words, the short ones, and those of calls of the library.
use Rattle.std.proofs.Common.{◌≡◌, ℕ, Bool, true, false, List, [], ◌∷◌, Some, refl, ap, subst, find, Contains}
use Rattle.std.specs.List.{AllByRecursion}
use Rattle.il_model.specs.declared.form.Form.{Form}
use Rattle.il_model.specs.declared.form.Form.TheVariants as form
use Rattle.il_model.specs.Forms.{called_method, FormWord, word, library_call, no_text, word_of, operand_kind}
use Rattle.il_model.specs.Spellings.{short_words, Shortened, shortened}
use Rattle.il_parse.specs.Mnemonics.{all_forms, form_of_word, calls, takes, holds, is_whole_call, mnemonic_of}
use Rattle.il_parse.proofs.Finding.{all_contains}
use Rattle.il_parse.proofs.WordsSound.{is_called}

-- what the word of a form says, where the form takes a called method and where it doesn't
abbrev Says : Form → List ℕ → Bool → Type 0
Says f bytes true = (mnemonic_of bytes ≡ Some calls) × (f ≡ form.Call)
Says f bytes false = mnemonic_of bytes ≡ Some (takes f)

abbrev OwnWord : Form → FormWord → Type 0
OwnWord f (word bytes) = Says f bytes (is_called (operand_kind f))
OwnWord f (library_call first last) = Unit {0}
OwnWord f no_text = Unit {0}

own_word : (f : Form) → OwnWord f (word_of f)
unfolding mnemonic_of form_of_word
own_word form.Nop = refl
own_word form.Dup = refl
own_word form.Pop = refl
own_word form.LdcI4 = refl
own_word form.LdcI8 = refl
own_word form.Ldnull = refl
own_word form.Ldstr = refl
own_word form.Ldarg = refl
own_word form.Ldloc = refl
own_word form.Ldarga = refl
own_word form.Ldloca = refl
own_word form.Starg = refl
own_word form.Stloc = refl
own_word form.Add = refl
own_word form.Sub = refl
own_word form.Mul = refl
own_word form.And = refl
own_word form.Or = refl
own_word form.Xor = refl
own_word form.AddOvf = refl
own_word form.SubOvf = refl
own_word form.MulOvf = refl
own_word form.AddOvfUn = refl
own_word form.SubOvfUn = refl
own_word form.MulOvfUn = refl
own_word form.Div = refl
own_word form.Rem = refl
own_word form.DivUn = refl
own_word form.RemUn = refl
own_word form.Shl = refl
own_word form.Shr = refl
own_word form.ShrUn = refl
own_word form.Neg = refl
own_word form.Not = refl
own_word form.ConvI4 = refl
own_word form.ConvI8 = refl
own_word form.ConvU8 = refl
own_word form.ConvOvfI4 = refl
own_word form.Ceq = refl
own_word form.Cgt = refl
own_word form.CgtUn = refl
own_word form.Clt = refl
own_word form.CltUn = refl
own_word form.Br = refl
own_word form.Brtrue = refl
own_word form.Brfalse = refl
own_word form.Beq = refl
own_word form.BneUn = refl
own_word form.Bge = refl
own_word form.Bgt = refl
own_word form.Ble = refl
own_word form.Blt = refl
own_word form.BgeUn = refl
own_word form.BgtUn = refl
own_word form.BleUn = refl
own_word form.BltUn = refl
own_word form.Switch = refl
own_word form.Leave = refl
own_word form.Call = (refl, refl)
own_word form.Callvirt = refl
own_word form.Constrained = refl
own_word form.Newobj = refl
own_word form.Ret = refl
own_word form.Ldfld = refl
own_word form.Stfld = refl
own_word form.Ldflda = refl
own_word form.Ldsfld = refl
own_word form.Stsfld = refl
own_word form.Ldsflda = refl
own_word form.Ldobj = refl
own_word form.Stobj = refl
own_word form.Initobj = refl
own_word form.Newarr = refl
own_word form.Ldlen = refl
own_word form.Ldelem = refl
own_word form.Stelem = refl
own_word form.Box = refl
own_word form.UnboxAny = refl
own_word form.Castclass = refl
own_word form.Isinst = refl
own_word form.Throw = refl
own_word form.WriteLineInt32 = tt
own_word form.WriteLineInt64 = tt
own_word form.WriteLineString = tt
own_word form.CompareExchangeInt32 = tt
own_word form.CompareExchangeInt64 = tt
own_word form.CompareExchangeObject = tt
own_word form.ExchangeInt32 = tt
own_word form.ExchangeInt64 = tt
own_word form.ExchangeObject = tt
own_word form.AddInt32 = tt
own_word form.AddInt64 = tt
own_word form.NameOf = tt
own_word form.Start = tt
own_word form.Join = tt
own_word form.Endfinally = tt
own_word form.Rethrow = tt
own_word form.Ldftn = tt
own_word form.Ldvirtftn = tt

pub long_says : (f : Form) (bytes : List ℕ) → word_of f ≡ word bytes → is_called (operand_kind f) ≡ false → mnemonic_of bytes ≡ Some (takes f)
long_says f bytes is free = subst (Says f bytes) free (subst (OwnWord f) is (own_word f))

pub call_says : (f : Form) (bytes : List ℕ) → word_of f ≡ word bytes → operand_kind f ≡ called_method → (mnemonic_of bytes ≡ Some calls) × (f ≡ form.Call)
call_says f bytes is kind = subst (Says f bytes) (ap is_called kind) (subst (OwnWord f) is (own_word f))

short_rows : AllByRecursion (λ (row : List ℕ × Form). mnemonic_of row.0 ≡ Some (takes row.1)) short_words
unfolding mnemonic_of form_of_word
short_rows = (refl, (refl, (refl, (refl, (refl, (refl, (refl, (refl, (refl, (refl, (refl, (refl, (refl, (refl, (refl, (refl, (refl, (refl, (refl, (refl, (refl, tt)))))))))))))))))))))

pub short_says : (f : Form) (bytes : List ℕ) → Contains short_words (bytes, f) → mnemonic_of bytes ≡ Some (takes f)
short_says f bytes c = all_contains (λ (row : List ℕ × Form). mnemonic_of row.0 ≡ Some (takes row.1)) short_words (bytes, f) short_rows c

whole_rows : AllByRecursion (λ (row : Shortened). mnemonic_of row.word ≡ Some (holds row.form row.operand)) shortened
unfolding mnemonic_of form_of_word
whole_rows = (refl, (refl, (refl, (refl, (refl, (refl, (refl, (refl, (refl, (refl, (refl, (refl, (refl, (refl, (refl, (refl, (refl, (refl, (refl, (refl, (refl, (refl, (refl, (refl, (refl, (refl, (refl, (refl, (refl, (refl, (refl, (refl, tt))))))))))))))))))))))))))))))))

pub whole_says : (row : Shortened) → Contains shortened row → mnemonic_of row.word ≡ Some (holds row.form row.operand)
whole_says row c = all_contains (λ (r : Shortened). mnemonic_of r.word ≡ Some (holds r.form r.operand)) shortened row whole_rows c

-- a call of the library without an end is found by its words, and one with an end is `NameOf`
abbrev OwnCall : Form → FormWord → Type 0
OwnCall f (word bytes) = Unit {0}
OwnCall f (library_call first []) = find (λ g. is_whole_call first (word_of g)) all_forms ≡ Some f
OwnCall f (library_call first (l ∷ ls)) = f ≡ form.NameOf
OwnCall f no_text = Unit {0}

own_call : (f : Form) → OwnCall f (word_of f)
own_call form.Nop = tt
own_call form.Dup = tt
own_call form.Pop = tt
own_call form.LdcI4 = tt
own_call form.LdcI8 = tt
own_call form.Ldnull = tt
own_call form.Ldstr = tt
own_call form.Ldarg = tt
own_call form.Ldloc = tt
own_call form.Ldarga = tt
own_call form.Ldloca = tt
own_call form.Starg = tt
own_call form.Stloc = tt
own_call form.Add = tt
own_call form.Sub = tt
own_call form.Mul = tt
own_call form.And = tt
own_call form.Or = tt
own_call form.Xor = tt
own_call form.AddOvf = tt
own_call form.SubOvf = tt
own_call form.MulOvf = tt
own_call form.AddOvfUn = tt
own_call form.SubOvfUn = tt
own_call form.MulOvfUn = tt
own_call form.Div = tt
own_call form.Rem = tt
own_call form.DivUn = tt
own_call form.RemUn = tt
own_call form.Shl = tt
own_call form.Shr = tt
own_call form.ShrUn = tt
own_call form.Neg = tt
own_call form.Not = tt
own_call form.ConvI4 = tt
own_call form.ConvI8 = tt
own_call form.ConvU8 = tt
own_call form.ConvOvfI4 = tt
own_call form.Ceq = tt
own_call form.Cgt = tt
own_call form.CgtUn = tt
own_call form.Clt = tt
own_call form.CltUn = tt
own_call form.Br = tt
own_call form.Brtrue = tt
own_call form.Brfalse = tt
own_call form.Beq = tt
own_call form.BneUn = tt
own_call form.Bge = tt
own_call form.Bgt = tt
own_call form.Ble = tt
own_call form.Blt = tt
own_call form.BgeUn = tt
own_call form.BgtUn = tt
own_call form.BleUn = tt
own_call form.BltUn = tt
own_call form.Switch = tt
own_call form.Leave = tt
own_call form.Call = tt
own_call form.Callvirt = tt
own_call form.Constrained = tt
own_call form.Newobj = tt
own_call form.Ret = tt
own_call form.Ldfld = tt
own_call form.Stfld = tt
own_call form.Ldflda = tt
own_call form.Ldsfld = tt
own_call form.Stsfld = tt
own_call form.Ldsflda = tt
own_call form.Ldobj = tt
own_call form.Stobj = tt
own_call form.Initobj = tt
own_call form.Newarr = tt
own_call form.Ldlen = tt
own_call form.Ldelem = tt
own_call form.Stelem = tt
own_call form.Box = tt
own_call form.UnboxAny = tt
own_call form.Castclass = tt
own_call form.Isinst = tt
own_call form.Throw = tt
own_call form.WriteLineInt32 = refl
own_call form.WriteLineInt64 = refl
own_call form.WriteLineString = refl
own_call form.CompareExchangeInt32 = refl
own_call form.CompareExchangeInt64 = refl
own_call form.CompareExchangeObject = refl
own_call form.ExchangeInt32 = refl
own_call form.ExchangeInt64 = refl
own_call form.ExchangeObject = refl
own_call form.AddInt32 = refl
own_call form.AddInt64 = refl
own_call form.NameOf = refl
own_call form.Start = refl
own_call form.Join = refl
own_call form.Endfinally = tt
own_call form.Rethrow = tt
own_call form.Ldftn = tt
own_call form.Ldvirtftn = tt

pub call_found : (f : Form) (words : List (List ℕ)) → word_of f ≡ library_call words [] → find (λ g. is_whole_call words (word_of g)) all_forms ≡ Some f
call_found f words is = subst (OwnCall f) is (own_call f)

pub ended_is_name : (f : Form) (first : List (List ℕ)) (l : List ℕ) (ls : List (List ℕ)) → word_of f ≡ library_call first (l ∷ ls) → f ≡ form.NameOf
ended_is_name f first l ls is = subst (OwnCall f) is (own_call f)
