-- Instructions of the grammar are read as themselves.
use Rattle.std.proofs.Common.{◌≡◌, ℕ, Bool, true, false, not, ◌&&◌, List, [], ◌∷◌, ◌++◌, Some, None, Ok, refl, sym, ap, subst, ◌∙◌, codes, bytes_eq, inl, inr, Contains}
use Rattle.std.specs.List.{AllByRecursion, list_all}
use Rattle.std.proofs.lemmas.Bool.{true≢false, cases_Bool, not-true, and_parts}
use Rattle.std.proofs.lemmas.Slice.Eq.{bytes_eq-Decides}
use Rattle.il_text.specs.declared.token.TokenKind.TheVariants as token
use Rattle.il_text.specs.Spelling.{spells, is_variable, is_number, is_text, is_mark}
use Rattle.il_model.specs.declared.form.Form.{Form}
use Rattle.il_model.specs.declared.written.WrittenOperand.{WrittenOperand}
use Rattle.il_model.specs.declared.written.WrittenOperand.TheVariants as operand
use Rattle.il_model.specs.declared.written.WrittenInstr.{WrittenInstr}
use Rattle.il_model.specs.Lexemes.{Lexeme, Is}
use Rattle.il_model.specs.Bounds.{types_of_operand}
use Rattle.il_model.specs.Forms.{OperandKind, FormWord, word, library_call, no_text, word_of, operand_kind}
use Rattle.il_model.specs.Spellings.{short_words, Shortened, shortened}
use Rattle.il_model.specs.Instructions.{IsOperand, nothing, int32_number, int64_number, text, place_number, target, targets, type, called, method, field, constrained, IsLibraryCall, IsInstr, long, library, short, short_whole}
use Rattle.il_parse.specs.Reading.{sees}
use Rattle.il_parse.specs.Mnemonics.{all_forms, Mnemonic, calls, takes, holds, mnemonic_of}
use Rattle.il_parse.specs.Operands.{read_operand, read_call, read_meaning, read_instr}
use Rattle.il_parse.proofs.Finding.{none_is, all_contains}
use Rattle.il_parse.proofs.Steps.{AreSpelled, by_step}
use Rattle.il_parse.proofs.ListsSound.{AreSmall}
use Rattle.il_parse.proofs.InstrsSound.{types_of_instr}
use Rattle.il_parse.proofs.FormsListed.{every_form}
use Rattle.il_parse.proofs.NameOfCalls.{word_only}
use Rattle.il_parse.proofs.WordsSound.{is_called, Meant, meant_call, meant_long, meant_short, meant_whole, mnemonic_sound}
use Rattle.il_parse.proofs.WordsComplete.{long_says, call_says, short_says, whole_says}
use Rattle.il_parse.proofs.ListsComplete.{Ends}
use Rattle.il_parse.proofs.OperandsComplete.{operand_complete, operand_begins, ref_begins}
use Rattle.il_parse.proofs.CallsComplete.{method_called, library_ref, library_called}

-- the bytes spell a word alone
abbrev is_alone : List ℕ → Bool
is_alone bytes = not (is_variable bytes) && (not (is_number bytes) && (not (is_text bytes) && not (is_mark bytes)))

abbrev has_lone_word : FormWord → Bool
has_lone_word (word bytes) = is_alone bytes
has_lone_word (library_call first last) = true
has_lone_word no_text = true

lone_word : Form → Bool
lone_word f = has_lone_word (word_of f)

all_lone_words : list_all lone_word all_forms ≡ true
unfolding lone_word
all_lone_words = refl

short_lone : AllByRecursion (λ (row : List ℕ × Form). is_alone row.0 ≡ true) short_words
short_lone = (refl, (refl, (refl, (refl, (refl, (refl, (refl, (refl, (refl, (refl, (refl, (refl, (refl, (refl, (refl, (refl, (refl, (refl, (refl, (refl, (refl, tt)))))))))))))))))))))

whole_lone : AllByRecursion (λ (row : Shortened). is_alone row.word ≡ true) shortened
whole_lone = (refl, (refl, (refl, (refl, (refl, (refl, (refl, (refl, (refl, (refl, (refl, (refl, (refl, (refl, (refl, (refl, (refl, (refl, (refl, (refl, (refl, (refl, (refl, (refl, (refl, (refl, (refl, (refl, (refl, (refl, (refl, (refl, tt))))))))))))))))))))))))))))))))

long_alone : (f : Form) (bytes : List ℕ) → word_of f ≡ word bytes → is_alone bytes ≡ true
unfolding lone_word
long_alone f bytes is =
    let p : lone_word f ≡ true = every_form lone_word f all_lone_words in
    ap has_lone_word (sym is) ∙ p

meant_alone : (bytes : List ℕ) (says : Mnemonic) → Meant bytes says → is_alone bytes ≡ true
meant_alone bytes says (meant_call same) = ap is_alone (sym same)
meant_alone bytes says (meant_long f is free) = long_alone f bytes is
meant_alone bytes says (meant_short f c free) = all_contains (λ (row : List ℕ × Form). is_alone row.0 ≡ true) short_words (bytes, f) short_lone c
meant_alone bytes says (meant_whole row c same small) =
    ap is_alone (sym same) ∙ all_contains (λ (r : Shortened). is_alone r.word ≡ true) shortened row whole_lone c

-- a lexeme that spells the word of an instruction is a word
pub says_word : (l : Lexeme) (says : Mnemonic) → mnemonic_of l.bytes ≡ Some says → spells l.kind l.bytes ≡ true → l.kind ≡ token.Word
says_word l says e s =
    let alone = meant_alone l.bytes says (mnemonic_sound l.bytes says e) in
    let a = and_parts (not (is_variable l.bytes)) _ alone in
    let b = and_parts (not (is_number l.bytes)) _ a.1 in
    let c = and_parts (not (is_text l.bytes)) (not (is_mark l.bytes)) b.1 in
    word_only l.kind l.bytes s (not-true (is_variable l.bytes) a.0) (not-true (is_number l.bytes) b.0) (not-true (is_text l.bytes) c.0) (not-true (is_mark l.bytes) c.1)

-- a word that is none of an instruction's doesn't stand there
pub says_other : (m : List ℕ) → mnemonic_of m ≡ None → (bytes : List ℕ) (says : Mnemonic) → mnemonic_of bytes ≡ Some says → bytes_eq m bytes ≡ false
says_other m none bytes says e =
    elim (cases_Bool (bytes_eq m bytes)) [
      | inl hit ↦ none_is says (sym none ∙ ap mnemonic_of ((bytes_eq-Decides m bytes).0 hit) ∙ e)
      | inr miss ↦ miss
    ]

-- an instruction: its word, and what follows, which is read as the instruction where nothing stands behind that goes on with a type
pub record InstrFront (front : List Lexeme) (i : WrittenInstr) : Type 0 where
  pub word : Lexeme
  pub inner : List Lexeme
  pub says : Mnemonic
  pub split : front ≡ word ∷ inner
  pub is : mnemonic_of word.bytes ≡ Some says
  pub read : (back : List Lexeme) → Ends back → read_instr word.at says (inner ++ back) ≡ Ok (i, back)
  pub no_colon : (back : List Lexeme) → sees (codes ":") back ≡ false → sees (codes ":") (inner ++ back) ≡ false

meaning_read : (at : ℕ) (says : Mnemonic) (ws : List Lexeme) (f : Form) (o : WrittenOperand) (back : List Lexeme) → read_meaning says ws ≡ Ok ((f, o), back) →
    read_instr at says ws ≡ Ok (record { at = at; form = f; operand = o }, back)
unfolding read_instr
meaning_read at says ws f o back e = by_step (read_meaning says ws) _ _ (f, o) back e refl

takes_read : (f : Form) → is_called (operand_kind f) ≡ false → (front : List Lexeme) (o : WrittenOperand) (back : List Lexeme) → IsOperand (operand_kind f) front o →
    AreSmall (types_of_operand o) → AreSpelled front → Ends back → read_meaning (takes f) (front ++ back) ≡ Ok ((f, o), back)
unfolding read_meaning
takes_read f free front o back is small s ends =
    by_step (read_operand (operand_kind f) (front ++ back)) _ _ o back (operand_complete (operand_kind f) free front o back is small s ends) refl

calls_read : (front : List Lexeme) (f : Form) (o : WrittenOperand) (back : List Lexeme) → read_call (front ++ back) ≡ Ok ((f, o), back) →
    read_meaning calls (front ++ back) ≡ Ok ((f, o), back)
unfolding read_meaning
calls_read front f o back e = e

-- a form whose operand follows its word
by_takes : (l : Lexeme) (ws : List Lexeme) (f : Form) (o : WrittenOperand) → mnemonic_of l.bytes ≡ Some (takes f) → is_called (operand_kind f) ≡ false →
    IsOperand (operand_kind f) ws o → AreSmall (types_of_operand o) → AreSpelled ws → InstrFront (l ∷ ws) (record { at = l.at; form = f; operand = o })
by_takes l ws f o says free is small s = record {
  word = l;
  inner = ws;
  says = takes f;
  split = refl;
  is = says;
  read = λ back ends. meaning_read l.at (takes f) (ws ++ back) f o back (takes_read f free ws o back is small s ends);
  no_colon = λ back miss. operand_begins (operand_kind f) ws o back is s miss;
}

-- a call of a method
by_call : (l : Lexeme) (ws : List Lexeme) (f : Form) (o : WrittenOperand) (k : OperandKind) → word_of f ≡ word l.bytes → operand_kind f ≡ k → is_called k ≡ true →
    IsOperand k ws o → AreSmall (types_of_operand o) → AreSpelled ws → InstrFront (l ∷ ws) (record { at = l.at; form = f; operand = o })
by_call l ws f o k is kind calling (called same m is_m none) small s =
    let says = call_says f l.bytes is kind in
    record {
      word = l;
      inner = ws;
      says = calls;
      split = refl;
      is = says.0;
      read = λ back ends. meaning_read l.at calls (ws ++ back) f (operand.Method m) back
          (calls_read ws f (operand.Method m) back (subst (λ g. read_call (ws ++ back) ≡ Ok ((g, operand.Method m), back)) (sym says.1) (method_called ws m back is_m small s none)));
      no_colon = λ back miss. ref_begins (codes ":") refl refl ws m back is_m s;
    }
by_call l ws f o k is kind calling nothing small s = absurd (true≢false (sym calling))
by_call l ws f o k is kind calling (int32_number x n i e) small s = absurd (true≢false (sym calling))
by_call l ws f o k is kind calling (int64_number x n i e) small s = absurd (true≢false (sym calling))
by_call l ws f o k is kind calling (text x i) small s = absurd (true≢false (sym calling))
by_call l ws f o k is kind calling (place_number x n i e) small s = absurd (true≢false (sym calling))
by_call l ws f o k is kind calling (target same to i) small s = absurd (true≢false (sym calling))
by_call l ws f o k is kind calling (targets same inner left right to split a sep b) small s = absurd (true≢false (sym calling))
by_call l ws f o k is kind calling (type same t i) small s = absurd (true≢false (sym calling))
by_call l ws f o k is kind calling (method same m i) small s = absurd (true≢false (sym calling))
by_call l ws f o k is kind calling (field same g i) small s = absurd (true≢false (sym calling))
by_call l ws f o k is kind calling (constrained same kind_of named x t m split i h j) small s = absurd (true≢false (sym calling))

by_library : (l : Lexeme) (ws : List Lexeme) (f : Form) (o : WrittenOperand) → Is (codes "call") l → IsLibraryCall ws f o → AreSmall (types_of_operand o) → AreSpelled ws →
    InstrFront (l ∷ ws) (record { at = l.at; form = f; operand = o })
unfolding mnemonic_of
by_library l ws f o same is small s =
    let r = library_ref ws f o is small s in
    record {
      word = l;
      inner = ws;
      says = calls;
      split = refl;
      is = ap mnemonic_of same;
      read = λ back ends. meaning_read l.at calls (ws ++ back) f o back (calls_read ws f o back (library_called ws f o back r s));
      no_colon = λ back miss. ref_begins (codes ":") refl refl ws r.named back r.is s;
    }

whole_read : (l : Lexeme) (row : Shortened) (back : List Lexeme) → read_meaning (holds row.form row.operand) back ≡ Ok ((row.form, row.operand), back)
unfolding read_meaning
whole_read l row back = refl

short_free : (f : Form) (bytes : List ℕ) → Contains short_words (bytes, f) → is_called (operand_kind f) ≡ false
short_free f bytes c = all_contains (λ (row : List ℕ × Form). is_called (operand_kind row.1) ≡ false) short_words (bytes, f) (refl, (refl, (refl, (refl, (refl, (refl, (refl, (refl, (refl, (refl, (refl, (refl, (refl, (refl, (refl, (refl, (refl, (refl, (refl, (refl, (refl, tt))))))))))))))))))))) c

long_front : (l : Lexeme) (ws : List Lexeme) (f : Form) (o : WrittenOperand) → word_of f ≡ word l.bytes → IsOperand (operand_kind f) ws o → AreSmall (types_of_operand o) →
    AreSpelled ws → InstrFront (l ∷ ws) (record { at = l.at; form = f; operand = o })
long_front l ws f o is has small s =
    elim (cases_Bool (is_called (operand_kind f))) [
      | inl calling ↦ by_call l ws f o (operand_kind f) is refl calling has small s
      | inr free ↦ by_takes l ws f o (long_says f l.bytes is free) free has small s
    ]

pub instr_front : (front : List Lexeme) (i : WrittenInstr) → IsInstr front i → AreSmall (types_of_instr i) → AreSpelled front → InstrFront front i
instr_front front i (long l ws f o is has) small s = long_front l ws f o is has small s.1
instr_front front i (library l ws f o same is) small s = by_library l ws f o same is small s.1
instr_front front i (short l ws f o c has) small s = by_takes l ws f o (short_says f l.bytes c) (short_free f l.bytes c) has small s.1
instr_front front i (short_whole l row c same) small s = record {
  word = l;
  inner = [];
  says = holds row.form row.operand;
  split = refl;
  is = ap mnemonic_of same ∙ whole_says row c;
  read = λ back ends. meaning_read l.at (holds row.form row.operand) back row.form row.operand back (whole_read l row back);
  no_colon = λ back miss. miss;
}
