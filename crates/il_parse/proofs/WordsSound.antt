-- What a word of an instruction is taken to say is what it says.
use Rattle.std.proofs.Common.{◌≡◌, ℕ, Bool, true, false, not, ◌||◌, List, [], ◌∷◌, Option, Some, None, refl, sym, ap, subst, ◌∙◌, codes, inl, inr, arith, bytes_eq, if◌then◌else◌, find, Contains, option_map}
use Rattle.std.specs.List.{list_all, AllByRecursion}
use Rattle.il_model.specs.declared.written.WrittenType.TheVariants as w
use Rattle.il_model.specs.Bounds.{types_of_operand}
use Rattle.il_parse.proofs.TypesSound.{positions-int32, positions-int64, positions-object}
use Rattle.il_parse.proofs.ListsSound.{AreSmall}
use Rattle.std.proofs.lemmas.Bool.{true≢false, cases_Bool}
use Rattle.std.proofs.lemmas.Slice.Eq.{bytes_eq-Decides}
use Rattle.il_model.specs.declared.form.Form.{Form}
use Rattle.il_model.specs.Forms.{OperandKind, no_operand, int32_literal, int64_literal, text_literal, place, label, labels, type_operand, called_method, method_operand, field_operand, constrained_method, FormWord, word, library_call, no_text, word_of, operand_kind}
use Rattle.il_model.specs.Spellings.{short_words, Shortened, shortened}
use Rattle.il_parse.specs.Mnemonics.{all_forms, is_the_word, form_of_word, Mnemonic, calls, takes, holds, or_else, mnemonic_of}
use Rattle.il_parse.proofs.Finding.{found_in, found_passes, found_holds, some_is, none_is}

abbrev pub is_called : OperandKind → Bool
is_called no_operand = false
is_called int32_literal = false
is_called int64_literal = false
is_called text_literal = false
is_called place = false
is_called label = false
is_called labels = false
is_called type_operand = false
is_called called_method = true
is_called method_operand = false
is_called field_operand = false
is_called constrained_method = false

-- what a word says
pub data Meant (bytes : List ℕ) : Mnemonic → Type 0 where
  meant_call : codes "call" ≡ bytes → Meant bytes calls
  meant_long : (f : Form) → word_of f ≡ word bytes → is_called (operand_kind f) ≡ false → Meant bytes (takes f)
  meant_short : (f : Form) → Contains short_words (bytes, f) → is_called (operand_kind f) ≡ false → Meant bytes (takes f)
  meant_whole : (row : Shortened) → Contains shortened row → row.word ≡ bytes → AreSmall (types_of_operand row.operand) →
      Meant bytes (holds row.form row.operand)

-- only `call` takes a called method
only_call : Form → Bool
only_call f = not (is_called (operand_kind f)) || is_the_word (codes "call") (word_of f)

all_only_call : list_all only_call all_forms ≡ true
unfolding only_call
all_only_call = refl

short_only_call : list_all (λ (row : List ℕ × Form). not (is_called (operand_kind row.1))) short_words ≡ true
short_only_call = refl

the_word : (bytes : List ℕ) (w : FormWord) → is_the_word bytes w ≡ true → w ≡ word bytes
the_word bytes (word spelling) e = ap word ((bytes_eq-Decides spelling bytes).0 e)
the_word bytes (library_call first last) e = absurd (true≢false (sym e))
the_word bytes no_text e = absurd (true≢false (sym e))

abbrev spelled_by : FormWord → List ℕ
spelled_by (word spelling) = spelling
spelled_by (library_call first last) = []
spelled_by no_text = []

not_called : (bytes : List ℕ) (f : Form) → bytes_eq (codes "call") bytes ≡ false → word_of f ≡ word bytes → only_call f ≡ true → is_called (operand_kind f) ≡ false
unfolding only_call
not_called bytes f other is e =
    elim (cases_Bool (is_called (operand_kind f))) [
      | inl called ↦
          let e2 : is_the_word (codes "call") (word_of f) ≡ true = ap (λ b. not b || is_the_word (codes "call") (word_of f)) (sym called) ∙ e in
          let same : codes "call" ≡ bytes = sym (ap spelled_by (the_word (codes "call") (word_of f) e2)) ∙ ap spelled_by is in
          absurd (true≢false (sym ((bytes_eq-Decides (codes "call") bytes).1 same) ∙ other))
      | inr free ↦ free
    ]

flipped : (b : Bool) → not b ≡ true → b ≡ false
flipped true e = absurd (true≢false (sym e))
flipped false e = refl

small_int32 : AreSmall (w.Int32 ∷ [])
small_int32 = (omega (arith, positions-int32), tt)

small_int64 : AreSmall (w.Int64 ∷ [])
small_int64 = (omega (arith, positions-int64), tt)

small_object : AreSmall (w.Object ∷ [])
small_object = (omega (arith, positions-object), tt)

shortened_small : AllByRecursion (λ (row : Shortened). AreSmall (types_of_operand row.operand)) shortened
shortened_small =
    (tt, (tt, (tt, (tt, (tt, (tt, (tt, (tt, (tt, (tt, (tt, (tt, (tt, (tt, (tt, (tt, (tt, (tt, (tt, (tt, (tt, (tt, (small_int32, (small_int64, (small_object, (small_int32, (small_int64, (small_object, (small_int32, (small_int64, (small_int32, (small_int64, tt))))))))))))))))))))))))))))))))

whole_sound : (bytes : List ℕ) (o : Option Shortened) (says : Mnemonic) → find (λ row. bytes_eq row.word bytes) shortened ≡ o →
    option_map (λ row. holds row.form row.operand) o ≡ Some says → Meant bytes says
whole_sound bytes None says found e = none_is says e
whole_sound bytes (Some row) says found e =
    let f = found_in (λ r. bytes_eq r.word bytes) shortened row found in
    subst (Meant bytes) (some_is (holds row.form row.operand) says e) (meant_whole row f.0 ((bytes_eq-Decides row.word bytes).0 f.1)
    (found_holds (λ (r : Shortened). AreSmall (types_of_operand r.operand)) (λ r. bytes_eq r.word bytes) shortened row shortened_small found))

short_sound : (bytes : List ℕ) (o : Option (List ℕ × Form)) (says : Mnemonic) → find (λ row. bytes_eq row.0 bytes) short_words ≡ o →
    or_else (option_map (λ row. takes row.1) o) (option_map (λ row. holds row.form row.operand) (find (λ row. bytes_eq row.word bytes) shortened)) ≡ Some says → Meant bytes says
short_sound bytes None says found e = whole_sound bytes (find (λ row. bytes_eq row.word bytes) shortened) says refl e
short_sound bytes (Some row) says found e =
    let f = found_in (λ r. bytes_eq r.0 bytes) short_words row found in
    let p = found_passes (λ (r : List ℕ × Form). not (is_called (operand_kind r.1))) (λ r. bytes_eq r.0 bytes) short_words row short_only_call found in
    let same : row.0 ≡ bytes = (bytes_eq-Decides row.0 bytes).0 f.1 in
    subst (Meant bytes) (some_is (takes row.1) says e)
    (meant_short row.1 (subst (λ b. Contains short_words (b, row.1)) same f.0) (flipped (is_called (operand_kind row.1)) p))

long_sound : (bytes : List ℕ) (o : Option Form) (says : Mnemonic) → bytes_eq (codes "call") bytes ≡ false → find (λ f. is_the_word bytes (word_of f)) all_forms ≡ o →
    or_else (option_map takes o) (or_else (option_map (λ row. takes row.1) (find (λ row. bytes_eq row.0 bytes) short_words))
    (option_map (λ row. holds row.form row.operand) (find (λ row. bytes_eq row.word bytes) shortened))) ≡ Some says → Meant bytes says
long_sound bytes None says other found e = short_sound bytes (find (λ row. bytes_eq row.0 bytes) short_words) says refl e
long_sound bytes (Some f) says other found e =
    let g = found_in (λ h. is_the_word bytes (word_of h)) all_forms f found in
    let is = the_word bytes (word_of f) g.1 in
    subst (Meant bytes) (some_is (takes f) says e)
    (meant_long f is (not_called bytes f other is (found_passes only_call (λ h. is_the_word bytes (word_of h)) all_forms f all_only_call found)))

chosen : {C : Type 0} (b c : Bool) (x y : Option Mnemonic) (says : Mnemonic) → b ≡ c → (if c then x else y) ≡ Some says →
    (b ≡ true → x ≡ Some says → C) → (b ≡ false → y ≡ Some says → C) → C
chosen b true x y says is e first other = first is e
chosen b false x y says is e first other = other is e

pub mnemonic_sound : (bytes : List ℕ) (says : Mnemonic) → mnemonic_of bytes ≡ Some says → Meant bytes says
unfolding mnemonic_of form_of_word
mnemonic_sound bytes says e =
    chosen (bytes_eq (codes "call") bytes) (bytes_eq (codes "call") bytes) (Some calls) _ says refl e
    (λ hit same. subst (Meant bytes) (some_is calls says same) (meant_call ((bytes_eq-Decides (codes "call") bytes).0 hit)))
    (λ miss rest. long_sound bytes (find (λ f. is_the_word bytes (word_of f)) all_forms) says miss refl rest)
