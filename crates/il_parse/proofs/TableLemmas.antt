-- The tables of instruction words are those of the definitions.
use Rattle.std.proofs.Common.{◌≡◌, ℕ, Bool, true, false, List, [], ◌∷◌, map, Option, Some, refl}
use Rattle.std.specs.Prelude.{option_map, if◌then◌else◌, bytes_eq}
use Rattle.std.specs.List.{find}
use Rattle.il_model.specs.declared.form.Form.{Form}
use Rattle.il_model.specs.Spellings.{Shortened, short_words}
use Rattle.il_parse.specs.declared.mnemonics.Held.{Held}
use Rattle.il_parse.specs.declared.mnemonics.TheConstants.{LONG_WORDS, SHORT_WORDS, WHOLE_WORDS}
use Rattle.il_parse.specs.Mnemonics.{Mnemonic, takes, holds, form_of_word}
use Rattle.il_parse.specs.Tables.{form_in, whole_in, short_form, whole_form, held_operand}

pub long_is : (bytes : List ℕ) → form_in (map (λ row. (row.0.now, row.1)) LONG_WORDS) bytes ≡ form_of_word bytes
unfolding form_of_word
long_is bytes = refl

-- a row, or what is found in the rows behind it
row_or : (b : Bool) (row : List ℕ × Form) (o : Option Form) (r : Option (List ℕ × Form)) → option_map takes o ≡ option_map (λ x. takes x.1) r →
    option_map takes (if b then Some row.1 else o) ≡ option_map (λ x. takes x.1) (if b then Some row else r)
row_or true row o r e = refl
row_or false row o r e = e

found_by : (rows : List (List ℕ × Form)) (bytes : List ℕ) →
    option_map takes (form_in rows bytes) ≡ option_map (λ x. takes x.1) (find (λ x. bytes_eq x.0 bytes) rows)
found_by [] bytes = refl
found_by (row ∷ rows) bytes = row_or (bytes_eq row.0 bytes) row (form_in rows bytes) (find (λ x. bytes_eq x.0 bytes) rows) (found_by rows bytes)

pub short_is : (bytes : List ℕ) → option_map takes (form_in (map (λ row. (row.0.now, row.1)) SHORT_WORDS) bytes) ≡ short_form bytes
unfolding short_form
short_is bytes = found_by short_words bytes

abbrev whole_row : List ℕ × (Form × Held) → Shortened
whole_row row = record { word = row.0; form = row.1.0; operand = held_operand row.1.1 }

abbrev said : Form × Held → Mnemonic
said found = holds found.0 (held_operand found.1)

whole_or : (b : Bool) (row : List ℕ × (Form × Held)) (o : Option (Form × Held)) (r : Option Shortened) →
    option_map said o ≡ option_map (λ x. holds x.form x.operand) r →
    option_map said (if b then Some row.1 else o) ≡ option_map (λ x. holds x.form x.operand) (if b then Some (whole_row row) else r)
whole_or true row o r e = refl
whole_or false row o r e = e

whole_by : (rows : List (List ℕ × (Form × Held))) (bytes : List ℕ) →
    option_map said (whole_in rows bytes) ≡ option_map (λ x. holds x.form x.operand) (find (λ x. bytes_eq x.word bytes) (map whole_row rows))
whole_by [] bytes = refl
whole_by (row ∷ rows) bytes = whole_or (bytes_eq row.0 bytes) row (whole_in rows bytes) (find (λ x. bytes_eq x.word bytes) (map whole_row rows)) (whole_by rows bytes)

pub whole_is : (bytes : List ℕ) →
    option_map (λ found. holds found.0 (held_operand found.1)) (whole_in (map (λ row. (row.0.now, (row.1, row.2))) WHOLE_WORDS) bytes) ≡ whole_form bytes
unfolding whole_form
whole_is bytes = whole_by (map (λ row. (row.0.now, (row.1, row.2))) WHOLE_WORDS) bytes
