-- Words of calls, as the parser compares them with its table. This project's own.
use Rattle.std.specs.Prelude.{ℕ, Bool, false, List, [], ◌∷◌, Option, Some, None, if◌then◌else◌, bytes_eq}
use Rattle.il_model.specs.declared.form.Form.{Form}
use Rattle.il_model.specs.Lexemes.{Lexeme}
use Rattle.il_model.specs.Spellings.{plain_name}
use Rattle.il_parse.specs.Mnemonics.{same_words}

-- the first lexeme is this word, `object` and `string` in their short spelling
unfoldable pub sees_plain : List ℕ → List Lexeme → Bool
sees_plain word [] = false
sees_plain word (l ∷ ws) = bytes_eq word (plain_name l.bytes)

-- the first row with these words
abbrev pub call_in : List (List (List ℕ) × Form) → List (List ℕ) → Option Form
call_in [] words = None
call_in (row ∷ rows) words = if same_words row.0 words then Some row.1 else call_in rows words
