-- How a line names a method: `Class::name/k`, or `Class::name` for `Class::name/0`. This project's own.
use Rattle.std.specs.Prelude.{ℕ, ◌==◌, ◌&&◌, nat_le, Bool, false, if◌then◌else◌, List, [], ◌∷◌, ◌++◌, length, take, drop, map, count_by, slice_get, codes, bytes_eq, Option, Some, None, option_map, option_and_then}
use Rattle.std.specs.List.{prefix_len}
use Rattle.std.specs.Fmt.{decimal}
use Rattle.il_text.specs.Bytes.{is_digit, is_word_byte}
use Rattle.il_text.specs.Spelling.{is_word, is_run, after_byte}
use Rattle.il_model.specs.declared.class.ClassDef.{ClassDef}
use Rattle.il_model.specs.declared.method.MethodDef.{MethodDef}
use Rattle.il_model.specs.declared.program.Program.{Program}
use Rattle.il_model.specs.Spellings.{plain_name}
use Rattle.il_model.specs.Names.{place_of}

-- ---- the methods of a program

-- the class and the name of a method, `object` and `string` in their short spelling
abbrev pub short_text : List ℕ → List ℕ → List ℕ
short_text class name = plain_name class ++ (codes "::" ++ name)

-- the same, and which of the methods of this class and name it is, counted from 0
abbrev pub full_text : List ℕ → List ℕ → List ℕ → List ℕ
full_text class name place = short_text class name ++ (codes "/" ++ place)

abbrev pub name_of_class : Option ClassDef → List ℕ
name_of_class None = []
name_of_class (Some c) = c.name

abbrev pub owner_name : Program → MethodDef → List ℕ
owner_name program m = name_of_class (slice_get program.classes m.owner)

abbrev pub short_text_of : Program → MethodDef → List ℕ
short_text_of program m = short_text (owner_name program m) m.name

-- how many of these methods have the class and the name of this one
abbrev pub place_behind : Program → List MethodDef → MethodDef → ℕ
place_behind program before m = count_by (bytes_eq (short_text_of program m)) (map (short_text_of program) before)

-- the text that names a method, which comes behind these
abbrev pub full_text_behind : Program → List MethodDef → MethodDef → List ℕ
full_text_behind program before m = full_text (owner_name program m) m.name (decimal (place_behind program before m))

-- the texts that name methods, which come behind others
abbrev pub full_texts_behind : Program → List MethodDef → List MethodDef → List (List ℕ)
full_texts_behind program before [] = []
full_texts_behind program before (m ∷ ms) =
    full_text_behind program before m ∷ full_texts_behind program (before ++ m ∷ []) ms

-- the texts that name the methods of a program, in order of their numbers
abbrev pub full_texts : Program → List (List ℕ)
full_texts program = full_texts_behind program [] program.methods

-- the number of the method with this text
abbrev pub method_with : Program → List ℕ → Option ℕ
method_with program text = place_of (full_texts program) text

-- ---- METHOD in a line

-- a name as the assembly text has it: a letter, `_` or `.`, then letters, digits, `_` and `.`, 255 bytes at most
abbrev pub is_name : List ℕ → Bool
is_name bytes = is_word bytes && nat_le (length bytes) 255

-- digits without a leading zero, or `0`
abbrev pub is_place : List ℕ → Bool
is_place [] = false
is_place (b ∷ bs) = if b == 48 then length bs == 0 else is_run is_digit (b ∷ bs)

-- how many bytes at the front may stand in a name
abbrev pub name_len : List ℕ → ℕ
name_len bytes = prefix_len is_word_byte bytes

-- what stands behind the name: nothing, which is place 0, or `/` and a place
abbrev pub place_in : List ℕ → Option (List ℕ)
place_in [] = Some (codes "0")
place_in (b ∷ bs) = if (b == 47) && is_place bs then Some bs else None

-- what stands behind `::`
abbrev pub behind_colons : List ℕ → Option (List ℕ)
behind_colons bytes = option_and_then (after_byte 58) (after_byte 58 bytes)

-- the full text of METHOD, of which the class, and the class and the name, are read
abbrev pub full_with : List ℕ → List ℕ → List ℕ → Option (List ℕ)
full_with class name rest = if is_name name then option_map (full_text class name) (place_in rest) else None

abbrev pub full_behind : List ℕ → List ℕ → Option (List ℕ)
full_behind class rest = full_with class (take (name_len rest) rest) (drop (name_len rest) rest)

-- the text that METHOD stands for, in full; none where it has not this form
abbrev pub full_of : List ℕ → Option (List ℕ)
full_of bytes =
    if is_name (take (name_len bytes) bytes)
    then option_and_then (full_behind (take (name_len bytes) bytes)) (behind_colons (drop (name_len bytes) bytes))
    else None
