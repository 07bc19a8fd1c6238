-- Reading an image in order of its bytes: what is read and the bytes that remain, or the first fault. This project's own.
use Rattle.std.specs.Prelude.{◌≡◌, ℕ, zero, suc, ◌+◌, ◌-◌, ◌==◌, Bool, not, ◌&&◌, ◌||◌, if◌then◌else◌, List, [], ◌∷◌, ◌++◌, length, map, take, drop, slice_get, bytes_eq, nat_le, nat_lt, is_none, Option, Some, None, option_map, option_and_then, Result, Ok, Err, ⊤}
use Rattle.std.specs.Int.{Width, w16, w32, byte_len, from_le_bytes}
use Rattle.std.specs.List.{list_any}
use Rattle.type_tree.specs.declared.tree.Head.{Head}
use Rattle.type_tree.specs.declared.tree.Head.TheVariants as head
use Rattle.type_tree.specs.declared.tree.TExpr.{TExpr}
use Rattle.type_tree.specs.Tree.{node}
use Rattle.il_model.specs.declared.class.ClassDef.{ClassDef}
use Rattle.il_model.specs.declared.method.Body.{Body}
use Rattle.il_model.specs.declared.method.Clause.{Clause}
use Rattle.il_model.specs.declared.method.MethodDef.{MethodDef}
use Rattle.il_model.specs.declared.key.KeyPart.{KeyPart}
use Rattle.il_model.specs.declared.key.KeyPart.TheVariants as part
use Rattle.il_model.specs.declared.key.BodyRow.{BodyRow}
use Rattle.il_model.specs.declared.entry.Entry.{Entry}
use Rattle.il_model.specs.declared.entry.Entry.TheVariants as entry
use Rattle.il_model.specs.declared.program.Program.{Program}
use Rattle.il_model.specs.Found.{method_at}
use Rattle.il_model.specs.Entries.{is_listed}
use Rattle.il_model.specs.Admission.{most_positions}
use Rattle.rgctx_template.specs.Admitted.{is_admitted, is_bounded_throughout, is_bounded_method}
use Rattle.rgctx_template.specs.GotEntries.{most_entry_positions, most_entry_levels, most_closed_entries, has_own_method, has_own_field}
use Rattle.rgctx_template.specs.BodyRows.{is_unmixed, vars_of_owner, key_meets, entry_method, is_code_word, least_frame, most_frame}
use Rattle.aot_image.specs.declared.image.ImageFault.{ImageFault}
use Rattle.aot_image.specs.declared.image.ImageCause.{ImageCause}
use Rattle.aot_image.specs.declared.image.ImageCause.TheVariants as cause
use Rattle.aot_image.specs.declared.image.ReadError.{ReadError}
use Rattle.aot_image.specs.declared.image.ReadError.TheVariants as error
use Rattle.aot_image.specs.declared.decoding.Counts.{Counts}
use Rattle.aot_image.specs.declared.decoding_picks.Pick.{Pick}
use Rattle.aot_image.specs.ImagePicks.{same_pick, pick_of}
use Rattle.aot_image.specs.ImageSpelling.{magic, version, first_class, ImageData}

-- ---- readers

-- the bytes that are left, and how many stand before them
pub record Left : Type 0 where
  pub at : ℕ
  pub bytes : List ℕ

-- what is read in front of bytes, with those that remain
abbrev pub Read : Type 0 → Type 0
Read A = Result (A × Left) ImageFault

abbrev pub Reader : Type 0 → Type 0
Reader A = Left → Read A

abbrev pub and_then : {A B : Type 0} → Read A → (A → Reader B) → Read B
and_then (Ok p) next = next p.0 p.1
and_then (Err fault) next = Err fault

infixl 10 ◌>>=◌
abbrev pub ◌>>=◌ : {A B : Type 0} → Reader A → (A → Reader B) → Reader B
r >>= next = λ left. and_then (r left) next

infixl 10 ◌>>◌
abbrev pub ◌>>◌ : {A B : Type 0} → Reader A → Reader B → Reader B
r >> s = r >>= (λ _. s)

abbrev pub pure : {A : Type 0} → A → Reader A
pure x = λ left. Ok (x, left)

-- what a call of the decoder answers, and the bytes that it leaves; want of memory says nothing
abbrev pub Reads : {A : Type 0} → Read A → Result A ReadError → Left → Type 0
Reads read (Ok x) new = read ≡ Ok (x, new)
Reads read (Err (error.Fault fault)) new = read ≡ Err fault
Reads read (Err error.Memory) new = ⊤

-- the same where what is answered lends
abbrev pub ReadsAs : {X A : Type 0} → (X → A) → Read A → Result X ReadError → Left → Type 0
ReadsAs view read (Ok x) new = read ≡ Ok (view x, new)
ReadsAs view read (Err (error.Fault fault)) new = read ≡ Err fault
ReadsAs view read (Err error.Memory) new = ⊤

abbrev pub fault_at : ℕ → ImageCause → ImageFault
fault_at offset why = record { offset = offset; cause = why }

-- a fault of a field or a row that begins at this place
abbrev pub refuse : {A : Type 0} → ℕ → ImageCause → Reader A
refuse offset why = λ left. Err (fault_at offset why)

-- the row that begins at this place is bad
abbrev pub bad_table : {A : Type 0} → ℕ → Reader A
bad_table row = refuse row cause.BadTable

-- a fault of a field or a row that begins at this place unless the test holds
abbrev pub require : ℕ → ImageCause → Bool → Reader (Unit {0})
require offset why holds = λ left. if holds then Ok (tt, left) else Err (fault_at offset why)

-- the row that begins at this place is bad unless the test holds
abbrev pub check : ℕ → Bool → Reader (Unit {0})
check row holds = require row cause.BadTable holds

-- the value that is there, or the row that begins at this place is bad
abbrev pub found_or_bad : {A : Type 0} → ℕ → Option A → Reader A
found_or_bad row (Some x) = pure x
found_or_bad row None = bad_table row

-- where the next field begins
abbrev pub here : Reader ℕ
here = λ left. Ok (left.at, left)

-- ---- fields

-- what is left behind so many bytes
abbrev pub behind : ℕ → Left → Left
behind count left = record { at = left.at + count; bytes = drop count left.bytes }

-- so many bytes, which are one field
unfoldable pub read_bytes : ℕ → Reader (List ℕ)
read_bytes count = λ left.
    if nat_lt (length left.bytes) count then Err (fault_at left.at cause.Short) else Ok (take count left.bytes, behind count left)

-- a number of one byte
abbrev pub byte_of : ℕ → List ℕ → Read ℕ
byte_of at [] = Err (fault_at at cause.Short)
byte_of at (b ∷ bytes) = Ok (b, record { at = at + 1; bytes = bytes })

unfoldable pub read_byte : Reader ℕ
read_byte left = byte_of left.at left.bytes

unfoldable pub read_number : Width → Reader ℕ
read_number w = do
  bytes ← read_bytes (byte_len w)
  pure (from_le_bytes w bytes)

-- a number of two bytes
abbrev pub read_half : Reader ℕ
read_half = read_number w16

-- a number of four bytes
abbrev pub read_word : Reader ℕ
read_word = read_number w32

-- ---- trees

abbrev pub class_head : ℕ → ClassDef → Head × ℕ
class_head number c = (head.Class number, length c.vars)

-- what a definition's number stands for, with the number of arguments that it wants; None where it is no type's
unfoldable pub head_of_number : Program → ℕ → Option (Head × ℕ)
head_of_number program n =
    if n == 1 then Some (head.Int32, 0)
    else (if n == 2 then Some (head.Int64, 0)
    else (if n == 3 then Some (head.Bool, 0)
    else (if n == 4 then Some (head.Vector, 1)
    else (if nat_lt n first_class then None
    else option_map (class_head (n - first_class)) (slice_get program.classes (n - first_class))))))

module _ (inner : ℕ → Reader (TExpr × ℕ)) where
  -- so many trees behind those found, where so many positions may still come; with the positions that may come behind them
  unfoldable pub read_trees_from : ℕ → List TExpr → ℕ → Reader (List TExpr × ℕ)
  read_trees_from zero found positions = pure (found, positions)
  read_trees_from (suc n) found positions = do
    p ← inner positions
    read_trees_from n (found ++ p.0 ∷ []) p.1

  -- what follows the number of a definition
  unfoldable pub read_defined : Program → ℕ → ℕ → ℕ → Reader (TExpr × ℕ)
  read_defined program row positions n = do
    check row (nat_lt 0 positions)
    h ← found_or_bad row (head_of_number program n)
    p ← read_trees_from h.1 [] (positions - 1)
    pure (node h.0 p.0, p.1)

-- a tree in the row that begins at this place, of at most so many levels, where so many positions may still come
unfoldable pub read_tree_within : Program → ℕ → ℕ → ℕ → Reader (TExpr × ℕ)
read_tree_within program row zero positions = read_half >>= (λ n. bad_table row)
read_tree_within program row (suc levels) positions =
    read_half >>= (λ n. read_defined (λ more. read_tree_within program row levels more) program row positions n)

-- a tree one level below one of so many levels
abbrev pub inner_trees : Program → ℕ → ℕ → ℕ → Reader (TExpr × ℕ)
inner_trees program row levels = λ more. read_tree_within program row (levels - 1) more

-- a tree of at most so many levels and positions
unfoldable pub read_tree : Program → ℕ → ℕ → ℕ → Reader TExpr
read_tree program row levels positions = do
  p ← read_tree_within program row levels positions
  pure p.0

-- ---- bodies

-- the type of a part that is exact
unfoldable pub read_exact : Program → ℕ → Reader KeyPart
read_exact program row = do
  t ← read_tree program row most_positions most_positions
  check row (is_admitted program t)
  check row (is_bounded_throughout program t)
  pure (part.Exact t)

-- a part of a key, which begins with this byte
abbrev pub read_part_of : Program → ℕ → ℕ → Reader KeyPart
read_part_of program row n =
    if n == 0 then pure part.Ref else (if n == 1 then pure part.Any else (if n == 2 then read_exact program row else bad_table row))

-- a part of a key
unfoldable pub read_part : Program → ℕ → Reader KeyPart
read_part program row = do
  first ← read_byte
  read_part_of program row first

-- so many parts of a key behind those found
unfoldable pub read_parts_from : Program → ℕ → ℕ → List KeyPart → Reader (List KeyPart)
read_parts_from program row zero found = pure found
read_parts_from program row (suc n) found = do
  p ← read_part program row
  check row (is_unmixed (found ++ p ∷ []))
  read_parts_from program row n (found ++ p ∷ [])

-- the method with this number, where it has a body and may be compiled
unfoldable pub compiled_at : Program → ℕ → Option MethodDef
compiled_at program number =
    option_and_then (λ m. if is_none m.body || (number == entry_method) then None else Some m) (method_at program number)

abbrev pub clauses_in : Option Body → List Clause
clauses_in None = []
clauses_in (Some b) = b.clauses

-- how many type variables a method has, with those of its class
abbrev pub variable_count : Program → MethodDef → ℕ
variable_count program m = length (vars_of_owner program m) + length m.vars

-- the key of a body of this method
unfoldable pub read_key : Program → ℕ → MethodDef → Reader (List KeyPart)
read_key program row m = do
  count ← read_byte
  check row (count == variable_count program m)
  parts ← read_parts_from program row count []
  check row (key_meets program (vars_of_owner program m) m.vars parts)
  pure parts

abbrev pub pick : ℕ → List KeyPart → Pick
pick method parts = record { method = method; parts = parts }

-- whether a method with its key is none of these
abbrev pub is_new_pick : List Pick → ℕ → List KeyPart → Bool
is_new_pick known method parts = not (list_any (same_pick (pick method parts)) known)

-- a word of the code, of which there are so many, that is not the first
unfoldable pub read_place : ℕ → ℕ → Reader ℕ
read_place row count = do
  n ← read_word
  check row (is_code_word count n)
  pure n

abbrev pub is_frame : ℕ → Bool
is_frame n = nat_le least_frame n && nat_le n most_frame

-- so many places of the code behind those found
unfoldable pub read_places_from : ℕ → ℕ → ℕ → List ℕ → Reader (List ℕ)
read_places_from row count zero found = pure found
read_places_from row count (suc n) found = do
  place ← read_place row count
  read_places_from row count n (found ++ place ∷ [])

-- the words of a body's frame
unfoldable pub read_frame : ℕ → Reader ℕ
read_frame row = do
  n ← read_word
  check row (is_frame n)
  pure n

-- the handlers of a body of this method
unfoldable pub read_handlers : ℕ → ℕ → MethodDef → Reader (List ℕ)
read_handlers row count m = do
  n ← read_byte
  check row (n == length (clauses_in m.body))
  read_places_from row count n []

-- a body behind those of these methods and keys, in a code of so many words
unfoldable pub read_body : Program → ℕ → List Pick → Reader BodyRow
read_body program count known = do
  row ← here
  number ← read_half
  m ← found_or_bad row (compiled_at program number)
  parts ← read_key program row m
  check row (is_new_pick known number parts)
  place ← read_place row count
  frame ← read_frame row
  handlers ← read_handlers row count m
  pure (record { method = number; key = record { parts = parts }; entry = place; frame = frame; handlers = handlers })

-- so many bodies behind those found
unfoldable pub read_bodies_from : Program → ℕ → ℕ → List BodyRow → Reader (List BodyRow)
read_bodies_from program count zero found = pure found
read_bodies_from program count (suc n) found = do
  row ← read_body program count (map pick_of found)
  read_bodies_from program count n (found ++ row ∷ [])

-- ---- closed entries

-- a tree of a closed entry; what is admitted in it meets its bounds
unfoldable pub read_entry_tree : Program → ℕ → Reader TExpr
read_entry_tree program row = do
  t ← read_tree program row most_entry_levels most_entry_positions
  check row (is_bounded_throughout program t)
  pure t

-- so many such trees behind those found
unfoldable pub read_entry_trees_from : Program → ℕ → ℕ → List TExpr → Reader (List TExpr)
read_entry_trees_from program row zero found = pure found
read_entry_trees_from program row (suc n) found = do
  t ← read_entry_tree program row
  read_entry_trees_from program row n (found ++ t ∷ [])

-- a method with its class and its arguments
unfoldable pub read_method_entry : Program → ℕ → Reader Entry
read_method_entry program row = do
  number ← read_half
  m ← found_or_bad row (method_at program number)
  c ← read_entry_tree program row
  check row (has_own_method program c number)
  args ← read_entry_trees_from program row (length m.vars) []
  check row (is_bounded_method program c args m)
  pure (entry.Method number c args)

-- a field of a class
unfoldable pub read_offset_entry : Program → ℕ → Reader Entry
read_offset_entry program row = do
  c ← read_entry_tree program row
  place ← read_half
  check row (has_own_field program c place)
  pure (entry.Offset c place)

-- an entry that names a type alone
unfoldable pub read_type_entry : (TExpr → Entry) → Program → ℕ → Reader Entry
read_type_entry made program row = do
  t ← read_entry_tree program row
  pure (made t)

-- an entry whose kind is this
abbrev pub read_entry_of : Program → ℕ → ℕ → Reader Entry
read_entry_of program row n =
    if n == 0 then read_type_entry entry.Kind program row
    else (if n == 1 then read_method_entry program row
    else (if n == 2 then read_type_entry entry.Size program row
    else (if n == 3 then read_type_entry entry.Extent program row
    else (if n == 4 then read_offset_entry program row else bad_table row))))

-- these entries with another one behind them
unfoldable pub read_entry : Program → List Entry → Reader (List Entry)
read_entry program earlier = do
  row ← here
  n ← read_byte
  check row (nat_lt (length earlier) most_closed_entries)
  e ← read_entry_of program row n
  check row (not (is_listed earlier e))
  pure (earlier ++ e ∷ [])

-- so many entries behind those found
unfoldable pub read_entries_from : Program → ℕ → List Entry → Reader (List Entry)
read_entries_from program zero found = pure found
read_entries_from program (suc n) found = do
  grown ← read_entry program found
  read_entries_from program n grown

-- ---- the whole

-- so many words of the code behind those found
unfoldable pub read_words_from : ℕ → List ℕ → Reader (List ℕ)
read_words_from zero found = pure found
read_words_from (suc n) found = do
  w ← read_word
  read_words_from n (found ++ w ∷ [])

-- the first two fields
unfoldable pub read_mark : Reader (Unit {0})
read_mark = do
  front ← read_bytes 8
  require 0 cause.Magic (bytes_eq front magic)
  n ← read_word
  require 8 cause.Version (n == version)

-- the fields before the text: how many bytes it has, and how many rows and words the tables
unfoldable pub read_counts : Reader Counts
read_counts = do
  read_mark
  text ← read_word
  bodies ← read_word
  got ← read_word
  code ← read_word
  pure (record { text = text; bodies = bodies; got = got; code = code })

-- nothing follows
unfoldable pub read_end : Reader (Unit {0})
read_end left = if length left.bytes == 0 then Ok (tt, left) else Err (fault_at left.at cause.Trailing)

-- what stands behind the text of this program
unfoldable pub read_tables : Program → Counts → Reader ImageData
read_tables program counts = do
  bodies ← read_bodies_from program counts.code counts.bodies []
  got ← read_entries_from program counts.got []
  code ← read_words_from counts.code []
  read_end
  pure (record { program = program; bodies = bodies; got = got; code = code })

-- all of these bytes
abbrev pub whole : List ℕ → Left
whole bytes = record { at = 0; bytes = bytes }
