-- Values and managed pointers. After ECMA-335, Partition I; the words are this project's own.
use Rattle.std.specs.Prelude.{ℕ, ◌+◌, Bool, true, false, List}

-- What an instruction sees of a value's type: int32, of which bool is one on the stack, int64, native int, a reference, or a struct.
pub data Kind : Type 0 where
  Int32 : Kind
  Int64 : Kind
  Native : Kind
  Reference : Kind
  Struct : Kind

-- A managed pointer: null; a word of a place of the frame at a level, the first frame being level 0; a word of the place in
-- which the frame at a level has a struct built; a word of an object; a static word of the type with a number.
pub data Pointer : Type 0 where
  Null : Pointer
  InFrame : (level place word : ℕ) → Pointer
  InFresh : (level word : ℕ) → Pointer
  InObject : (object index : ℕ) → Pointer
  InStatic : (kind index : ℕ) → Pointer

-- a value: words, as many as a struct's layout has and else one; or a managed pointer
pub data Value : Type 0 where
  Plain : Kind → List ℕ → Value
  Managed : Pointer → Value

abbrev pub is_int32 : Kind → Bool
is_int32 Int32 = true
is_int32 Int64 = false
is_int32 Native = false
is_int32 Reference = false
is_int32 Struct = false

abbrev pub is_int64 : Kind → Bool
is_int64 Int32 = false
is_int64 Int64 = true
is_int64 Native = false
is_int64 Reference = false
is_int64 Struct = false

abbrev pub is_native : Kind → Bool
is_native Int32 = false
is_native Int64 = false
is_native Native = true
is_native Reference = false
is_native Struct = false

abbrev pub is_reference_word : Kind → Bool
is_reference_word Int32 = false
is_reference_word Int64 = false
is_reference_word Native = false
is_reference_word Reference = true
is_reference_word Struct = false

abbrev pub is_struct : Kind → Bool
is_struct Int32 = false
is_struct Int64 = false
is_struct Native = false
is_struct Reference = false
is_struct Struct = true

abbrev pub same_kind : Kind → Kind → Bool
same_kind Int32 k = is_int32 k
same_kind Int64 k = is_int64 k
same_kind Native k = is_native k
same_kind Reference k = is_reference_word k
same_kind Struct k = is_struct k

-- the pointer so many words on
abbrev pub shifted : Pointer → ℕ → Pointer
shifted Null n = Null
shifted (InFrame level place word) n = InFrame level place (word + n)
shifted (InFresh level word) n = InFresh level (word + n)
shifted (InObject object index) n = InObject object (index + n)
shifted (InStatic kind index) n = InStatic kind (index + n)
