-- How the type of a key is written: as in the assembly text, without blanks. This project's own.
use Rattle.std.specs.Prelude.{ℕ, zero, suc, ◌+◌, ◌==◌, ◌&&◌, ◌||◌, not, Bool, if◌then◌else◌, List, [], ◌∷◌, ◌++◌, length, take, drop, slice_get, codes, bytes_eq, Option, Some, None, option_and_then, Result, Ok, Err, ⊤, ◌≡◌}
use Rattle.std.specs.List.{prefix_len}
use Rattle.il_text.specs.Spelling.{is_variable, after_byte}
use Rattle.type_tree.specs.declared.tree.TExpr.{TExpr}
use Rattle.type_tree.specs.declared.tree.Head.TheVariants as head
use Rattle.type_tree.specs.Tree.{node, class_var}
use Rattle.il_model.specs.declared.program.Program.{Program}
use Rattle.il_model.specs.Spellings.{plain_name}
use Rattle.il_model.specs.Names.{place_of, plain_names}
use Rattle.il_model.specs.ClassRules.{vars_in}
use Rattle.aot_image.specs.declared.choice_start.Start.{Start}
use Rattle.aot_image.specs.declared.choice_start.Start.TheVariants as start
use Rattle.aot_image.specs.declared.choice_read_error.ReadError.{ReadError}
use Rattle.aot_image.specs.declared.choice_read_error.ReadError.TheVariants as error

-- ---- reading in order

-- what is read at the front of bytes, with those behind it; none where they don't begin so
abbrev pub Read : Type 0 → Type 0
Read A = Option (A × List ℕ)

abbrev pub Reader : Type 0 → Type 0
Reader A = List ℕ → Read A

abbrev pub and_then : {A B : Type 0} → Read A → (A → Reader B) → Read B
and_then None next = None
and_then (Some p) next = next p.0 p.1

infixl 10 ◌>>=◌
abbrev pub ◌>>=◌ : {A B : Type 0} → Reader A → (A → Reader B) → Reader B
r >>= next = λ bytes. and_then (r bytes) next

infixl 10 ◌>>◌
abbrev pub ◌>>◌ : {A B : Type 0} → Reader A → Reader B → Reader B
r >> s = r >>= (λ _. s)

abbrev pub pure : {A : Type 0} → A → Reader A
pure x = λ bytes. Some (x, bytes)

-- what a call answers, and the bytes that it leaves; want of memory says nothing
abbrev pub Reads : {A : Type 0} → Read A → Result A ReadError → List ℕ → Type 0
Reads read (Ok x) new = read ≡ Some (x, new)
Reads read (Err error.Malformed) new = read ≡ None
Reads read (Err error.Memory) new = ⊤

abbrev pub expected : Option (List ℕ) → Read (Unit {0})
expected None = None
expected (Some rest) = Some (tt, rest)

-- this byte, which must stand here
unfoldable pub expect : ℕ → Reader (Unit {0})
expect byte = λ bytes. expected (after_byte byte bytes)

-- ---- the first word of a type

-- any byte but `<`, `>`, `,` and `[`
abbrev pub is_type_byte : ℕ → Bool
is_type_byte b = not ((b == 60) || ((b == 62) || ((b == 44) || (b == 91))))

-- how many such bytes stand at the front
abbrev pub word_len : List ℕ → ℕ
word_len bytes = prefix_len is_type_byte bytes

-- the number of the class with this name
abbrev pub class_named : Program → List ℕ → Option ℕ
class_named program name = place_of (plain_names program.classes) (plain_name name)

abbrev pub start_of_class : Program → Option ℕ → Start
start_of_class program None = start.NoType
start_of_class program (Some number) = start.Class number (length (vars_in (slice_get program.classes number)))

-- how a type begins that begins with this word: with a scalar, with a variable, with a class that has so many type variables, or not at all
unfoldable pub start_of : Program → List ℕ → Start
start_of program word =
    if bytes_eq (codes "int32") word then start.Scalar head.Int32
    else (if bytes_eq (codes "int64") word then start.Scalar head.Int64
    else (if bytes_eq (codes "bool") word then start.Scalar head.Bool
    else (if is_variable word then start.Variable else start_of_class program (class_named program word))))

-- ---- types

-- what stands behind `[]`
abbrev pub behind_brackets : List ℕ → Option (List ℕ)
behind_brackets bytes = option_and_then (after_byte 93) (after_byte 91 bytes)

-- the vectors of a type, one for each `[]` that follows it
unfoldable pub read_vectors : TExpr → Reader TExpr
read_vectors t [] = Some (t, [])
read_vectors t (a ∷ []) = Some (t, a ∷ [])
read_vectors t (a ∷ b ∷ rest) =
    if (a == 91) && (b == 93) then read_vectors (node head.Vector (t ∷ [])) rest else Some (t, a ∷ b ∷ rest)

-- what stands behind an argument where so many more follow: `,`, or `>` behind the last
abbrev pub mark_before : ℕ → ℕ
mark_before zero = 62
mark_before (suc n) = 44

module _ (inner : Reader TExpr) where
  -- so many arguments behind those found
  unfoldable pub arguments_from : ℕ → List TExpr → Reader (List TExpr)
  arguments_from zero found = pure found
  arguments_from (suc n) found = do
    t ← inner
    expect (mark_before n)
    arguments_from n (found ++ t ∷ [])

  -- what follows the name of a class: as many arguments as it has variables, between `<` and `>` where it has any
  unfoldable pub read_class : ℕ → ℕ → Reader TExpr
  read_class number zero = read_vectors (node (head.Class number) [])
  read_class number (suc n) = do
    expect 60
    args ← arguments_from (suc n) []
    read_vectors (node (head.Class number) args)

  -- what follows the first word of a type. Which variable one is doesn't matter, since no key may have any
  abbrev pub read_started : Start → Reader TExpr
  read_started start.NoType = λ bytes. None
  read_started (start.Scalar h) = read_vectors (node h [])
  read_started start.Variable = read_vectors (class_var 0)
  read_started (start.Class number arity) = read_class number arity

-- a type in which types stand in one another no deeper than this number
unfoldable pub read_within : Program → ℕ → Reader TExpr
read_within program zero = λ bytes. None
read_within program (suc n) = λ bytes.
    read_started (read_within program n) (start_of program (take (word_len bytes) bytes)) (drop (word_len bytes) bytes)

-- what is read is all that there is
abbrev pub all_read : Read TExpr → Option TExpr
all_read None = None
all_read (Some p) = if length p.1 == 0 then Some p.0 else None

-- the type that these bytes write. No type stands deeper in others than it has bytes before it
unfoldable pub type_of : Program → List ℕ → Option TExpr
type_of program bytes = all_read (read_within program (length bytes + 1) bytes)
