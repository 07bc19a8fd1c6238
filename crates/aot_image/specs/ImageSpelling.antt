-- The bytes of an image: one spelling of each field, in order. Numbers are little-endian. This project's own.
use Rattle.std.specs.Prelude.{ℕ, ◌+◌, List, [], ◌∷◌, ◌++◌, codes, length, flat_map}
use Rattle.std.specs.Int.{w16, w32, to_le_bytes}
use Rattle.type_tree.specs.declared.tree.Head.{Head}
use Rattle.type_tree.specs.declared.tree.Head.TheVariants as head
use Rattle.type_tree.specs.declared.tree.TExpr.{TExpr}
use Rattle.type_tree.specs.declared.tree.TNode.{TNode}
use Rattle.type_tree.specs.declared.tree.TNode.TheVariants.{Node, ClassVar, MethodVar}
use Rattle.type_tree.specs.Tree.{folded}
use Rattle.il_model.specs.declared.key.KeyPart.{KeyPart}
use Rattle.il_model.specs.declared.key.KeyPart.TheVariants as part
use Rattle.il_model.specs.declared.key.BodyRow.{BodyRow}
use Rattle.il_model.specs.declared.entry.Entry.{Entry}
use Rattle.il_model.specs.declared.entry.Entry.TheVariants as entry
use Rattle.il_model.specs.declared.program.Program.{Program}
use Rattle.il_model.specs.Canonical.{canonical_text}

-- ---- numbers

-- a number of one byte
abbrev pub byte : ℕ → List ℕ
byte n = n ∷ []

-- a number of two bytes
abbrev pub half : ℕ → List ℕ
half n = to_le_bytes w16 n

-- a number of four bytes
abbrev pub word : ℕ → List ℕ
word n = to_le_bytes w32 n

-- ---- trees

-- the number of the class with this number, among definitions
abbrev pub first_class : ℕ
first_class = 16

-- the number of a definition: of a scalar, of vectors, or of a class
abbrev pub definition_number : Head → ℕ
definition_number head.Int32 = 1
definition_number head.Int64 = 2
definition_number head.Bool = 3
definition_number head.Vector = 4
definition_number (head.Class number) = first_class + number

-- one level of a tree, with the bytes of each tree below; an image has no variables
abbrev pub level_bytes : TNode (List ℕ) → List ℕ
level_bytes (Node h parts) = half (definition_number h) ++ flat_map (λ part. part) parts
level_bytes (ClassVar n) = []
level_bytes (MethodVar n) = []

-- a tree: its definition and its arguments
abbrev pub tree_bytes : TExpr → List ℕ
tree_bytes = folded level_bytes

-- ---- rows

abbrev pub part_bytes : KeyPart → List ℕ
part_bytes part.Ref = byte 0
part_bytes part.Any = byte 1
part_bytes (part.Exact t) = byte 2 ++ tree_bytes t

-- the method and the key of a body
abbrev pub pick_bytes : ℕ → List KeyPart → List ℕ
pick_bytes method parts = half method ++ (byte (length parts) ++ flat_map part_bytes parts)

-- the handlers of a body, with their number
abbrev pub handler_bytes : List ℕ → List ℕ
handler_bytes handlers = byte (length handlers) ++ flat_map word handlers

abbrev pub body_bytes : BodyRow → List ℕ
body_bytes row = pick_bytes row.method row.key.parts ++ (word row.entry ++ (word row.frame ++ handler_bytes row.handlers))

-- a method with its class and its arguments
abbrev pub method_bytes : ℕ → TExpr → List TExpr → List ℕ
method_bytes number c args = byte 1 ++ (half number ++ (tree_bytes c ++ flat_map tree_bytes args))

-- a closed entry; an image has no slots
abbrev pub entry_bytes : Entry → List ℕ
entry_bytes (entry.Kind t) = byte 0 ++ tree_bytes t
entry_bytes (entry.Method number c args) = method_bytes number c args
entry_bytes (entry.Size t) = byte 2 ++ tree_bytes t
entry_bytes (entry.Extent t) = byte 3 ++ tree_bytes t
entry_bytes (entry.Offset c place) = byte 4 ++ (tree_bytes c ++ half place)
entry_bytes (entry.Slot number) = []

-- ---- images

-- an image without the states of its program, which the program determines
pub record ImageData : Type 0 where
  pub program : Program
  pub bodies : List BodyRow
  pub got : List Entry
  pub code : List ℕ

abbrev pub magic : List ℕ
magic = codes "MNAOTIMG"

abbrev pub version : ℕ
version = 1

-- the fields before the text, which has so many bytes
abbrev pub head_bytes : ℕ → ℕ → ℕ → ℕ → List ℕ
head_bytes text bodies got code = magic ++ (word version ++ (word text ++ (word bodies ++ (word got ++ word code))))

-- the tables behind the text
abbrev pub table_bytes : ImageData → List ℕ
table_bytes image = flat_map body_bytes image.bodies ++ (flat_map entry_bytes image.got ++ flat_map word image.code)

abbrev pub image_bytes : ImageData → List ℕ
image_bytes image =
    head_bytes (length (canonical_text image.program)) (length image.bodies) (length image.got) (length image.code) ++
    (canonical_text image.program ++ table_bytes image)
