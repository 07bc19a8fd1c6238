-- The printed name of a type. This project's own, after the assembly text.
use Rattle.std.specs.Prelude.{ℕ, List, [], ◌∷◌, ◌++◌, codes, slice_get, unwrap_or}
use Rattle.std.specs.List.{join_with_byte}
use Rattle.std.specs.Fmt.{decimal}
use Rattle.type_tree.specs.declared.tree.Head.{Head}
use Rattle.type_tree.specs.declared.tree.Head.TheVariants as head
use Rattle.type_tree.specs.declared.tree.TExpr.{TExpr}
use Rattle.type_tree.specs.declared.tree.TNode.{TNode}
use Rattle.type_tree.specs.declared.tree.TNode.TheVariants.{Node, ClassVar, MethodVar}
use Rattle.type_tree.specs.Tree.{folded}

abbrev pub Text : Type 0
Text = List ℕ

-- the texts with a comma between each two
abbrev pub listed : List Text → Text
listed texts = join_with_byte 44 texts

-- the arguments between angle brackets, where there are any
abbrev pub angled : List Text → Text
angled [] = []
angled (first ∷ rest) = codes "<" ++ (listed (first ∷ rest) ++ codes ">")

-- the name of the class with this number
abbrev pub class_name : List Text → ℕ → Text
class_name names number = unwrap_or (slice_get names number) []

-- a head with the texts of its arguments
abbrev pub applied : List Text → Head → List Text → Text
applied names head.Int32 parts = codes "int32" ++ angled parts
applied names head.Int64 parts = codes "int64" ++ angled parts
applied names head.Bool parts = codes "bool" ++ angled parts
applied names head.Vector parts = listed parts ++ codes "[]"
applied names (head.Class number) parts = class_name names number ++ angled parts

-- one level, with its text in place of each tree below
abbrev pub level_printed : List Text → TNode Text → Text
level_printed names (Node head parts) = applied names head parts
level_printed names (ClassVar n) = codes "!" ++ decimal n
level_printed names (MethodVar n) = codes "!!" ++ decimal n

-- the printed name of a type, from those of the classes
abbrev pub printed : List Text → TExpr → Text
printed names = folded (level_printed names)
