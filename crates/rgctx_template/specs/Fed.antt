-- What of an entry goes into its hash: a number for each variant and head, and the numbers in it, in order. This project's own.
use Rattle.std.specs.Prelude.{◌++◌, flat_map}
use Rattle.std.specs.Hash as fed
use Rattle.std.specs.Hash.{HashWrites}
use Rattle.type_tree.specs.declared.tree.Head.{Head}
use Rattle.type_tree.specs.declared.tree.Head.TheVariants as head
use Rattle.type_tree.specs.declared.tree.TExpr.{TExpr}
use Rattle.type_tree.specs.declared.tree.TNode.{TNode}
use Rattle.type_tree.specs.declared.tree.TNode.TheVariants.{Node, ClassVar, MethodVar}
use Rattle.type_tree.specs.Tree.{folded}
use Rattle.il_model.specs.declared.entry.Entry.{Entry}
use Rattle.il_model.specs.declared.entry.Entry.TheVariants as entry

abbrev pub head_writes : Head → HashWrites
head_writes head.Int32 = fed.u8 0
head_writes head.Int64 = fed.u8 1
head_writes head.Bool = fed.u8 2
head_writes head.Vector = fed.u8 3
head_writes (head.Class number) = fed.u8 4 ++ fed.u16 number

-- one level, with what is written for each tree below in its place
abbrev pub level_writes : TNode HashWrites → HashWrites
level_writes (Node h parts) = head_writes h ++ flat_map (λ part. part) parts
level_writes (ClassVar n) = fed.u8 5 ++ fed.u8 n
level_writes (MethodVar n) = fed.u8 6 ++ fed.u8 n

abbrev pub tree_writes : TExpr → HashWrites
tree_writes = folded level_writes

abbrev pub entry_writes : Entry → HashWrites
entry_writes (entry.Kind t) = fed.u8 0 ++ tree_writes t
entry_writes (entry.Method number c args) = fed.u8 1 ++ fed.u16 number ++ tree_writes c ++ flat_map tree_writes args
entry_writes (entry.Size t) = fed.u8 2 ++ tree_writes t
entry_writes (entry.Extent t) = fed.u8 3 ++ tree_writes t
entry_writes (entry.Offset c place) = fed.u8 4 ++ fed.u16 place ++ tree_writes c
entry_writes (entry.Slot number) = fed.u8 5 ++ fed.u16 number
