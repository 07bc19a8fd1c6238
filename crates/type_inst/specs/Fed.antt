-- What of a type goes into its hash: a number for each head and kind of variable, and the numbers in it, in order. This project's own.
use Rattle.std.specs.Prelude.{◌++◌, flat_map}
use Rattle.std.specs.Hash as fed
use Rattle.std.specs.Hash.{HashWrites}
use Rattle.type_tree.specs.declared.tree.Head.{Head}
use Rattle.type_tree.specs.declared.tree.Head.TheVariants as head
use Rattle.type_tree.specs.declared.tree.TExpr.{TExpr}
use Rattle.type_tree.specs.declared.tree.TNode.{TNode}
use Rattle.type_tree.specs.declared.tree.TNode.TheVariants.{Node, ClassVar, MethodVar}
use Rattle.type_tree.specs.Tree.{folded}

abbrev pub head_writes : Head → HashWrites
head_writes head.Int32 = fed.u8 0
head_writes head.Int64 = fed.u8 1
head_writes head.Bool = fed.u8 2
head_writes head.Vector = fed.u8 3
head_writes (head.Class number) = fed.u8 4 ++ fed.u16 number

-- one level, with what is written for each tree below in its place
abbrev pub level_writes : TNode HashWrites → HashWrites
level_writes (Node h parts) = head_writes h ++ flat_map (λ part. part) parts
level_writes (ClassVar n) = fed.u8 5 ++ fed.u8 n
level_writes (MethodVar n) = fed.u8 6 ++ fed.u8 n

abbrev pub tree_writes : TExpr → HashWrites
tree_writes = folded level_writes
