-- Equality of types, as a test. This project's own.
use Rattle.std.specs.Prelude.{Bool, true, false, ◌&&◌, List, [], ◌∷◌, nat_eq}
use Rattle.type_tree.specs.declared.tree.Head.{Head}
use Rattle.type_tree.specs.declared.tree.Head.TheVariants as head
use Rattle.type_tree.specs.declared.tree.TExpr.{TExpr}
use Rattle.type_tree.specs.declared.tree.TNode.{TNode}
use Rattle.type_tree.specs.declared.tree.TNode.TheVariants.{Node, ClassVar, MethodVar}
use Rattle.type_tree.specs.Tree.{top_of, folded}

-- whether two heads are the same
abbrev pub same_head : Head → Head → Bool
same_head head.Int32 head.Int32 = true
same_head head.Int64 head.Int64 = true
same_head head.Bool head.Bool = true
same_head head.Vector head.Vector = true
same_head (head.Class m) (head.Class n) = nat_eq m n
same_head _ _ = false

-- whether there are as many tests as trees, and each tree passes its test
abbrev pub pass_all : List (TExpr → Bool) → List TExpr → Bool
pass_all [] [] = true
pass_all (test ∷ tests) (t ∷ ts) = test t && pass_all tests ts
pass_all [] (t ∷ ts) = false
pass_all (test ∷ tests) [] = false

-- whether a top is that of a level with a test in place of each tree below
abbrev pub fits_level : TNode (TExpr → Bool) → TNode TExpr → Bool
fits_level (Node head tests) (Node other parts) = same_head head other && pass_all tests parts
fits_level (ClassVar m) (ClassVar n) = nat_eq m n
fits_level (MethodVar m) (MethodVar n) = nat_eq m n
fits_level _ _ = false

-- whether two types are the same
abbrev pub is_same : TExpr → TExpr → Bool
is_same = folded (λ level other. fits_level level (top_of other))
