-- Generic types, one level at a time.
use Rattle.std.proofs.Common.{◌≡◌, Bool, true, false, ◌&&◌, ◌||◌, List, [], ◌∷◌, map, refl, sym, ap, ◌∙◌}
use Rattle.std.specs.List.{list_any}
use Rattle.type_tree.specs.declared.tree.Head.{Head}
use Rattle.type_tree.specs.declared.tree.TExpr.{TExpr}
use Rattle.type_tree.specs.declared.tree.TNode.{TNode}
use Rattle.type_tree.specs.declared.tree.TNode.TheVariants.{Node, ClassVar, MethodVar}
use Rattle.type_tree.specs.Tree.{top_of}
use Rattle.type_tree.proofs.TreeLemmas.{tree_of-is, folded-node, folded-class_var, folded-method_var}
use Rattle.cil_verify.specs.Forms.{has_some, is_class_head, is_generic_level, is_generic}

some_mapped : (parts : List TExpr) → has_some (map is_generic parts) ≡ has_some parts
some_mapped [] = refl
some_mapped (t ∷ parts) = refl

any_mapped : (parts : List TExpr) → list_any (λ part. part) (map is_generic parts) ≡ list_any is_generic parts
any_mapped [] = refl
any_mapped (t ∷ parts) = ap (λ b. is_generic t || b) (any_mapped parts)

pub generic_node : (t : TExpr) (head : Head) (parts : List TExpr) → top_of t ≡ Node head parts →
    ((is_class_head head && has_some parts) || list_any is_generic parts) ≡ is_generic t
generic_node t head parts is =
    sym (ap is_generic (tree_of-is t (Node head parts) is)
    ∙ folded-node is_generic_level head parts
    ∙ ap (λ b. (is_class_head head && b) || list_any (λ part. part) (map is_generic parts)) (some_mapped parts)
    ∙ ap (λ b. (is_class_head head && has_some parts) || b) (any_mapped parts))
