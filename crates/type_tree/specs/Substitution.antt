-- Substitution, after ECMA-335, Partition II: arguments are put for the type variables of a class and of a method.
use Rattle.std.specs.Prelude.{ℕ, List, Result, Ok, Err, slice_get, unwrap_or, ⊤}
use Rattle.mn_outside.specs.declared.outside.Refused.{Refused}
use Rattle.mn_outside.specs.declared.outside.Refused.TheVariants.{Fault, NoMemory}
use Rattle.type_tree.specs.declared.tree.TExpr.{TExpr}
use Rattle.type_tree.specs.declared.tree.TNode.{TNode}
use Rattle.type_tree.specs.declared.tree.TNode.TheVariants.{Node, ClassVar, MethodVar}
use Rattle.type_tree.specs.Tree.{folded, node, class_var, method_var}

-- the argument with this number, or else the variable itself
abbrev pub argument_or : List TExpr → ℕ → TExpr → TExpr
argument_or args n variable = unwrap_or (slice_get args n) variable

-- one level, with its substitution in place of each tree below
abbrev pub level_substituted : List TExpr → List TExpr → TNode TExpr → TExpr
level_substituted class_args method_args (Node head parts) = node head parts
level_substituted class_args method_args (ClassVar n) = argument_or class_args n (class_var n)
level_substituted class_args method_args (MethodVar n) = argument_or method_args n (method_var n)

-- the type with the arguments put for its variables; one without an argument stays
abbrev pub substituted : List TExpr → List TExpr → TExpr → TExpr
substituted class_args method_args = folded (level_substituted class_args method_args)

-- a fact of the fault, where there is one
abbrev pub IfFault : {T E : Type 0} → Result T (Refused E) → (E → Type 0) → Type 0
IfFault (Ok x) P = ⊤
IfFault (Err (Fault e)) P = P e
IfFault (Err NoMemory) P = ⊤
