-- Which types and methods may have a node. This project's own.
use Rattle.std.specs.Prelude.{◌≡◌, ℕ, true, length, Some}
use Rattle.std.specs.List.{All}
use Rattle.type_tree.specs.declared.tree.TExpr.{TExpr}
use Rattle.type_tree.specs.Tree.{IsClosed}
use Rattle.il_model.specs.declared.method.MethodDef.{MethodDef}
use Rattle.il_model.specs.declared.layout.MethodTree.{MethodTree}
use Rattle.il_model.specs.declared.program.Program.{Program}
use Rattle.il_model.specs.Find.{class_number_of}
use Rattle.il_model.specs.Found.{method_at}
use Rattle.il_model.specs.ClassRules.{has_counts}
use Rattle.rgctx_template.specs.Admitted.{is_admitted, is_admitted_method}
use Rattle.rgctx_fill.specs.declared.spelled.NodeTree.{NodeTree}
use Rattle.rgctx_fill.specs.declared.spelled.NodeTree.TheVariants as tree

-- a type without variables, whose classes are the program's with as many arguments as variables, and that is admitted
pub record IsAdmittedType (program : Program) (t : TExpr) : Type 0 where
  pub closed : IsClosed t
  pub counts : has_counts program t ≡ true
  pub admitted : is_admitted program t ≡ true

-- a method of the program with the types of its class and arguments, as many as it has variables, that is admitted
pub record IsAdmittedMethod (program : Program) (m : MethodTree) : Type 0 where
  pub method : MethodDef
  pub is : method_at program m.method ≡ Some method
  pub owner : class_number_of m.class ≡ Some method.owner
  pub class : IsAdmittedType program m.class
  pub count : length m.args ≡ length method.vars
  pub args : All (IsAdmittedType program) m.args
  pub admitted : is_admitted_method program m.class m.args method ≡ true

-- a node with this number may spell it: the image at 1 alone, else an admitted type or method
abbrev pub MayStand : Program → ℕ → NodeTree → Type 0
MayStand program i (tree.Kind t) = IsAdmittedType program t
MayStand program i (tree.Method m) = IsAdmittedMethod program m
MayStand program i tree.Other = i ≡ 1
MayStand program i (tree.Zero n) = ⊥
