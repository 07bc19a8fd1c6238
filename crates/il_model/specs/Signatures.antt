-- Signatures of methods: number of type variables, parameters and result. After ECMA-335, Partition II.
use Rattle.std.specs.Prelude.{ℕ, Bool, ◌&&◌, ◌==◌, List, length, map, bytes_eq, Option, option_map}
use Rattle.std.specs.Cmp.Lexicographic.{pointwise}
use Rattle.type_tree.specs.declared.tree.TExpr.{TExpr}
use Rattle.il_model.specs.declared.method.PType.{PType}
use Rattle.il_model.specs.declared.method.PType.TheVariants as ptype
use Rattle.il_model.specs.declared.method.MethodDef.{MethodDef}
use Rattle.il_model.specs.Found.{same_param, same_result}
use Rattle.il_model.specs.Bases.{with_args_of}

-- a method's name and signature
pub record Signature : Type 0 where
  pub name : List ℕ
  pub vars : ℕ
  pub params : List PType
  pub gives : Option TExpr

abbrev pub param_at : TExpr → PType → PType
param_at t (ptype.Value kind) = ptype.Value (with_args_of t kind)
param_at t (ptype.Pointer kind) = ptype.Pointer (with_args_of t kind)
param_at t ptype.Native = ptype.Native

-- the name and signature of a method of the class of this type, with the arguments put
abbrev pub signature_at : TExpr → MethodDef → Signature
signature_at t m = record {
  name = m.name;
  vars = length m.vars;
  params = map (param_at t) m.params;
  gives = option_map (with_args_of t) m.result;
}

-- whether two methods have one name and signature
abbrev pub same_signature : Signature → Signature → Bool
same_signature a b =
    bytes_eq a.name b.name && ((a.vars == b.vars) && (pointwise same_param a.params b.params && same_result a.gives b.gives))
