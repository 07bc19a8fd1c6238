-- The types that the methods of a program write, and the members that their bodies name. This project's own.
use Rattle.std.specs.Prelude.{◌≡◌, ℕ, Bool, true, List, [], ◌∷◌, ◌++◌, flat_map, is_some, Some, option_to_list}
use Rattle.std.specs.List.{list_all}
use Rattle.type_tree.specs.declared.tree.TExpr.{TExpr}
use Rattle.il_model.specs.declared.method.Sort.{Sort}
use Rattle.il_model.specs.declared.method.Sort.TheVariants as sort
use Rattle.il_model.specs.declared.method.Body.{Body}
use Rattle.il_model.specs.declared.method.MethodDef.{MethodDef}
use Rattle.il_model.specs.declared.member.MRef.{MRef}
use Rattle.il_model.specs.declared.member.FRef.{FRef}
use Rattle.il_model.specs.declared.op.Op.{Op}
use Rattle.il_model.specs.declared.program.Program.{Program}
use Rattle.il_model.specs.Ops.{Operand, operand_of}
use Rattle.il_model.specs.Ops as operand
use Rattle.il_model.specs.Found.{method_at, method_found, field_found}
use Rattle.il_model.specs.ClassRules.{has_counts, bounds_written}
use Rattle.il_model.specs.Methods.{types_of_places}

-- ---- types

abbrev pub types_of_method_ref : MRef → List TExpr
types_of_method_ref m = option_to_list m.result ++ m.class ∷ m.args ++ types_of_places m.params

abbrev pub types_of_field_ref : FRef → List TExpr
types_of_field_ref f = f.kind ∷ f.class ∷ []

abbrev pub types_of_operand : Operand → List TExpr
types_of_operand operand.nothing = []
types_of_operand (operand.int32 n) = []
types_of_operand (operand.int64 n) = []
types_of_operand (operand.literal n) = []
types_of_operand (operand.place n) = []
types_of_operand (operand.target n) = []
types_of_operand (operand.targets ns) = []
types_of_operand (operand.type t) = t ∷ []
types_of_operand (operand.method m) = types_of_method_ref m
types_of_operand (operand.field f) = types_of_field_ref f
types_of_operand (operand.constrained t m) = t ∷ types_of_method_ref m

-- the types that an instruction writes
abbrev pub types_of_op : Op → List TExpr
types_of_op i = types_of_operand (operand_of i)

abbrev pub types_of_sort : Sort → List TExpr
types_of_sort (sort.Catch t) = t ∷ []
types_of_sort sort.Finally = []

-- the types that a body writes: of its locals, in its instructions and in its clauses
abbrev pub types_of_body : Body → List TExpr
types_of_body b = types_of_places b.locals ++ flat_map types_of_op b.code ++ flat_map (λ clause. types_of_sort clause.sort) b.clauses

-- the types that a method writes: its result, the bounds of its variables, its parameters, and what its body writes
abbrev pub types_of_method : MethodDef → List TExpr
types_of_method m = option_to_list m.result ++ bounds_written m.vars ++ types_of_places m.params ++ flat_map types_of_body (option_to_list m.body)

-- each type that a method writes has, at every depth, as many arguments as its class has variables. Of the types that a class writes the rule on hierarchies says so
pub record HasCounts (program : Program) : Type 0 where
  pub each : (number : ℕ) (m : MethodDef) → method_at program number ≡ Some m → list_all (has_counts program) (types_of_method m) ≡ true

-- ---- members

abbrev pub is_method_found : Program → MRef → Bool
is_method_found program m = is_some (method_found program m)

abbrev pub is_field_found : Program → FRef → Bool
is_field_found program f = is_some (field_found program f)

abbrev pub finds_operand : Program → Operand → Bool
finds_operand program operand.nothing = true
finds_operand program (operand.int32 n) = true
finds_operand program (operand.int64 n) = true
finds_operand program (operand.literal n) = true
finds_operand program (operand.place n) = true
finds_operand program (operand.target n) = true
finds_operand program (operand.targets ns) = true
finds_operand program (operand.type t) = true
finds_operand program (operand.method m) = is_method_found program m
finds_operand program (operand.field f) = is_field_found program f
finds_operand program (operand.constrained t m) = is_method_found program m

-- whether the member that an instruction names, if it names one, is found
abbrev pub finds_member : Program → Op → Bool
finds_member program i = finds_operand program (operand_of i)

-- each member that a body names is found
pub record FindsMembers (program : Program) : Type 0 where
  pub each : (number : ℕ) (m : MethodDef) (b : Body) → method_at program number ≡ Some m → m.body ≡ Some b → list_all (finds_member program) b.code ≡ true
