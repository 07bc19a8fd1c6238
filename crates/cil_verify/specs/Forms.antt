-- The forms that are not built yet, and the first place of a program that has one. This project's own.
use Rattle.std.specs.Prelude.{ℕ, ◌+◌, Bool, true, false, ◌&&◌, ◌||◌, List, [], ◌∷◌, Option, Some, None, if◌then◌else◌}
use Rattle.std.specs.Option.{option_or}
use Rattle.std.specs.List.{list_any}
use Rattle.type_tree.specs.declared.tree.TExpr.{TExpr}
use Rattle.type_tree.specs.declared.tree.TNode.{TNode}
use Rattle.type_tree.specs.declared.tree.TNode.TheVariants.{Node, ClassVar, MethodVar}
use Rattle.type_tree.specs.declared.tree.Head.{Head}
use Rattle.type_tree.specs.declared.tree.Head.TheVariants as head
use Rattle.type_tree.specs.Tree.{folded}
use Rattle.il_model.specs.declared.class.ClassDef.{ClassDef}
use Rattle.il_model.specs.declared.method.Sort.{Sort}
use Rattle.il_model.specs.declared.method.Sort.TheVariants as sort
use Rattle.il_model.specs.declared.method.MethodDef.{MethodDef}
use Rattle.il_model.specs.declared.op.Op.{Op}
use Rattle.il_model.specs.declared.op.Op.TheVariants as op
use Rattle.il_model.specs.declared.program.Program.{Program}
use Rattle.il_model.specs.Ops.{Operand, operand_of}
use Rattle.il_model.specs.Ops as operand
use Rattle.il_model.specs.ClassRules.{types_written}
use Rattle.rgctx_template.specs.Written.{types_of_op}
use Rattle.cil_verify.specs.declared.fault.Where.{Where}
use Rattle.cil_verify.specs.declared.fault.Where.TheVariants as at
use Rattle.cil_verify.specs.Places.{code_of, clauses_of}
use Rattle.cil_verify.specs.WellTyped.{types_of_method}

-- ---- types

-- whether there is some item
abbrev pub has_some : {A : Type 0} → List A → Bool
has_some [] = false
has_some (x ∷ xs) = true

abbrev pub is_class_head : Head → Bool
is_class_head head.Int32 = false
is_class_head head.Int64 = false
is_class_head head.Bool = false
is_class_head head.Vector = false
is_class_head (head.Class number) = true

-- one level, with 'is generic' in place of each tree below: a variable, a class with arguments, or what has a generic argument
abbrev pub is_generic_level : TNode Bool → Bool
is_generic_level (Node h parts) = (is_class_head h && has_some parts) || list_any (λ part. part) parts
is_generic_level (ClassVar n) = true
is_generic_level (MethodVar n) = true

-- whether a type has a type variable or a class with arguments in it
abbrev pub is_generic : TExpr → Bool
is_generic = folded is_generic_level

-- ---- classes, methods and instructions

-- whether a class has type variables, or a generic type in its head or its fields
abbrev pub is_unbuilt_class : ClassDef → Bool
is_unbuilt_class c = has_some c.vars || list_any is_generic (types_written c)

abbrev pub is_catch : Sort → Bool
is_catch (sort.Catch t) = true
is_catch sort.Finally = false

-- whether a method has type variables, a generic type in its head, its locals or its clauses, or a catch clause
abbrev pub is_unbuilt_method : MethodDef → Bool
is_unbuilt_method m =
    has_some m.vars || (list_any is_generic (types_of_method m) || list_any (λ c. is_catch c.sort) (clauses_of m.body))

-- whether what an instruction names is a method with type arguments
abbrev pub names_generic : Operand → Bool
names_generic operand.nothing = false
names_generic (operand.int32 n) = false
names_generic (operand.int64 n) = false
names_generic (operand.literal n) = false
names_generic (operand.place n) = false
names_generic (operand.target n) = false
names_generic (operand.targets ns) = false
names_generic (operand.type t) = false
names_generic (operand.method m) = has_some m.args
names_generic (operand.field f) = false
names_generic (operand.constrained t m) = has_some m.args

-- the instructions that are not built whatever they name
abbrev pub is_unbuilt_form : Op → Bool
is_unbuilt_form (op.Leave to) = true
is_unbuilt_form (op.Constrained t m) = true
is_unbuilt_form (op.NameOf t) = true
is_unbuilt_form op.Start = true
is_unbuilt_form op.Join = true
is_unbuilt_form _ = false

-- whether an instruction is not built: by its form, or by a generic type or a generic method that it names
abbrev pub is_unbuilt_instr : Op → Bool
is_unbuilt_instr i = is_unbuilt_form i || (names_generic (operand_of i) || list_any is_generic (types_of_op i))

-- ---- programs

-- the first of these instructions of a method that is not built; they are numbered from this number on
abbrev pub unbuilt_instr : ℕ → ℕ → List Op → Option Where
unbuilt_instr number at_instr [] = None
unbuilt_instr number at_instr (i ∷ is) =
    if is_unbuilt_instr i then Some (at.Instr number at_instr) else unbuilt_instr number (at_instr + 1) is

-- the first place of a method that is not built: the method itself, or its first such instruction
abbrev pub unbuilt_in : ℕ → MethodDef → Option Where
unbuilt_in number m = if is_unbuilt_method m then Some (at.Method number) else unbuilt_instr number 0 (code_of m.body)

-- the first such place of these methods, which are numbered from this number on
abbrev pub unbuilt_method : ℕ → List MethodDef → Option Where
unbuilt_method number [] = None
unbuilt_method number (m ∷ ms) = option_or (unbuilt_in number m) (unbuilt_method (number + 1) ms)

-- the first of these classes that is not built; they are numbered from this number on
abbrev pub unbuilt_class : ℕ → List ClassDef → Option Where
unbuilt_class number [] = None
unbuilt_class number (c ∷ cs) = if is_unbuilt_class c then Some (at.Class number) else unbuilt_class (number + 1) cs

-- the first place of a program that is not built: of its classes, then of its methods and, method by method, their instructions
abbrev pub first_unbuilt : Program → Option Where
first_unbuilt program = option_or (unbuilt_class 0 program.classes) (unbuilt_method 0 program.methods)
