-- The members that an instruction names, as functions: what the look-up of members finds. This project's own.
use Rattle.std.specs.Prelude.{ℕ, ◌==◌, Bool, true, false, ◌&&◌, length, take, position, find, bytes_eq, slice_get, Option, Some, None, option_and_then}
use Rattle.std.specs.Bool.{beq}
use Rattle.std.specs.Cmp.Lexicographic.{pointwise}
use Rattle.type_tree.specs.declared.tree.TExpr.{TExpr}
use Rattle.type_tree.specs.Same.{is_same}
use Rattle.il_model.specs.declared.class.ClassDef.{ClassDef}
use Rattle.il_model.specs.declared.class.FieldDef.{FieldDef}
use Rattle.il_model.specs.declared.method.PType.{PType}
use Rattle.il_model.specs.declared.method.PType.TheVariants as ptype
use Rattle.il_model.specs.declared.method.MethodDef.{MethodDef}
use Rattle.il_model.specs.declared.member.MRef.{MRef}
use Rattle.il_model.specs.declared.member.FRef.{FRef}
use Rattle.il_model.specs.declared.program.Program.{Program}
use Rattle.il_model.specs.Find.{class_of, takes_object, most_fields}

-- whether two types of parameters are the same
abbrev pub same_param : PType → PType → Bool
same_param (ptype.Value s) (ptype.Value t) = is_same s t
same_param (ptype.Pointer s) (ptype.Pointer t) = is_same s t
same_param ptype.Native ptype.Native = true
same_param _ _ = false

-- whether two results are the same, or neither is there
abbrev pub same_result : Option TExpr → Option TExpr → Bool
same_result (Some s) (Some t) = is_same s t
same_result None None = true
same_result (Some s) None = false
same_result None (Some t) = false

-- whether a definition is the method that is named, class aside
abbrev pub is_method_named : MRef → MethodDef → Bool
is_method_named named m =
    bytes_eq m.name named.name && (length m.vars == length named.args) && pointwise same_param m.params named.params &&
    same_result m.result named.result && beq (takes_object m.shape) named.instance

abbrev pub is_field_named : FRef → FieldDef → Bool
is_field_named named f = bytes_eq f.name named.name && is_same f.kind named.kind

-- the method of the program with this number
abbrev pub method_at : Program → ℕ → Option MethodDef
method_at program number = slice_get program.methods number

abbrev pub is_named_in : MRef → Option MethodDef → Bool
is_named_in named (Some m) = is_method_named named m
is_named_in named None = false

-- the first of a class's own methods that is named
abbrev pub own_method : Program → MRef → ClassDef → Option ℕ
own_method program named c = find (λ number. is_named_in named (method_at program number)) c.methods

-- the place of the first of a class's own fields that is named, among so many of them
abbrev pub own_field : ℕ → FRef → ClassDef → Option ℕ
own_field most named c = position (is_field_named named) (take most c.fields)

-- the number of the method that is named, if its class has it
abbrev pub method_found : Program → MRef → Option ℕ
method_found program named = option_and_then (own_method program named) (class_of program named.class)

-- the place of the field that is named among its class's own fields, if the class has it
abbrev pub field_found : Program → FRef → Option ℕ
field_found program named = option_and_then (own_field most_fields named) (class_of program named.class)
