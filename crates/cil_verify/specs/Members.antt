-- The members and types that an instruction names, as the pass judges them. This project's own, after ECMA-335, Partition III.
use Rattle.std.specs.Prelude.{Bool, true, false, not, ◌&&◌, List, [], ◌∷◌, map, zip, bytes_eq, slice_get, codes, is_none, Option, Some, None, option_map, option_and_then}
use Rattle.std.specs.List.{list_all}
use Rattle.type_tree.specs.declared.tree.TExpr.{TExpr}
use Rattle.type_tree.specs.Substitution.{substituted}
use Rattle.il_model.specs.declared.class.ClassKind.{ClassKind}
use Rattle.il_model.specs.declared.class.ClassKind.TheVariants as kind
use Rattle.il_model.specs.declared.class.ClassDef.{ClassDef}
use Rattle.il_model.specs.declared.class.FieldDef.{FieldDef}
use Rattle.il_model.specs.declared.class.VarDef.{VarDef}
use Rattle.il_model.specs.declared.method.Shape.{Shape}
use Rattle.il_model.specs.declared.method.Shape.TheVariants as shape
use Rattle.il_model.specs.declared.method.PType.{PType}
use Rattle.il_model.specs.declared.method.PType.TheVariants as ptype
use Rattle.il_model.specs.declared.method.MethodDef.{MethodDef}
use Rattle.il_model.specs.declared.member.MRef.{MRef}
use Rattle.il_model.specs.declared.member.FRef.{FRef}
use Rattle.il_model.specs.declared.op.Op.{Op}
use Rattle.il_model.specs.declared.program.Program.{Program}
use Rattle.il_model.specs.Find.{class_of, takes_object}
use Rattle.il_model.specs.Found.{method_at, method_found, field_found}
use Rattle.il_model.specs.Entries.{Mention, nothing, type, kind as number_of, vector, field, call, virtual_call, constrained, new, mention_of, arguments_of, has_slot}
use Rattle.il_model.specs.Assignable.{meets_bound}
use Rattle.il_model.specs.Layouts.{fields_in}
use Rattle.il_model.specs.ClassRules.{meets_bounds, is_abstract_shape}
use Rattle.cil_verify.specs.Places.{View, scope_in}
use Rattle.cil_verify.specs.Rows.{Row, leaves_all, copies, drops, pushes, loads, addresses, stores, combines, shifts, changes, converts, compares, tests, branches, chooses, empties, calls, calls_on, calls_through, makes, returns, loads_field, stores_field, addresses_field, loads_static, stores_static, addresses_static, loads_through, stores_through, clears, makes_vector, takes_length, loads_element, stores_element, boxes, unboxes, casts, throws, prints, exchanges, starts, joins, admits_none, row_of}

-- the definition of the method that is named
abbrev pub called : Program → MRef → Option MethodDef
called program m = option_and_then (method_at program) (method_found program m)

-- the definition of the field that is named
abbrev pub field_named : Program → FRef → Option FieldDef
field_named program f = option_and_then (slice_get (fields_in (class_of program f.class))) (field_found program f)

-- a type of a method's definition as the instruction that names it sees it: its arguments put
abbrev pub type_at : MRef → TExpr → TExpr
type_at m t = substituted (arguments_of m.class) m.args t

abbrev pub place_at : MRef → PType → PType
place_at m (ptype.Value t) = ptype.Value (type_at m t)
place_at m (ptype.Pointer t) = ptype.Pointer (type_at m t)
place_at m ptype.Native = ptype.Native

-- what a method that is named takes besides its object, and what it gives
abbrev pub params_at : MRef → List PType
params_at m = map (place_at m) m.params

abbrev pub result_at : MRef → Option TExpr
result_at m = option_map (type_at m) m.result

-- ---- members

abbrev pub is_shape_of : (Shape → Bool) → Option MethodDef → Bool
is_shape_of test (Some m) = test m.shape
is_shape_of test None = false

-- what `call` may name: all but an abstract method
abbrev pub may_be_called : Shape → Bool
may_be_called s = not (is_abstract_shape s)

abbrev pub is_instance : Shape → Bool
is_instance shape.Fixed = false
is_instance shape.Instance = true
is_instance shape.Virtual = false
is_instance shape.NewSlot = false
is_instance shape.Abstract = false

abbrev pub is_abstract_kind : ClassKind → Bool
is_abstract_kind kind.Plain = false
is_abstract_kind kind.Abstract = true
is_abstract_kind kind.Interface = false
is_abstract_kind kind.Struct = false
is_abstract_kind kind.Delegate = false

abbrev pub is_abstract_class : Option ClassDef → Bool
is_abstract_class (Some c) = is_abstract_kind c.kind
is_abstract_class None = false

-- a constructor: an instance method named `.ctor` without a result
abbrev pub is_constructor : Option MethodDef → Bool
is_constructor (Some m) = is_instance m.shape && bytes_eq m.name (codes ".ctor") && is_none m.result
is_constructor None = false

-- what `newobj` may name: a constructor of a class that is not abstract
abbrev pub may_be_made : Program → MRef → Bool
may_be_made program m = is_constructor (called program m) && not (is_abstract_class (class_of program m.class))

abbrev pub is_static_field : Option FieldDef → Bool
is_static_field (Some f) = f.fixed
is_static_field None = false

abbrev pub is_instance_field : Option FieldDef → Bool
is_instance_field (Some f) = not f.fixed
is_instance_field None = false

-- ---- written types

-- the types that an instruction writes besides those of a member's own definition
abbrev pub types_in : Mention → List TExpr
types_in nothing = []
types_in (type t) = t ∷ []
types_in (number_of t) = t ∷ []
types_in (vector t) = t ∷ []
types_in (field f) = f.class ∷ []
types_in (call m) = m.class ∷ m.args
types_in (virtual_call m) = m.class ∷ m.args
types_in (constrained t m) = t ∷ m.class ∷ m.args
types_in (new m) = m.class ∷ m.args

-- the method that an instruction names, if it names one
abbrev pub method_in : Mention → Option MRef
method_in nothing = None
method_in (type t) = None
method_in (number_of t) = None
method_in (vector t) = None
method_in (field f) = None
method_in (call m) = Some m
method_in (virtual_call m) = Some m
method_in (constrained t m) = Some m
method_in (new m) = Some m

-- whether the member that an instruction names is there, and may be named so
abbrev pub names_well_in : Program → Row → Bool
names_well_in program leaves_all = true
names_well_in program copies = true
names_well_in program drops = true
names_well_in program (pushes a) = true
names_well_in program (loads bank k) = true
names_well_in program (addresses bank k) = true
names_well_in program (stores bank k) = true
names_well_in program combines = true
names_well_in program shifts = true
names_well_in program changes = true
names_well_in program (converts a) = true
names_well_in program (compares c) = true
names_well_in program tests = true
names_well_in program (branches c) = true
names_well_in program chooses = true
names_well_in program empties = true
names_well_in program (calls m) = is_shape_of may_be_called (called program m)
names_well_in program (calls_on m) = is_shape_of takes_object (called program m)
names_well_in program (calls_through t m) = is_shape_of has_slot (called program m)
names_well_in program (makes m) = may_be_made program m
names_well_in program returns = true
names_well_in program (loads_field f) = is_instance_field (field_named program f)
names_well_in program (stores_field f) = is_instance_field (field_named program f)
names_well_in program (addresses_field f) = is_instance_field (field_named program f)
names_well_in program (loads_static f) = is_static_field (field_named program f)
names_well_in program (stores_static f) = is_static_field (field_named program f)
names_well_in program (addresses_static f) = is_static_field (field_named program f)
names_well_in program (loads_through t) = true
names_well_in program (stores_through t) = true
names_well_in program (clears t) = true
names_well_in program (makes_vector t) = true
names_well_in program takes_length = true
names_well_in program (loads_element t) = true
names_well_in program (stores_element t) = true
names_well_in program (boxes t) = true
names_well_in program (unboxes t) = true
names_well_in program (casts t) = true
names_well_in program throws = true
names_well_in program (prints t) = true
names_well_in program (exchanges t n) = true
names_well_in program starts = true
names_well_in program joins = true
names_well_in program admits_none = true

abbrev pub names_well : View → Op → Bool
names_well v i = names_well_in v.program (row_of i)

-- ---- bounds

abbrev pub vars_of_method : Option MethodDef → List VarDef
vars_of_method (Some d) = d.vars
vars_of_method None = []

-- whether an argument meets each bound of its variable, with the call's arguments put for the bounds' variables
abbrev pub meets_bounds_at : View → MRef → VarDef × TExpr → Bool
meets_bounds_at v m pair = list_all (λ bound. meets_bound v.program (scope_in v) pair.1 (type_at m bound)) pair.0.bounds

abbrev pub arguments_meet_bounds : View → MRef → Bool
arguments_meet_bounds v m = list_all (meets_bounds_at v m) (zip (vars_of_method (called v.program m)) m.args)

abbrev pub method_meets_bounds : View → Option MRef → Bool
method_meets_bounds v None = true
method_meets_bounds v (Some m) = arguments_meet_bounds v m

-- whether all types that an instruction writes have the right numbers of arguments, which meet their bounds
abbrev pub meets_all_bounds : View → Op → Bool
meets_all_bounds v i =
    list_all (meets_bounds v.program (scope_in v)) (types_in (mention_of i)) && method_meets_bounds v (method_in (mention_of i))
