-- The rules on classes, each sentence a condition of a class of a program. A cause of a refusal comes exactly where its record does not hold. This project's own.
use Rattle.std.specs.Prelude.{◌≡◌, ◌≤◌, ℕ, zero, suc, ◌==◌, Bool, true, false, not, ◌&&◌, ◌||◌, List, [], ◌++◌, length, map, flat_map, filter_map, zip, sum_by, slice_get, is_some, Option, Some, None, option_to_list}
use Rattle.std.specs.List.{list_any, list_all}
use Rattle.type_tree.specs.declared.tree.TExpr.{TExpr}
use Rattle.il_model.specs.declared.class.ClassKind.{ClassKind}
use Rattle.il_model.specs.declared.class.ClassKind.TheVariants as kind
use Rattle.il_model.specs.declared.class.VarDef.{VarDef}
use Rattle.il_model.specs.declared.class.ClassDef.{ClassDef}
use Rattle.il_model.specs.declared.method.Shape.{Shape}
use Rattle.il_model.specs.declared.method.Shape.TheVariants as shape
use Rattle.il_model.specs.declared.method.MethodDef.{MethodDef}
use Rattle.il_model.specs.declared.layout.MethodTree.{MethodTree}
use Rattle.il_model.specs.declared.program.Program.{Program}
use Rattle.il_model.specs.Find.{class_number_of, class_of}
use Rattle.il_model.specs.Found.{method_at}
use Rattle.il_model.specs.Entries.{arguments_of}
use Rattle.il_model.specs.Kinds.{is_struct_kind, is_struct_class}
use Rattle.il_model.specs.Trees.{is_among, trees_in, without_repeats}
use Rattle.il_model.specs.Bases.{with_args_of, own_of, bases_of}
use Rattle.il_model.specs.Layouts.{fields_in, most_trees}
use Rattle.il_model.specs.Slots.{is_interface_kind, is_interface, virtual_slots_of, places_of, match_of_place, definition_slots}
use Rattle.il_model.specs.Assignable.{Bounded, meets_bound}
use Rattle.il_model.specs.Admission.{has_count, steps_of, closure_of, is_large}

-- ---- the types that a class writes

abbrev pub bounds_written : List VarDef → List TExpr
bounds_written vars = flat_map (λ v. v.bounds) vars

abbrev pub kinds_written : ClassDef → List TExpr
kinds_written c = map (λ f. f.kind) c.fields

-- the types in the head and the fields of a class
abbrev pub types_written : ClassDef → List TExpr
types_written c = option_to_list c.base ++ (c.interfaces ++ (bounds_written c.vars ++ kinds_written c))

-- whether the type and each argument in it has the right number of arguments
abbrev pub has_counts : Program → TExpr → Bool
has_counts program t = list_all (has_count program) (trees_in t)

-- ---- hierarchy

abbrev pub is_delegate_kind : ClassKind → Bool
is_delegate_kind kind.Plain = false
is_delegate_kind kind.Abstract = false
is_delegate_kind kind.Interface = false
is_delegate_kind kind.Struct = false
is_delegate_kind kind.Delegate = true

-- whether a class may be a base by its kind
abbrev pub is_base_kind : ClassKind → Bool
is_base_kind kind.Plain = true
is_base_kind kind.Abstract = true
is_base_kind kind.Interface = false
is_base_kind kind.Struct = false
is_base_kind kind.Delegate = false

abbrev pub is_base_class : Option ClassDef → Bool
is_base_class (Some c) = is_base_kind c.kind
is_base_class None = false

abbrev pub is_number : ℕ → Option ℕ → Bool
is_number number None = false
is_number number (Some n) = n == number

-- whether a type may stand as a base: a plain or abstract class that is not `string`
abbrev pub may_be_base : Program → TExpr → Bool
may_be_base program t = is_base_class (class_of program t) && not (is_number 1 (class_number_of t))

abbrev pub uppers_in : Option ClassDef → List ℕ
uppers_in None = []
uppers_in (Some c) = filter_map class_number_of (option_to_list c.base ++ c.interfaces)

-- the numbers of the classes that a class names as its base and its interfaces
abbrev pub uppers_of : Program → ℕ → List ℕ
uppers_of program number = uppers_in (slice_get program.classes number)

-- whether each way up from a class, itself counted, ends within so many classes
abbrev pub ends_within : Program → ℕ → ℕ → Bool
ends_within program zero number = false
ends_within program (suc levels) number = list_all (λ upper. ends_within program levels upper) (uppers_of program number)

-- whether no way up from a class meets a cycle: only a cycle makes a way of more classes than there are
abbrev pub meets_no_cycle : Program → ℕ → Bool
meets_no_cycle program number = ends_within program (length program.classes) number

-- the rule on hierarchies, of the class with this number
pub record HasHierarchy (program : Program) (number : ℕ) (c : ClassDef) : Type 0 where
  pub no_delegate : is_delegate_kind c.kind ≡ false
  pub counts : list_all (has_counts program) (types_written c) ≡ true
  pub base : list_all (may_be_base program) (option_to_list c.base) ≡ true
  pub interfaces : list_all (is_interface program) c.interfaces ≡ true
  pub ends : meets_no_cycle program number ≡ true
  -- the closure of the definition: no tree of too many positions, and not too many different trees
  pub no_large : list_any is_large (closure_of program (own_of program number)) ≡ false
  pub few : length (without_repeats (closure_of program (own_of program number))) ≤ most_trees

-- ---- layout

-- whether a type is a struct that is reached from itself
abbrev pub is_in_own_closure : Program → TExpr → Bool
is_in_own_closure program t = is_struct_class (class_of program t) && is_among (flat_map (closure_of program) (steps_of program t)) t

-- whether a struct's definition is reached from itself, with whatever arguments: then no value of it ends
abbrev pub comes_back : Program → ℕ → ClassDef → Bool
comes_back program number c =
    is_struct_kind c.kind &&
    list_any (λ t. is_number number (class_number_of t)) (flat_map (closure_of program) (steps_of program (own_of program number)))

-- how many fields a class and its bases have, static ones counted
abbrev pub field_count : Program → TExpr → ℕ
field_count program t = sum_by (λ base. length (fields_in (class_of program base))) (bases_of program t)

-- the most fields of a class, inherited ones counted
abbrev pub most_own_fields : ℕ
most_own_fields = 4096

abbrev pub fits_interface : ClassDef → Bool
fits_interface c = not (is_interface_kind c.kind) || (length c.fields == 0)

-- the rule on layouts: no field, static or not, of a struct's own closure, whether the type of the field or the definition of the struct comes back; no fields in an interface; not too many. No field has the type void
pub record HasLayout (program : Program) (number : ℕ) (c : ClassDef) : Type 0 where
  pub no_own : list_any (is_in_own_closure program) (kinds_written c) ≡ false
  pub no_return : comes_back program number c ≡ false
  pub interface : fits_interface c ≡ true
  pub few : field_count program (own_of program number) ≤ most_own_fields

-- ---- bounds

-- whether an argument meets each bound of its variable, with the arguments of this type put for the bounds' variables
abbrev pub meets_bounds_of : Program → Bounded → TExpr → VarDef × TExpr → Bool
meets_bounds_of program scope t pair = list_all (λ bound. meets_bound program scope pair.1 (with_args_of t bound)) pair.0.bounds

abbrev pub vars_in : Option ClassDef → List VarDef
vars_in None = []
vars_in (Some c) = c.vars

-- whether the arguments of a type are as many as its class has variables, and meet their bounds
abbrev pub meets_own_bounds : Program → Bounded → TExpr → Bool
meets_own_bounds program scope t =
    has_count program t && list_all (meets_bounds_of program scope t) (zip (vars_in (class_of program t)) (arguments_of t))

-- the same of a written type and each argument in it
abbrev pub meets_bounds : Program → Bounded → TExpr → Bool
meets_bounds program scope t = list_all (meets_own_bounds program scope) (trees_in t)

-- the rule on bounds, of the types in a class's head and fields
pub record HasBounds (program : Program) (number : ℕ) (c : ClassDef) : Type 0 where
  pub met : list_all (meets_bounds program (record { of_class = c.vars; of_method = [] })) (types_written c) ≡ true

-- ---- slots

abbrev pub is_abstract_shape : Shape → Bool
is_abstract_shape shape.Fixed = false
is_abstract_shape shape.Instance = false
is_abstract_shape shape.Virtual = false
is_abstract_shape shape.NewSlot = false
is_abstract_shape shape.Abstract = true

abbrev pub is_abstract_method : Option MethodDef → Bool
is_abstract_method None = false
is_abstract_method (Some m) = is_abstract_shape m.shape

-- whether an abstract method stands in the slot
abbrev pub is_abstract_slot : Program → MethodTree → Bool
is_abstract_slot program m = is_abstract_method (method_at program m.method)

-- whether a class of this kind has objects of just its own type
abbrev pub has_objects : ClassKind → Bool
has_objects kind.Plain = true
has_objects kind.Abstract = false
has_objects kind.Interface = false
has_objects kind.Struct = true
has_objects kind.Delegate = false

abbrev pub is_complete : Program → TExpr → Bool
is_complete program definition = not (list_any (is_abstract_slot program) (virtual_slots_of program definition).stands)

-- the rule on implementations: outside interfaces each method of an interface finds a virtual method, and a plain class or a struct has no abstract slot
pub record HasImplementations (program : Program) (number : ℕ) (c : ClassDef) : Type 0 where
  pub found : (is_interface_kind c.kind ||
      list_all (λ place. is_some (match_of_place program (own_of program number) place)) (places_of program (own_of program number))) ≡ true
  pub complete : (not (has_objects c.kind) || is_complete program (own_of program number)) ≡ true

-- the most slots of a class
abbrev pub most_slots : ℕ
most_slots = 224

-- the limit on slots
pub record HasFewSlots (program : Program) (number : ℕ) (c : ClassDef) : Type 0 where
  pub few : length (definition_slots program (own_of program number)) ≤ most_slots

-- ---- whole programs

-- the rule holds for each class
pub record EachClass (Rule : Program → ℕ → ClassDef → Type 0) (program : Program) : Type 0 where
  pub each : (number : ℕ) (c : ClassDef) → slice_get program.classes number ≡ Some c → Rule program number c

-- what calls on types need of a program: no class is refused by the rules on hierarchies and layouts
pub record HasTypes (program : Program) : Type 0 where
  pub hierarchy : EachClass HasHierarchy program
  pub layout : EachClass HasLayout program

-- the rule holds for the class that a type names, if it names one
pub record OfClass (Rule : Program → ℕ → ClassDef → Type 0) (program : Program) (t : TExpr) : Type 0 where
  pub rule : (number : ℕ) (c : ClassDef) → class_number_of t ≡ Some number → slice_get program.classes number ≡ Some c → Rule program number c

-- what calls need of a type: its classes are the program's, with as many arguments as they have variables
pub record IsTypeOf (program : Program) (t : TExpr) : Type 0 where
  pub counts : has_counts program t ≡ true
