-- The slots of a type, and which method stands in each. This project's own, after ECMA-335, Partition II.
use Rattle.std.specs.Prelude.{ℕ, zero, suc, ◌+◌, ◌==◌, Bool, true, false, ◌&&◌, List, [], ◌∷◌, ◌++◌, length, map, flat_map, fold, find, take, sum_by, position, slice_get, slice_set, unwrap_or, Option, Some, None, option_map, option_and_then, if◌then◌else◌}
use Rattle.type_tree.specs.declared.tree.TExpr.{TExpr}
use Rattle.il_model.specs.declared.class.ClassKind.{ClassKind}
use Rattle.il_model.specs.declared.class.ClassKind.TheVariants as kind
use Rattle.il_model.specs.declared.class.ClassDef.{ClassDef}
use Rattle.il_model.specs.declared.method.Shape.{Shape}
use Rattle.il_model.specs.declared.method.Shape.TheVariants as shape
use Rattle.il_model.specs.declared.method.MethodDef.{MethodDef}
use Rattle.il_model.specs.declared.layout.MethodTree.{MethodTree}
use Rattle.il_model.specs.declared.program.Program.{Program}
use Rattle.il_model.specs.Find.{class_of}
use Rattle.type_tree.specs.Same.{is_same}
use Rattle.il_model.specs.Found.{method_at}
use Rattle.il_model.specs.Entries.{has_slot}
use Rattle.il_model.specs.Bases.{with_args_of, definition_of, base_of, proper_bases_of, bases_of}
use Rattle.il_model.specs.Interfaces.{interfaces_of}
use Rattle.il_model.specs.Signatures.{Signature, signature_at, same_signature}

-- whether a method always takes a new slot
abbrev pub takes_new : Shape → Bool
takes_new shape.Fixed = false
takes_new shape.Instance = false
takes_new shape.Virtual = false
takes_new shape.NewSlot = true
takes_new shape.Abstract = true

abbrev pub methods_in : Option ClassDef → List ℕ
methods_in None = []
methods_in (Some c) = c.methods

-- the numbers of the methods that the class of a type has itself, in order of the text
abbrev pub own_methods_of : Program → TExpr → List ℕ
own_methods_of program t = methods_in (class_of program t)

-- the numbers of all methods of these types, each with its type
abbrev pub candidates : Program → List TExpr → List (TExpr × ℕ)
candidates program ts = flat_map (λ t. map (λ number. (t, number)) (own_methods_of program t)) ts

abbrev pub is_match : Signature → TExpr → Option MethodDef → Bool
is_match s t None = false
is_match s t (Some m) = has_slot m.shape && same_signature s (signature_at t m)

-- of the virtual methods of these types the first of this name and signature: that of the first type that has one, and there the first in the text
abbrev pub nearest_match : Program → Signature → List TExpr → Option (TExpr × ℕ)
nearest_match program s ts = find (λ c. is_match s c.0 (method_at program c.1)) (candidates program ts)

-- virtual slots: the method that stands in each, and the slot that each virtual method of the class and its bases took
pub record VirtualSlots : Type 0 where
  pub stands : List MethodTree
  pub taken : List (ℕ × ℕ)

abbrev pub no_slots : VirtualSlots
no_slots = record { stands = []; taken = [] }

-- the slot that the method with this number took
abbrev pub slot_taken : VirtualSlots → ℕ → Option ℕ
slot_taken slots number = option_map (λ taken. taken.1) (find (λ taken. taken.0 == number) slots.taken)

-- a method without type variables, of this class
abbrev pub method_of : TExpr → ℕ → MethodTree
method_of t number = record { method = number; class = t; args = [] }

-- the slots once a method takes this one, or else a new one at the end
abbrev pub with_slot : VirtualSlots → MethodTree → Option ℕ → VirtualSlots
with_slot slots m None = record { stands = slots.stands ++ m ∷ []; taken = slots.taken ++ (m.method, length slots.stands) ∷ [] }
with_slot slots m (Some slot) = record { stands = slice_set slots.stands slot m; taken = slots.taken ++ (m.method, slot) ∷ [] }

-- the slot that a method of a definition takes where it is not a new one: that of the nearest base's virtual method of its name and signature
abbrev pub slot_below : Program → TExpr → VirtualSlots → MethodDef → Option ℕ
slot_below program definition slots m =
    option_and_then (λ c. slot_taken slots c.1) (nearest_match program (signature_at definition m) (proper_bases_of program definition))

abbrev pub with_method_if : Program → TExpr → VirtualSlots → ℕ → Option MethodDef → VirtualSlots
with_method_if program definition slots number None = slots
with_method_if program definition slots number (Some m) =
    if has_slot m.shape
    then with_slot slots (method_of definition number) (if takes_new m.shape then None else slot_below program definition slots m)
    else slots

-- the slots once the method with this number has its slot, if it is virtual
abbrev pub with_method : Program → TExpr → VirtualSlots → ℕ → VirtualSlots
with_method program definition slots number = with_method_if program definition slots number (method_at program number)

-- a method of a class's definition, with the arguments of this type of the class put
abbrev pub method_tree_at : TExpr → MethodTree → MethodTree
method_tree_at t m = record { method = m.method; class = with_args_of t m.class; args = map (with_args_of t) m.args }

abbrev pub slots_at : TExpr → VirtualSlots → VirtualSlots
slots_at t slots = record { stands = map (method_tree_at t) slots.stands; taken = slots.taken }

abbrev pub slots_or_none : (TExpr → VirtualSlots) → Option TExpr → VirtualSlots
slots_or_none slots None = no_slots
slots_or_none slots (Some base) = slots base

-- the virtual slots of a type, from so many levels: those of the base, then the class's own methods in order of the text. Slots are found in the definition, and arguments put afterwards
abbrev pub virtual_within : Program → ℕ → TExpr → VirtualSlots
virtual_within program zero t = no_slots
virtual_within program (suc levels) t =
    slots_at t
    (fold (with_method program (definition_of program t))
    (slots_or_none (λ base. virtual_within program levels base) (base_of program (definition_of program t)))
    (own_methods_of program (definition_of program t)))

-- the virtual slots of a type. Without a cycle no way up has more levels than there are classes
abbrev pub virtual_slots_of : Program → TExpr → VirtualSlots
virtual_slots_of program t = virtual_within program (length program.classes) t

abbrev pub is_interface_kind : ClassKind → Bool
is_interface_kind kind.Plain = false
is_interface_kind kind.Abstract = false
is_interface_kind kind.Interface = true
is_interface_kind kind.Struct = false
is_interface_kind kind.Delegate = false

abbrev pub is_interface_class : Option ClassDef → Bool
is_interface_class (Some c) = is_interface_kind c.kind
is_interface_class None = false

-- whether a type is an interface
abbrev pub is_interface : Program → TExpr → Bool
is_interface program t = is_interface_class (class_of program t)

-- each method of each interface of a definition, with its interface
abbrev pub places_of : Program → TExpr → List (TExpr × ℕ)
places_of program definition = candidates program (interfaces_of program definition)

abbrev pub match_of_method : Program → TExpr → TExpr → Option MethodDef → Option (TExpr × ℕ)
match_of_method program definition interface None = None
match_of_method program definition interface (Some m) = nearest_match program (signature_at interface m) (bases_of program definition)

-- the virtual method that an interface's method finds in a class or struct: that of its name and signature, nearest from the class upwards
abbrev pub match_of_place : Program → TExpr → TExpr × ℕ → Option (TExpr × ℕ)
match_of_place program definition place = match_of_method program definition place.0 (method_at program place.1)

-- the method that stands in the slot of the one that is found
abbrev pub standing : VirtualSlots → Option (TExpr × ℕ) → Option MethodTree
standing slots found = option_and_then (λ c. option_and_then (λ slot. slice_get slots.stands slot) (slot_taken slots c.1)) found

-- what the place of an interface's method holds: in an interface that method itself, else the method that implements it. Where MissingImplementation refuses nothing, one is found
abbrev pub place_holds : Program → TExpr → VirtualSlots → TExpr × ℕ → MethodTree
place_holds program definition slots place =
    if is_interface program definition
    then method_of place.0 place.1
    else unwrap_or (standing slots (match_of_place program definition place)) (method_of place.0 place.1)

-- the slots of a definition: the virtual ones, then a place for each method of each interface
abbrev pub definition_slots : Program → TExpr → List MethodTree
definition_slots program definition =
    (virtual_slots_of program definition).stands ++
    map (place_holds program definition (virtual_slots_of program definition)) (places_of program definition)

-- the slots of a type: those of its definition, with the arguments put
abbrev pub slots_of : Program → TExpr → List MethodTree
slots_of program t = map (method_tree_at t) (definition_slots program (definition_of program t))

-- how many methods these interfaces have
abbrev pub method_count : Program → List TExpr → ℕ
method_count program ts = sum_by (λ t. length (own_methods_of program t)) ts

-- the number of the slot in which a type has a method of an interface, which is the one with this place among the interface's own methods. None where the type has no such interface; of interfaces that became equal the first counts
abbrev pub implementation_of : Program → TExpr → TExpr → ℕ → Option ℕ
implementation_of program exact interface ordinal =
    let definition : TExpr = definition_of program exact in
    option_map
    (λ k. length (virtual_slots_of program definition).stands + (method_count program (take k (interfaces_of program definition)) + ordinal))
    (position (λ each. is_same (with_args_of exact each) interface) (interfaces_of program definition))
