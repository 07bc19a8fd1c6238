-- The value that an entry of a node names. This project's own.
use Rattle.std.specs.Prelude.{◌≡◌, ℕ, ◌+◌, ◌-◌, ◌*◌, ◌%◌, ◌<◌, Bool, not, List, [], ◌++◌, length, take, count_by, slice_get, Option, Some, None, option_map, option_and_then, if◌then◌else◌}
use Rattle.type_tree.specs.declared.tree.TExpr.{TExpr}
use Rattle.il_model.specs.declared.class.FieldDef.{FieldDef}
use Rattle.il_model.specs.declared.entry.Entry.{Entry}
use Rattle.il_model.specs.declared.entry.Entry.TheVariants as entry
use Rattle.il_model.specs.declared.key.BodyRow.{BodyRow}
use Rattle.il_model.specs.declared.layout.Layout.{Layout}
use Rattle.il_model.specs.declared.layout.MethodTree.{MethodTree}
use Rattle.il_model.specs.declared.program.Program.{Program}
use Rattle.il_model.specs.Find.{class_of}
use Rattle.il_model.specs.Kinds.{is_value}
use Rattle.il_model.specs.Entries.{arguments_of, closed_entry}
use Rattle.il_model.specs.Layouts.{fields_in, layout_of, words_of, instance_words_of}
use Rattle.il_model.specs.Slots.{slots_of}
use Rattle.share_canon.specs.Rows.{Picks}
use Rattle.rgctx_template.specs.Catalogue.{CatData}
use Rattle.rgctx_words.specs.Regions.{node_count}
use Rattle.rgctx_fill.specs.declared.spelled.NodeTree.{NodeTree}
use Rattle.rgctx_fill.specs.declared.spelled.NodeTree.TheVariants as tree
use Rattle.rgctx_fill.specs.Spelled.{spelled, naming_of}
use Rattle.rgctx_fill.specs.Templates.{template_at}

-- ---- sizes and offsets

-- twice the words of a value, one more where its type is a value type, and one more still
abbrev pub size_value : Program → TExpr → ℕ
size_value program t = 2 * words_of program t + (if is_value program t then 1 else 0) + 1

-- the words of an instance, and one
abbrev pub extent_value : Program → TExpr → ℕ
extent_value program t = instance_words_of program t + 1

abbrev pub is_instance : FieldDef → Bool
is_instance f = not f.fixed

-- where a class's own field lies, which stands at a place of its fields: a static one among the static words, another one in an instance, where its own fields are the last
abbrev pub offset_in : Layout → List FieldDef → ℕ → FieldDef → Option ℕ
offset_in layout fields place f =
    if f.fixed
    then slice_get layout.fixed_offsets (count_by (λ each. each.fixed) (take place fields))
    else slice_get layout.offsets (length layout.offsets - count_by is_instance fields + count_by is_instance (take place fields))

abbrev pub offset_of : Program → TExpr → ℕ → Option ℕ
offset_of program class place =
    option_and_then (offset_in (layout_of program class) (fields_in (class_of program class)) place) (slice_get (fields_in (class_of program class)) place)

-- the offset of the field, and one
abbrev pub offset_value : Program → TExpr → ℕ → Option ℕ
offset_value program class place = option_map (λ offset. offset + 1) (offset_of program class place)

-- ---- methods

abbrev pub entry_in : Option BodyRow → ℕ
entry_in None = 0
entry_in (Some row) = row.entry

-- the entry word of the body that serves an instantiated method best, 0 where none does and it is interpreted
pub record IsEntryWord (cat : CatData) (m : MethodTree) (word : ℕ) : Type 0 where
  pub place : Option ℕ
  pub best : Picks cat.program cat.bodies m.method (arguments_of m.class ++ m.args) (length cat.bodies) place
  pub is : word ≡ entry_in (option_and_then (slice_get cat.bodies) place)

-- the value of an instantiated method: 65,536 times its entry word, and its node
pub record IsMethodValue (cat : CatData) (at : ℕ → ℕ) (m : MethodTree) (value : ℕ) : Type 0 where
  pub node : ℕ
  pub low : node < node_count
  pub spells : spelled at node ≡ tree.Method m
  pub word : ℕ
  pub serves : IsEntryWord cat m word
  pub is : value ≡ 65536 * word + node

-- ---- entries

-- the types that stand for the variables of the class, and for those of the method, in the template of what a node spells
abbrev pub class_arguments : NodeTree → List TExpr
class_arguments (tree.Kind t) = arguments_of t
class_arguments (tree.Method m) = arguments_of m.class
class_arguments tree.Other = []
class_arguments (tree.Zero n) = []

abbrev pub method_arguments : NodeTree → List TExpr
method_arguments (tree.Kind t) = []
method_arguments (tree.Method m) = m.args
method_arguments tree.Other = []
method_arguments (tree.Zero n) = []

-- an entry with the arguments of what a node spells put for its variables
abbrev pub entry_at : NodeTree → Entry → Entry
entry_at spells e = closed_entry (class_arguments spells) (method_arguments spells) e

-- the method in a slot of the type that a node spells
abbrev pub method_in_slot : Program → NodeTree → ℕ → Option MethodTree
method_in_slot program (tree.Kind t) number = slice_get (slots_of program t) number
method_in_slot program (tree.Method m) number = None
method_in_slot program tree.Other number = None
method_in_slot program (tree.Zero n) number = None

abbrev pub IsSlotValue : CatData → (ℕ → ℕ) → Option MethodTree → ℕ → Type 0
IsSlotValue cat at (Some m) value = IsMethodValue cat at m value
IsSlotValue cat at None value = ⊥

-- the value of an entry without variables: a type's is its node
abbrev pub IsValue : CatData → (ℕ → ℕ) → NodeTree → Entry → ℕ → Type 0
IsValue cat at spells (entry.Kind t) value = naming_of at value ≡ Some t
IsValue cat at spells (entry.Method number class args) value = IsMethodValue cat at (record { method = number; class = class; args = args }) value
IsValue cat at spells (entry.Size t) value = value ≡ size_value cat.program t
IsValue cat at spells (entry.Extent t) value = value ≡ extent_value cat.program t
IsValue cat at spells (entry.Offset t place) value = offset_value cat.program t place ≡ Some value
IsValue cat at spells (entry.Slot number) value = IsSlotValue cat at (method_in_slot cat.program spells number) value

-- the value is the one that the entry with this number in the template of a node names
pub record IsNamed (cat : CatData) (at : ℕ → ℕ) (i number value : ℕ) : Type 0 where
  pub entry : Entry
  pub is : slice_get (template_at cat at i) number ≡ Some entry
  pub names : IsValue cat at (spelled at i) (entry_at (spelled at i) entry) value

-- the node that the value of an entry names, where it names one
abbrev pub node_in : Entry → ℕ → Option ℕ
node_in (entry.Kind t) value = Some value
node_in (entry.Method number class args) value = Some (value % 65536)
node_in (entry.Size t) value = None
node_in (entry.Extent t) value = None
node_in (entry.Offset t place) value = None
node_in (entry.Slot number) value = Some (value % 65536)
