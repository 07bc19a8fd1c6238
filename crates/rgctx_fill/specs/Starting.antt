-- What the start of a fill gives. This project's own.
use Rattle.std.specs.Prelude.{◌≡◌, ℕ, ◌+◌, ◌^◌, ◌≤◌, ◌<◌, true, List, [], length, slice_get, Option, Some, None}
use Rattle.std.specs.List.{All}
use Rattle.type_tree.specs.declared.tree.TExpr.{TExpr}
use Rattle.type_tree.specs.Tree.{IsClosed}
use Rattle.il_model.specs.declared.class.ClassDef.{ClassDef}
use Rattle.il_model.specs.declared.entry.Entry.{Entry}
use Rattle.il_model.specs.declared.entry.Entry.TheVariants as entry
use Rattle.il_model.specs.declared.layout.Limit.{Limit}
use Rattle.il_model.specs.declared.layout.MethodTree.{MethodTree}
use Rattle.il_model.specs.declared.method.MethodDef.{MethodDef}
use Rattle.il_model.specs.declared.program.Program.{Program}
use Rattle.il_model.specs.Find.{class_number_of}
use Rattle.il_model.specs.Found.{method_at}
use Rattle.il_model.specs.ClassRules.{has_counts, EachClass, HasTypes, HasFewSlots}
use Rattle.il_model.specs.Methods.{limit_of_method, limit_of_entry}
use Rattle.rgctx_template.specs.Catalogue.{CatData}
use Rattle.rgctx_fill.specs.declared.spelled.NodeTree.{NodeTree}
use Rattle.rgctx_fill.specs.declared.stage.NodeStep.{NodeStep}
use Rattle.rgctx_fill.specs.declared.naming.Planned.{Planned}
use Rattle.rgctx_fill.specs.declared.naming.Planned.TheVariants as planned
use Rattle.rgctx_fill.specs.declared.starting.FillStart.{FillStart}
use Rattle.rgctx_fill.specs.declared.starting.FillStart.TheVariants as start
use Rattle.rgctx_fill.specs.Spelled.{spelled}
use Rattle.rgctx_fill.specs.Nodes.{MayStand}
use Rattle.rgctx_fill.specs.Templates.{tree_template, template_at}
use Rattle.rgctx_fill.specs.NamedValues.{IsValue, entry_at, method_in_slot, offset_value}
use Rattle.rgctx_fill.specs.Turns.{FillData, node_for, first_stage}
use Rattle.rgctx_fill.specs.Plans.{AreSpelled, IsPlan}
use Rattle.rgctx_fill.specs.Steps.{type_steps, method_steps}
use Rattle.rgctx_fill.specs.Bases.{base_named}
use Rattle.rgctx_fill.specs.Ready.{IsReady}

-- ---- what is asked of a catalogue

-- a type without variables whose classes are the program's, with as many arguments as variables
pub record IsWholeType (program : Program) (t : TExpr) : Type 0 where
  pub closed : IsClosed t
  pub counts : has_counts program t ≡ true

-- a method of the program at such a type of its class and such arguments, as many as it has variables
pub record IsWholeMethod (program : Program) (m : MethodTree) : Type 0 where
  pub method : MethodDef
  pub is : method_at program m.method ≡ Some method
  pub owner : class_number_of m.class ≡ Some method.owner
  pub class : IsWholeType program m.class
  pub count : length m.args ≡ length method.vars
  pub args : All (IsWholeType program) m.args

abbrev pub IsWholeSlot : Program → Option MethodTree → Type 0
IsWholeSlot program None = ⊥
IsWholeSlot program (Some m) = IsWholeMethod program m

pub record HasOffset (program : Program) (class : TExpr) (place : ℕ) : Type 0 where
  pub value : ℕ
  pub is : offset_value program class place ≡ Some value

-- an entry without variables names a type, a method, a field or a slot that is there, each class with as many arguments as variables
abbrev pub IsWhole : Program → NodeTree → Entry → Type 0
IsWhole program spells (entry.Kind t) = IsWholeType program t
IsWhole program spells (entry.Method number class args) = IsWholeMethod program (record { method = number; class = class; args = args })
IsWhole program spells (entry.Size t) = Unit {0}
IsWhole program spells (entry.Extent t) = Unit {0}
IsWhole program spells (entry.Offset t place) = HasOffset program t place
IsWhole program spells (entry.Slot number) = IsWholeSlot program (method_in_slot program spells number)

-- no more classes, methods and variables than node words have room for
pub record IsNameable (program : Program) : Type 0 where
  pub classes : length program.classes ≤ 4096
  pub methods : length program.methods ≤ 16384
  pub class_vars : (number : ℕ) (c : ClassDef) → slice_get program.classes number ≡ Some c → length c.vars ≤ 3
  pub method_vars : (number : ℕ) (m : MethodDef) → method_at program number ≡ Some m → length m.vars ≤ 2

-- what the plans of fills ask of a catalogue: each entry of whatever may have a node is whole with its arguments, and has a row that the directory can name
pub record IsFillable (cat : CatData) : Type 0 where
  pub types : HasTypes cat.program
  pub slots : EachClass HasFewSlots cat.program
  pub nameable : IsNameable cat.program
  pub bodies : length cat.bodies < 2 ^ 32
  pub whole : (i : ℕ) (spells : NodeTree) (number : ℕ) (e : Entry) → MayStand cat.program i spells → slice_get (tree_template cat spells) number ≡ Some e → IsWhole cat.program spells (entry_at spells e)
  pub few : (i : ℕ) (spells : NodeTree) → MayStand cat.program i spells → length (tree_template cat spells) ≤ 1792

-- ---- what an entry needs

abbrev pub limit_of_slot : Program → Option MethodTree → Option Limit
limit_of_slot program None = None
limit_of_slot program (Some m) = limit_of_method program m

-- the limit that what an entry names passes, if it does; a slot's method is that of the type which the node spells
abbrev pub limit_named : Program → NodeTree → Entry → Option Limit
limit_named program spells (entry.Kind t) = limit_of_entry program (entry.Kind t)
limit_named program spells (entry.Method number class args) = limit_of_entry program (entry.Method number class args)
limit_named program spells (entry.Size t) = limit_of_entry program (entry.Size t)
limit_named program spells (entry.Extent t) = limit_of_entry program (entry.Extent t)
limit_named program spells (entry.Offset t place) = limit_of_entry program (entry.Offset t place)
limit_named program spells (entry.Slot number) = limit_of_slot program (method_in_slot program spells number)

abbrev pub steps_of_slot : Option MethodTree → List NodeStep
steps_of_slot None = []
steps_of_slot (Some m) = method_steps m

-- the nodes that the value of an entry needs; sizes and offsets need none
abbrev pub steps_named : Program → NodeTree → Entry → List NodeStep
steps_named program spells (entry.Kind t) = type_steps t 0
steps_named program spells (entry.Method number class args) = method_steps (record { method = number; class = class; args = args })
steps_named program spells (entry.Size t) = []
steps_named program spells (entry.Extent t) = []
steps_named program spells (entry.Offset t place) = []
steps_named program spells (entry.Slot number) = steps_of_slot (method_in_slot program spells number)

-- with nodes for these steps, the number of the last and the base are the value of the entry
pub record IsPlanOf (cat : CatData) (spells : NodeTree) (e : Entry) (steps : List NodeStep) (base : ℕ) : Type 0 where
  pub order : steps ≡ steps_named cat.program spells e
  pub base_is : base ≡ base_named cat spells e
  pub trees : List NodeTree
  pub plan : IsPlan cat.program steps trees
  pub value : (at : ℕ → ℕ) (numbers : List ℕ) → length numbers ≡ length steps → AreSpelled (spelled at) trees numbers → IsValue cat at spells e (base + node_for numbers (length numbers))
  pub positive : length steps ≡ 0 → 0 < base
  pub small : base < 2 ^ 63

-- what is planned for an entry without variables: its nodes, or the limit that what it names passes
abbrev pub IsPlanned : CatData → NodeTree → Entry → Planned → Type 0
IsPlanned cat spells e (planned.Plan steps base) = (limit_named cat.program spells e ≡ None) × IsPlanOf cat spells e steps.items base
IsPlanned cat spells e (planned.Refused limit) = limit_named cat.program spells e ≡ Some limit

-- ---- the start

-- the entry with this number in the template of a node, with the arguments put for its variables
pub record IsEntryOf (cat : CatData) (held : ℕ → ℕ) (node number : ℕ) (e : Entry) : Type 0 where
  pub entry : Entry
  pub is : slice_get (template_at cat held node) number ≡ Some entry
  pub closed : e ≡ entry_at (spelled held node) entry

-- a fill of the entry is at its first turn: none of its nodes is found
pub record IsBegun (cat : CatData) (held : ℕ → ℕ) (node number : ℕ) (f : FillData) : Type 0 where
  pub entry : Entry
  pub is : IsEntryOf cat held node number entry
  pub admitted : limit_named cat.program (spelled held node) entry ≡ None
  pub node_is : f.node ≡ node
  pub entry_is : f.entry ≡ number
  pub steps : f.steps ≡ steps_named cat.program (spelled held node) entry
  pub base : f.base ≡ base_named cat (spelled held node) entry
  pub found : f.found ≡ []
  pub stage : f.stage ≡ first_stage f.steps 0
  pub ready : IsReady cat held f

-- what the entry names passes the limit
pub record IsRefused (cat : CatData) (held : ℕ → ℕ) (node number : ℕ) (limit : Limit) : Type 0 where
  pub entry : Entry
  pub is : IsEntryOf cat held node number entry
  pub passes : limit_named cat.program (spelled held node) entry ≡ Some limit

abbrev pub Starts : CatData → (ℕ → ℕ) → ℕ → ℕ → FillStart → Type 0
Starts cat held node number (start.Ready fill) = IsBegun cat held node number fill
Starts cat held node number (start.Refused limit) = IsRefused cat held node number limit
