-- What an emitter owes: items whose code keeps to the instruction, wherever they are assembled. This project's own.
use Rattle.std.specs.Prelude.{◌≡◌, ◌⊎◌, ℕ, suc, ◌+◌, ◌-◌, ◌*◌, ◌<◌, ◌≤◌, true, false, List, [], ◌∷◌, ◌++◌, length, slice_get, slice_index, Option, Some, None, Ok}
use Rattle.type_tree.specs.declared.tree.TExpr.{TExpr}
use Rattle.mn_outside.specs.declared.places.Label.{Label}
use Rattle.il_model.specs.declared.key.BodyRow.{BodyRow}
use Rattle.il_model.specs.declared.layout.MethodTree.{MethodTree}
use Rattle.il_model.specs.declared.method.PType.{PType}
use Rattle.il_model.specs.declared.op.Op.{Op}
use Rattle.il_model.specs.Found.{method_at}
use Rattle.il_model.specs.Layouts.{words_of}
use Rattle.interaction.specs.Process.{Naming}
use Rattle.interaction.specs.Simulation.{Keeps, per_step}
use Rattle.cil_flow.specs.declared.state.StackType.{StackType}
use Rattle.cil_flow.specs.declared.state.StackType.TheVariants as stack
use Rattle.cil_meaning.specs.Values.{Value, Plain, Managed}
use Rattle.cil_meaning.specs.Naming.{Mention, put_type}
use Rattle.cil_meaning.specs.Frames.{Frame, Places, Frames}
use Rattle.cil_meaning.specs.Types.{is_bool, argument_places, local_places}
use Rattle.cil_meaning.specs.Site.{op_at}
use Rattle.cil_meaning.specs.Groups.{Rests, Copies, Drops, Pushes, Reads, Points, Writes, NumberForm, Wraps, Checks, Divides, Shifts, Turns, Converts, Compares, BranchForm, Jumps, JumpsWhere, JumpsBy, Chooses, Leaves, CallForm, Calls, CallsSlot, CallsConstrained, Creates, Returns, Group, OnStack, OnPlaces, OnNumbers, OnBranches, OnCalls, OnMembers, OnArrays, OnBoxes, OnThrow, OnLibrary, Excluded, group_of}
use Rattle.cil_meaning.specs.Meaning.{meaning}
use Rattle.rv_isa.specs.declared.item.Item.{Item}
use Rattle.rv_isa.specs.Assembly.{word_count, words_from, place_of}
use Rattle.rgctx_fill.specs.Spelled.{naming_of}
use Rattle.rgctx_fill.specs.ThreadStates.{ImageData, ThreadData}
use Rattle.rgctx_fill.specs.Standing.{Compiled, Together, At, sides}
use Rattle.rv_codegen.specs.Admitted.{IsAdmitted, size_of_type}
use Rattle.rv_codegen.specs.PlainItems.{BodyData, stack_of, held_count, place_number, place_type, is_bool_place, plain_items}

-- These items, assembled with these places of labels, stand in an image from this code word on.
pub record StandFrom (im : ImageData) (places : List (Option ℕ)) (from : ℕ) (items : List Item) : Type 0 where
  pub words : List ℕ
  pub assembled : words_from places from items ≡ Ok words
  pub there : (i word : ℕ) → slice_get words i ≡ Some word → slice_get im.code (from + i) ≡ Some word

-- the address of a code word
abbrev pub code_address : ℕ → ℕ
code_address from = 65536 + 4 * from

-- The row of an image is that of a body: of its method, with its plan, and with the code of each instruction where its label is.
pub record IsBodyOf (b : BodyData) (im : ImageData) (c : Compiled) (row : ℕ) (places : List (Option ℕ)) : Type 0 where
  pub program : im.cat.program ≡ b.program
  pub body : BodyRow
  pub is : slice_get im.cat.bodies row ≡ Some body
  pub method : method_at b.program body.method ≡ Some b.method
  pub plan : c.plan row ≡ b.plan
  pub fits : (n : ℕ) → held_count b + length (stack_of (slice_get b.states n)) ≤ length b.plan.offsets
  pub labels : (n to : ℕ) (l : Label) → slice_get b.labels n ≡ Some l → place_of places l.number ≡ Some to → (c.pc row n ≡ code_address to) × (to ≤ length im.code)
  pub short : length im.code ≤ 268435456

-- how many words a value has
abbrev pub words_in : Value → ℕ
words_in (Plain kind words) = length words
words_in (Managed q) = 1

abbrev pub size_or_none : BodyData → MethodTree → Option StackType → ℕ
size_or_none b m None = 0
size_or_none b m (Some t) = size_of_type b.program m t

-- the next place of a stack is there, and at least so wide
pub record HasPlace (b : BodyData) (types : List StackType) (n : ℕ) : Type 0 where
  pub there : held_count b + length types < length b.plan.offsets
  pub wide : n ≤ slice_index b.plan.widths (held_count b + length types)

-- The plan has a place for what an instruction pushes on a stack of these types: for the value of a constant, the value on top, what
-- an argument's or local's place holds, or a pointer. What other instructions push stands where an operand stood.
abbrev pub HasRoom : BodyData → MethodTree → List StackType → Group → Type 0
HasRoom b m types (OnStack Rests) = Unit {0}
HasRoom b m types (OnStack Copies) = HasPlace b types (size_or_none b m (slice_get types (length types - 1)))
HasRoom b m types (OnStack Drops) = Unit {0}
HasRoom b m types (OnStack (Pushes v)) = HasPlace b types (words_in v)
HasRoom b m types (OnPlaces (Reads slot)) = HasPlace b types (slice_index b.plan.widths (place_number b slot))
HasRoom b m types (OnPlaces (Points slot)) = HasPlace b types 1
HasRoom b m types (OnPlaces (Writes slot)) = Unit {0}
HasRoom b m types (OnNumbers form) = Unit {0}
HasRoom b m types (OnBranches form) = Unit {0}
HasRoom b m types (OnCalls form) = Unit {0}
HasRoom b m types (OnMembers form) = Unit {0}
HasRoom b m types (OnArrays form) = Unit {0}
HasRoom b m types (OnBoxes form) = Unit {0}
HasRoom b m types OnThrow = Unit {0}
HasRoom b m types (OnLibrary form) = Unit {0}
HasRoom b m types Excluded = Unit {0}

-- a number with sign or without, as the verifier found it
abbrev pub IsNumber : Option StackType → Type 0
IsNumber t = (t ≡ Some stack.Int32) ⊎ (t ≡ Some stack.Int64)

-- The operands of arithmetic are of the types that the verifier asks for, where the code depends on them.
abbrev pub AreOperands : List StackType → NumberForm → Type 0
AreOperands types (Wraps form) = IsNumber (slice_get types (length types - 2))
AreOperands types (Checks form) = Unit {0}
AreOperands types (Divides form) = Unit {0}
AreOperands types (Shifts form) = IsNumber (slice_get types (length types - 2))
AreOperands types (Turns form) = IsNumber (slice_get types (length types - 1))
AreOperands types (Converts form) = (slice_get types (length types - 1) ≡ Some stack.Native) ⊎ IsNumber (slice_get types (length types - 1))
AreOperands types (Compares form) = Unit {0}

abbrev pub HasOperands : List StackType → Group → Type 0
HasOperands types (OnStack form) = Unit {0}
HasOperands types (OnPlaces form) = Unit {0}
HasOperands types (OnNumbers form) = AreOperands types form
HasOperands types (OnBranches form) = Unit {0}
HasOperands types (OnCalls form) = Unit {0}
HasOperands types (OnMembers form) = Unit {0}
HasOperands types (OnArrays form) = Unit {0}
HasOperands types (OnBoxes form) = Unit {0}
HasOperands types OnThrow = Unit {0}
HasOperands types (OnLibrary form) = Unit {0}
HasOperands types Excluded = Unit {0}

-- The result has as many words, and is as well a bool or none, for this instantiation as the code takes it to be.
abbrev pub KnowsResult : BodyData → MethodTree → CallForm → Type 0
KnowsResult b m (Calls n) = Unit {0}
KnowsResult b m (CallsSlot n) = Unit {0}
KnowsResult b m (CallsConstrained t n) = Unit {0}
KnowsResult b m (Creates n) = Unit {0}
KnowsResult b m Returns = (t : TExpr) → b.method.result ≡ Some t → (is_bool (put_type m t) ≡ is_bool t) × (words_of b.program (put_type m t) ≡ words_of b.program t)

-- An argument's or local's place keeps the low bits alone exactly where its type is bool: a type variable may stand for bool only
-- where the code knows it.
abbrev pub KeepsKind : BodyData → MethodTree → Group → Type 0
KeepsKind b m (OnStack form) = Unit {0}
KeepsKind b m (OnPlaces (Reads slot)) = Unit {0}
KeepsKind b m (OnPlaces (Points slot)) = Unit {0}
KeepsKind b m (OnPlaces (Writes slot)) = (t : PType) → slice_get (argument_places b.program m b.method ++ local_places m b.method) (place_number b slot) ≡ Some t → is_bool_place (Some t) ≡ is_bool_place (place_type b slot)
KeepsKind b m (OnNumbers form) = Unit {0}
KeepsKind b m (OnBranches form) = Unit {0}
KeepsKind b m (OnCalls form) = KnowsResult b m form
KeepsKind b m (OnMembers form) = Unit {0}
KeepsKind b m (OnArrays form) = Unit {0}
KeepsKind b m (OnBoxes form) = Unit {0}
KeepsKind b m OnThrow = Unit {0}
KeepsKind b m (OnLibrary form) = Unit {0}
KeepsKind b m Excluded = Unit {0}

-- each target of a branch is an instruction of the body, which has a label; a switch may go on to the next one
abbrev pub AreLabelled : BodyData → List ℕ → Type 0
AreLabelled b [] = Unit {0}
AreLabelled b (to ∷ targets) = (to < length b.labels) × AreLabelled b targets

abbrev pub HasLabels : BodyData → ℕ → BranchForm → Type 0
HasLabels b at (Jumps to) = AreLabelled b (to ∷ [])
HasLabels b at (JumpsWhere wanted to) = AreLabelled b (to ∷ [])
HasLabels b at (JumpsBy form to) = AreLabelled b (to ∷ [])
HasLabels b at (Chooses targets) = AreLabelled b (suc at ∷ targets)
HasLabels b at (Leaves to) = AreLabelled b (to ∷ [])

abbrev pub HasTargets : BodyData → ℕ → Group → Type 0
HasTargets b at (OnStack form) = Unit {0}
HasTargets b at (OnPlaces form) = Unit {0}
HasTargets b at (OnNumbers form) = Unit {0}
HasTargets b at (OnBranches form) = HasLabels b at form
HasTargets b at (OnCalls form) = Unit {0}
HasTargets b at (OnMembers form) = Unit {0}
HasTargets b at (OnArrays form) = Unit {0}
HasTargets b at (OnBoxes form) = Unit {0}
HasTargets b at OnThrow = Unit {0}
HasTargets b at (OnLibrary form) = Unit {0}
HasTargets b at Excluded = Unit {0}

-- A return goes back to compiled code, as there is no interpreter yet.
abbrev pub IsCompiledAlone : Compiled → CallForm → Type 0
IsCompiledAlone c (Calls n) = Unit {0}
IsCompiledAlone c (CallsSlot n) = Unit {0}
IsCompiledAlone c (CallsConstrained t n) = Unit {0}
IsCompiledAlone c (Creates n) = Unit {0}
IsCompiledAlone c Returns = c.interprets ≡ false

abbrev pub GoesBack : Compiled → Group → Type 0
GoesBack c (OnStack form) = Unit {0}
GoesBack c (OnPlaces form) = Unit {0}
GoesBack c (OnNumbers form) = Unit {0}
GoesBack c (OnBranches form) = Unit {0}
GoesBack c (OnCalls form) = IsCompiledAlone c form
GoesBack c (OnMembers form) = Unit {0}
GoesBack c (OnArrays form) = Unit {0}
GoesBack c (OnBoxes form) = Unit {0}
GoesBack c OnThrow = Unit {0}
GoesBack c (OnLibrary form) = Unit {0}
GoesBack c Excluded = Unit {0}

-- the frames of a thread, the current one first, with what their places hold
abbrev pub frames_with : Frame → List Frame → Places → List Places → Frames
frames_with f around q outer = record { frames = f ∷ around; places = q ∷ outer }

-- What a number names is what the node with this number spells under the words, as in every run. Node 0 is not in use.
pub record NamesNodes (naming : Naming Mention TExpr) (w : ℕ → ℕ) : Type 0 where
  pub trees : (i : ℕ) (t : TExpr) → naming.tree_at i ≡ Some t → naming_of w i ≡ Some t
  pub unused : w 0 ≡ 0

-- A thread stands at an instruction of the body, in a process state that the body's states admit.
pub record StandsAt (b : BodyData) (at : ℕ) (op : Op) (im : ImageData) (c : Compiled) (row from : ℕ) (w : ℕ → ℕ) (f : Frame) (around : List Frame) (q : Places) (outer : List Places) (s : ThreadData) : Type 0 where
  pub together : Together im w c (frames_with f around q outer) s
  pub row_is : together.row ≡ row
  pub at_is : f.at ≡ at
  pub admitted : IsAdmitted b.program b.method (stack_of (slice_get b.states at)) f q
  pub operands : HasOperands (stack_of (slice_get b.states at)) (group_of op)
  pub targets : HasTargets b at (group_of op)
  pub kinds : KeepsKind b f.method (group_of op)
  pub room : HasRoom b f.method (stack_of (slice_get b.states at)) (group_of op)
  pub caller : GoesBack c (group_of op)

-- Wherever the items are assembled for the body, a thread that comes to them keeps to the process from this instruction to the
-- next place where both stand together, whatever is answered, by a turn at least and 1,024 at most.
abbrev pub Carries : BodyData → ℕ → Op → List Item → Type 0
Carries b at op items =
    (im : ImageData) (c : Compiled) (row from : ℕ) (places : List (Option ℕ)) → IsBodyOf b im c row places → op_at b.method at ≡ Some op
    → StandFrom im places from items → c.pc row at ≡ code_address from → c.pc row (suc at) ≡ code_address (from + word_count items)
    → (naming : Naming Mention TExpr) (gain : ThreadData → ℕ) (w : ℕ → ℕ) → NamesNodes naming w → (f : Frame) (around : List Frame) (q : Places) (outer : List Places) (s : ThreadData)
    → StandsAt b at op im c row from w f around q outer s
    → Keeps (sides im naming gain w) (At im w c) true per_step (meaning im.cat.program (frames_with f around q outer)) s

-- the items of a plain instruction carry it
abbrev pub IsCarried : BodyData → ℕ → Op → Type 0
IsCarried b at op = Carries b at op (plain_items b at op)
