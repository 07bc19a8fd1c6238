-- The items of each plain instruction. This project's own.
use Rattle.std.specs.Prelude.{ℕ, zero, suc, ◌+◌, ◌-◌, ◌*◌, ◌%◌, ◌==◌, ◌&&◌, nat_lt, min, Bool, true, false, if◌then◌else◌, List, [], ◌∷◌, ◌++◌, length, map, flat_map, slice_get, slice_index, Option, Some, None, unwrap_or}
use Rattle.type_tree.specs.declared.tree.TExpr.{TExpr}
use Rattle.il_model.specs.declared.method.Body.{Body}
use Rattle.il_model.specs.declared.method.MethodDef.{MethodDef}
use Rattle.il_model.specs.declared.method.Shape.{Shape}
use Rattle.il_model.specs.declared.method.PType.{PType}
use Rattle.il_model.specs.declared.method.PType.TheVariants as ptype
use Rattle.il_model.specs.declared.op.Op.{Op}
use Rattle.il_model.specs.declared.program.Program.{Program}
use Rattle.il_model.specs.Find.{takes_object}
use Rattle.il_model.specs.Layouts.{words_of}
use Rattle.il_model.specs.Admission.{most_words}
use Rattle.il_model.specs.Kinds.{is_struct_class}
use Rattle.mn_outside.specs.declared.places.Label.{Label}
use Rattle.store_object.specs.declared.request.Form.{Form}
use Rattle.store_object.specs.declared.request.Form.TheVariants as printed
use Rattle.cil_flow.specs.declared.plan.Plan.{Plan}
use Rattle.cil_flow.specs.declared.state.State.{State}
use Rattle.cil_flow.specs.declared.state.StackType.{StackType}
use Rattle.cil_flow.specs.declared.state.StackType.TheVariants as stack
use Rattle.cil_meaning.specs.Types.{is_bool}
use Rattle.cil_meaning.specs.Values.{Value, Plain, Managed}
use Rattle.cil_meaning.specs.Groups.{Wrapping, Sum, Difference, Product, Conjunction, Disjunction, Exclusive, Shift, Leftwards, Rightwards, Unary, Negative, Complement, Conversion, ToInt32, ToInt64, ToUnsigned64, ToInt32Checked, Comparison, Equal, Unequal, Less, LessOrEqual, Greater, GreaterOrEqual, NumberForm, Wraps, Checks, Divides, Shifts, Turns, Converts, Compares, StackForm, Rests, Copies, Drops, Pushes, Slot, Argument, Local, PlaceForm, Reads, Points, Writes, BranchForm, Jumps, JumpsWhere, JumpsBy, Chooses, Leaves, CallForm, Calls, CallsSlot, CallsConstrained, Creates, Returns, LibraryForm, Prints, Swaps, Names, Starts, Joins, Group, OnStack, OnPlaces, OnNumbers, OnBranches, OnCalls, OnMembers, OnArrays, OnBoxes, OnThrow, OnLibrary, Excluded, group_of}
use Rattle.rv_isa.specs.declared.instr.Instr.{Instr}
use Rattle.rv_isa.specs.declared.instr.Instr.TheVariants as rv
use Rattle.rv_isa.specs.declared.item.Item.{Item}
use Rattle.rv_isa.specs.declared.item.Item.TheVariants as item
use Rattle.rv_codegen.specs.FrameWords.{upper_of, loads_word, stores_word, moves_words, addresses_word}
use Rattle.rv_codegen.specs.Constants.{sets_word}

-- what code is made from: a method of a program, the stack before each of its instructions, the plan of its frames, and a label for
-- each instruction
pub record BodyData : Type 0 where
  pub program : Program
  pub method : MethodDef
  pub states : List State
  pub plan : Plan
  pub labels : List Label

abbrev pub plain : List Instr → List Item
plain instrs = map item.Plain instrs

-- one word that does nothing
abbrev pub rest : List Instr
rest = rv.Addi 0 0 0 ∷ []

-- Arithmetic on x5 and x6, with the result in x5 -----------------------------

abbrev pub wrapping_instr : Wrapping → (is_narrow : Bool) → Instr
wrapping_instr Sum true = rv.Addw 5 5 6
wrapping_instr Sum false = rv.Add 5 5 6
wrapping_instr Difference true = rv.Subw 5 5 6
wrapping_instr Difference false = rv.Sub 5 5 6
wrapping_instr Product true = rv.Mulw 5 5 6
wrapping_instr Product false = rv.Mul 5 5 6
wrapping_instr Conjunction is_narrow = rv.And 5 5 6
wrapping_instr Disjunction is_narrow = rv.Or 5 5 6
wrapping_instr Exclusive is_narrow = rv.Xor 5 5 6

abbrev pub shift_instr : Shift → (is_narrow : Bool) → Instr
shift_instr Leftwards true = rv.Sllw 5 5 6
shift_instr Leftwards false = rv.Sll 5 5 6
shift_instr (Rightwards true) true = rv.Sraw 5 5 6
shift_instr (Rightwards true) false = rv.Sra 5 5 6
shift_instr (Rightwards false) true = rv.Srlw 5 5 6
shift_instr (Rightwards false) false = rv.Srl 5 5 6

abbrev pub unary_instr : Unary → (is_narrow : Bool) → Instr
unary_instr Negative true = rv.Subw 5 0 5
unary_instr Negative false = rv.Sub 5 0 5
unary_instr Complement is_narrow = rv.Xori 5 5 4095

-- whether x5 is below x6, or x6 below x5, as signed numbers or not
abbrev pub below_instr : (is_signed : Bool) → (first second : ℕ) → Instr
below_instr true first second = rv.Slt 5 first second
below_instr false first second = rv.Sltu 5 first second

-- a test turned over
abbrev pub turned_over : List Instr
turned_over = rv.Xori 5 5 1 ∷ []

abbrev pub comparison_instrs : Comparison → List Instr
comparison_instrs Equal = rv.Sub 5 5 6 ∷ rv.Sltiu 5 5 1 ∷ []
comparison_instrs Unequal = rv.Sub 5 5 6 ∷ rv.Sltu 5 0 5 ∷ []
comparison_instrs (Less is_signed) = below_instr is_signed 5 6 ∷ []
comparison_instrs (LessOrEqual is_signed) = below_instr is_signed 6 5 ∷ turned_over
comparison_instrs (Greater is_signed) = below_instr is_signed 6 5 ∷ []
comparison_instrs (GreaterOrEqual is_signed) = below_instr is_signed 5 6 ∷ turned_over

-- Branches -------------------------------------------------------------------

-- past the next three code words where the comparison doesn't hold
abbrev pub unless_below : (is_signed : Bool) → (first second : ℕ) → Instr
unless_below true first second = rv.Bge first second 12
unless_below false first second = rv.Bgeu first second 12

abbrev pub where_below : (is_signed : Bool) → (first second : ℕ) → Instr
where_below true first second = rv.Blt first second 12
where_below false first second = rv.Bltu first second 12

abbrev pub unless_instr : Comparison → Instr
unless_instr Equal = rv.Bne 5 6 12
unless_instr Unequal = rv.Beq 5 6 12
unless_instr (Less is_signed) = unless_below is_signed 5 6
unless_instr (LessOrEqual is_signed) = where_below is_signed 6 5
unless_instr (Greater is_signed) = unless_below is_signed 6 5
unless_instr (GreaterOrEqual is_signed) = where_below is_signed 5 6

abbrev pub unless_true : (is_true : Bool) → Instr
unless_true true = rv.Beq 5 0 12
unless_true false = rv.Bne 5 0 12

-- The forms ------------------------------------------------------------------

abbrev pub is_int32 : Option StackType → Bool
is_int32 None = false
is_int32 (Some stack.Int32) = true
is_int32 (Some stack.Int64) = false
is_int32 (Some stack.Native) = false
is_int32 (Some stack.Null) = false
is_int32 (Some (stack.Kind t)) = false
is_int32 (Some (stack.Boxed t)) = false
is_int32 (Some (stack.Pointer t)) = false

abbrev pub stack_of : Option State → List StackType
stack_of None = []
stack_of (Some s) = s.stack

abbrev pub is_bool_place : Option PType → Bool
is_bool_place None = false
is_bool_place (Some (ptype.Value t)) = is_bool t
is_bool_place (Some (ptype.Pointer t)) = false
is_bool_place (Some ptype.Native) = false

abbrev pub locals_in : Option Body → List PType
locals_in None = []
locals_in (Some b) = b.locals

abbrev pub form_number : Form → ℕ
form_number printed.Number = 0
form_number printed.String = 1

-- x6, a number of an object from 1 to 2^30 - 1, becomes 2^62 + 2^24 times the number; any other word is kept
abbrev pub points_into_box : List Instr
points_into_box =
    rv.Srli 7 6 30 ∷ rv.Bne 7 0 24 ∷ rv.Beq 6 0 20 ∷ rv.Slli 6 6 24 ∷ rv.Addi 7 0 1 ∷ rv.Slli 7 7 62 ∷ rv.Add 6 6 7 ∷ []

-- One round of the loop that copies words: a word at the address in x5 goes to the frame, over x6; the address in x28 is short of the
-- lower bits of the word's offset. Both go on to the next word, and back to the first instruction until x5 is the address in x29.
abbrev pub round_instrs : List Instr → (offset : ℕ) → List Instr
round_instrs adapt offset =
    rv.Ld 6 5 0 ∷ adapt ++ rv.Sd 6 28 (8 * offset % 4096) ∷ rv.Addi 5 5 8 ∷ rv.Addi 28 28 8 ∷ rv.Bne 5 29 (8176 - 4 * length adapt) ∷ []

-- so many words, one at least, from the address in x5 on go to the frame in a loop
abbrev pub loop_words : List Instr → (count offset : ℕ) → List Instr
loop_words adapt count offset = rv.Lui 28 (upper_of offset) ∷ rv.Add 28 28 8 ∷ rv.Addi 29 5 (8 * count) ∷ round_instrs adapt offset

-- A value goes from place to place of a plan: the words that both have, or else a rest.
abbrev pub moving : Plan → (from to : ℕ) → List Instr
moving k from to =
    if min (slice_index k.widths from) (slice_index k.widths to) == 0 then rest
    else moves_words (min (slice_index k.widths from) (slice_index k.widths to)) (slice_index k.offsets from) (slice_index k.offsets to)

-- an object is one argument
abbrev pub object_count : Shape → ℕ
object_count shape = if takes_object shape then 1 else 0

module _ (b : BodyData) where
  -- how many arguments, the object included, and how many arguments and locals
  abbrev pub argument_count : ℕ
  argument_count = object_count b.method.shape + length b.method.params

  abbrev pub held_count : ℕ
  held_count = argument_count + length (locals_in b.method.body)

  abbrev pub offset_of : ℕ → ℕ
  offset_of place = slice_index b.plan.offsets place

  abbrev pub width_of : ℕ → ℕ
  width_of place = slice_index b.plan.widths place

  abbrev pub move_instrs : (from to : ℕ) → List Instr
  move_instrs from to = moving b.plan from to

  -- the same to a place for a bool, which keeps the low eight bits
  abbrev pub store_instrs : (from to : ℕ) → (is_bool : Bool) → List Instr
  store_instrs from to true = loads_word 5 (offset_of from) ++ rv.Andi 5 5 255 ∷ stores_word 5 (offset_of to)
  store_instrs from to false = move_instrs from to

  abbrev pub place_number : Slot → ℕ
  place_number (Argument n) = n
  place_number (Local n) = argument_count + n

  -- the type of an argument, the object aside, or of a local
  abbrev pub place_type : Slot → Option PType
  place_type (Argument n) = if takes_object b.method.shape then (if n == 0 then None else slice_get b.method.params (n - 1)) else slice_get b.method.params n
  place_type (Local n) = slice_get (locals_in b.method.body) n

  abbrev pub label_of : ℕ → Label
  label_of n = unwrap_or (slice_get b.labels n) (record { number = 0 })

  -- At an instruction with this number, before which the stack is of these types, the deepest first. ---------------
  module _ (at : ℕ) (types : List StackType) where
    -- the place of the value so many below the top, counted from 1, and its type
    abbrev pub from_top : ℕ → ℕ
    from_top n = held_count + (length types - n)

    abbrev pub type_from_top : ℕ → Option StackType
    type_from_top n = slice_get types (length types - n)

    -- the next place of the stack
    abbrev pub next_place : ℕ
    next_place = held_count + length types

    abbrev pub push_instrs : Value → List Instr
    push_instrs (Plain kind words) = sets_word 5 (slice_index words 0) ++ stores_word 5 (offset_of next_place)
    push_instrs (Managed q) = []

    abbrev pub stack_instrs : StackForm → List Instr
    stack_instrs Rests = rest
    stack_instrs Copies = move_instrs (from_top 1) next_place
    stack_instrs Drops = rest
    stack_instrs (Pushes v) = push_instrs v

    abbrev pub place_instrs : PlaceForm → List Instr
    place_instrs (Reads slot) = move_instrs (place_number slot) next_place
    place_instrs (Points slot) = addresses_word 5 (offset_of (place_number slot)) ++ stores_word 5 (offset_of next_place)
    place_instrs (Writes slot) = store_instrs (from_top 1) (place_number slot) (is_bool_place (place_type slot))

    -- two operands, and a result in the place of the first
    abbrev pub binary_instrs : List Instr → List Instr
    binary_instrs instrs = loads_word 5 (offset_of (from_top 2)) ++ loads_word 6 (offset_of (from_top 1)) ++ instrs ++ stores_word 5 (offset_of (from_top 2))

    abbrev pub unary_instrs : List Instr → List Instr
    unary_instrs instrs = loads_word 5 (offset_of (from_top 1)) ++ instrs ++ stores_word 5 (offset_of (from_top 1))

    -- an int64 keeps its word, and an int32 as well where its sign is extended
    abbrev pub conversion_instrs : Conversion → List Instr
    conversion_instrs ToInt32 = unary_instrs (rv.Addiw 5 5 0 ∷ [])
    conversion_instrs ToInt64 = rest
    conversion_instrs ToUnsigned64 = if is_int32 (type_from_top 1) then unary_instrs (rv.Slli 5 5 32 ∷ rv.Srli 5 5 32 ∷ []) else rest
    conversion_instrs ToInt32Checked = []

    abbrev pub number_instrs : NumberForm → List Instr
    number_instrs (Wraps form) = binary_instrs (wrapping_instr form (is_int32 (type_from_top 2)) ∷ [])
    number_instrs (Checks form) = []
    number_instrs (Divides form) = []
    number_instrs (Shifts form) = binary_instrs (shift_instr form (is_int32 (type_from_top 2)) ∷ [])
    number_instrs (Turns form) = unary_instrs (unary_instr form (is_int32 (type_from_top 1)) ∷ [])
    number_instrs (Converts form) = conversion_instrs form
    number_instrs (Compares form) = binary_instrs (comparison_instrs form)

    abbrev pub jump_items : ℕ → List Item
    jump_items to = item.Far (label_of to) ∷ []

    -- The table of a switch: past it the next instruction comes; else x7 is where the jump to the target stands, two code words each.
    abbrev pub switch_items : List ℕ → List Item
    switch_items targets =
        plain (loads_word 5 (offset_of (from_top 1)) ++ sets_word 6 (length targets) ++ rv.Bltu 5 6 12 ∷ [])
        ++ jump_items (suc at)
        ++ plain (rv.Auipc 7 0 ∷ rv.Slli 5 5 3 ∷ rv.Add 7 7 5 ∷ rv.Jalr 0 7 16 ∷ [])
        ++ flat_map jump_items targets

    abbrev pub branch_items : BranchForm → List Item
    branch_items (Jumps to) = jump_items to
    branch_items (JumpsWhere wanted to) = plain (loads_word 5 (offset_of (from_top 1)) ++ unless_true wanted ∷ []) ++ jump_items to
    branch_items (JumpsBy form to) = plain (loads_word 5 (offset_of (from_top 2)) ++ loads_word 6 (offset_of (from_top 1)) ++ unless_instr form ∷ []) ++ jump_items to
    branch_items (Chooses targets) = switch_items targets
    branch_items (Leaves to) = jump_items to

    -- the service RETURN
    abbrev pub leave_instrs : List Instr
    leave_instrs = rv.Addi 17 0 2 ∷ rv.Ecall ∷ []

    -- so many words of the frame, from an offset on, to the words at the address in x5, over x6; of a bool the low eight bits
    abbrev pub give_words : (count offset word : ℕ) → (is_bool : Bool) → List Instr
    give_words zero offset word is_bool = []
    give_words (suc n) offset word is_bool = loads_word 6 offset ++ (if is_bool then rv.Andi 6 6 255 ∷ [] else []) ++ rv.Sd 6 5 (8 * word) ∷ give_words n (offset + 1) (word + 1) is_bool

    -- the result goes to the address in word 3 of the frame; a value has 16 words at most
    abbrev pub return_instrs : Option TExpr → List Instr
    return_instrs None = leave_instrs
    return_instrs (Some t) = loads_word 5 3 ++ give_words (min (words_of b.program t) most_words) (offset_of (from_top 1)) 0 (is_bool t) ++ leave_instrs

    -- the service PRINT
    abbrev pub print_instrs : Form → List Instr
    print_instrs form = loads_word 10 (offset_of (from_top 1)) ++ rv.Addi 11 0 (form_number form) ∷ rv.Addi 17 0 24 ∷ rv.Ecall ∷ []

    abbrev pub call_items : CallForm → List Item
    call_items (Calls m) = []
    call_items (CallsSlot m) = []
    call_items (CallsConstrained t m) = []
    call_items (Creates m) = []
    call_items Returns = plain (return_instrs b.method.result)

    abbrev pub library_items : LibraryForm → List Item
    library_items (Prints form kind) = plain (print_instrs form)
    library_items (Swaps form kind) = []
    library_items Names = []
    library_items Starts = []
    library_items Joins = []

    -- the forms without entries that throw nothing; of each other form nothing is emitted here
    abbrev pub group_items : Group → List Item
    group_items (OnStack form) = plain (stack_instrs form)
    group_items (OnPlaces form) = plain (place_instrs form)
    group_items (OnNumbers form) = plain (number_instrs form)
    group_items (OnBranches form) = branch_items form
    group_items (OnCalls form) = call_items form
    group_items (OnMembers form) = []
    group_items (OnArrays form) = []
    group_items (OnBoxes form) = []
    group_items OnThrow = []
    group_items (OnLibrary form) = library_items form
    group_items Excluded = []

  -- what the code of an instruction is assembled from
  abbrev pub plain_items : ℕ → Op → List Item
  plain_items at op = group_items at (stack_of (slice_get b.states at)) (group_of op)

  -- the argument 0 of a struct's method is a pointer, or the number of the box for which the method is called
  abbrev pub is_unboxed : ℕ → Bool
  is_unboxed n = takes_object b.method.shape && n == 0 && is_struct_class (slice_get b.program.classes b.method.owner)

  -- What is done to a word of an argument in x6: a bool keeps the low eight bits; an object's number, which is below 2^30 and isn't 0,
  -- becomes the pointer to the object's word 0.
  abbrev pub adapts : ℕ → List Instr
  adapts n = if is_bool_place (place_type (Argument n)) then rv.Andi 6 6 255 ∷ [] else if is_unboxed n then points_into_box else []

  -- so many words from the address in x5 on go to the frame, over x6
  abbrev pub take_words : List Instr → (count word offset : ℕ) → List Instr
  take_words adapt zero word offset = []
  take_words adapt (suc n) word offset = (rv.Ld 6 5 (8 * word) ∷ adapt ++ stores_word 6 offset) ++ take_words adapt n (word + 1) (offset + 1)

  -- whether a loop copies an argument: one after the other its words would have more than 16 code words
  abbrev pub is_looped : ℕ → Bool
  is_looped n = nat_lt (if is_unboxed n then 1 else 3) (width_of n)

  -- the words of an argument, from the address in x5 on
  abbrev pub taken_argument : ℕ → List Instr
  taken_argument n = if is_looped n then loop_words (adapts n) (width_of n) (offset_of n) else take_words (adapts n) (width_of n) 0 (offset_of n)

  -- At a body's entry the arguments are copied, so many from one on, from the addresses in the list at x12.
  abbrev pub copies_arguments : (count first : ℕ) → List Instr
  copies_arguments zero first = []
  copies_arguments (suc n) first = (rv.Ld 5 12 (8 * first) ∷ taken_argument first) ++ copies_arguments n (first + 1)

  abbrev pub entry_items : List Item
  entry_items = plain (copies_arguments argument_count 0)

-- how many targets the table of a switch has
abbrev pub target_count : BranchForm → ℕ
target_count (Jumps to) = 0
target_count (JumpsWhere wanted to) = 0
target_count (JumpsBy form to) = 0
target_count (Chooses targets) = length targets
target_count (Leaves to) = 0

-- the same of any instruction
abbrev pub group_targets : Group → ℕ
group_targets (OnStack form) = 0
group_targets (OnPlaces form) = 0
group_targets (OnNumbers form) = 0
group_targets (OnBranches form) = target_count form
group_targets (OnCalls form) = 0
group_targets (OnMembers form) = 0
group_targets (OnArrays form) = 0
group_targets (OnBoxes form) = 0
group_targets OnThrow = 0
group_targets (OnLibrary form) = 0
group_targets Excluded = 0
