-- The items of a plain instruction by what it does. This project's own.
use Rattle.std.specs.Prelude.{ℕ, zero, suc, ◌+◌, ◌*◌, true, false, Bool, if◌then◌else◌, List, [], ◌∷◌, ◌++◌}
use Rattle.cil_flow.specs.declared.state.StackType.{StackType}
use Rattle.cil_meaning.specs.Groups as group
use Rattle.cil_meaning.specs.Groups.{Reads, Points, Writes}
use Rattle.rv_isa.specs.declared.instr.Instr.{Instr}
use Rattle.rv_isa.specs.declared.instr.Instr.TheVariants as rv
use Rattle.rv_isa.specs.declared.item.Item.{Item}
use Rattle.rv_codegen.specs.declared.forms.Binary.{Binary}
use Rattle.rv_codegen.specs.declared.forms.Binary.TheVariants as binary
use Rattle.rv_codegen.specs.declared.forms.Unary.{Unary}
use Rattle.rv_codegen.specs.declared.forms.Unary.TheVariants as unary
use Rattle.rv_codegen.specs.declared.forms.Conversion.{Conversion}
use Rattle.rv_codegen.specs.declared.forms.Conversion.TheVariants as conversion
use Rattle.rv_codegen.specs.declared.forms.Comparison.{Comparison}
use Rattle.rv_codegen.specs.declared.forms.Comparison.TheVariants as comparison
use Rattle.rv_codegen.specs.declared.forms.Slot.{Slot}
use Rattle.rv_codegen.specs.declared.forms.Slot.TheVariants as slot
use Rattle.rv_codegen.specs.declared.forms.PlainForm.{PlainForm}
use Rattle.rv_codegen.specs.declared.forms.PlainForm.TheVariants as form
use Rattle.rv_codegen.specs.FrameWords.{loads_word, stores_word}
use Rattle.rv_codegen.specs.Constants.{sets_word}
use Rattle.rv_codegen.specs.PlainItems.{BodyData, plain, rest, wrapping_instr, shift_instr, unary_instr, comparison_instrs, is_int32, move_instrs, offset_of, from_top, type_from_top, next_place, place_instrs, binary_instrs, unary_instrs, conversion_instrs, branch_items, switch_items, return_instrs, print_instrs, taken_argument}

abbrev pub binary_instr : Binary → (is_narrow : Bool) → Instr
binary_instr binary.Add is_narrow = wrapping_instr group.Sum is_narrow
binary_instr binary.Sub is_narrow = wrapping_instr group.Difference is_narrow
binary_instr binary.Mul is_narrow = wrapping_instr group.Product is_narrow
binary_instr binary.And is_narrow = wrapping_instr group.Conjunction is_narrow
binary_instr binary.Or is_narrow = wrapping_instr group.Disjunction is_narrow
binary_instr binary.Xor is_narrow = wrapping_instr group.Exclusive is_narrow
binary_instr binary.Shl is_narrow = shift_instr group.Leftwards is_narrow
binary_instr binary.Shr is_narrow = shift_instr (group.Rightwards true) is_narrow
binary_instr binary.ShrUn is_narrow = shift_instr (group.Rightwards false) is_narrow

abbrev pub unary_of : Unary → group.Unary
unary_of unary.Neg = group.Negative
unary_of unary.Not = group.Complement

abbrev pub conversion_of : Conversion → group.Conversion
conversion_of conversion.Int32 = group.ToInt32
conversion_of conversion.Int64 = group.ToInt64
conversion_of conversion.Unsigned64 = group.ToUnsigned64

abbrev pub comparison_of : Comparison → group.Comparison
comparison_of comparison.Equal = group.Equal
comparison_of comparison.Unequal = group.Unequal
comparison_of comparison.Less = group.Less true
comparison_of comparison.LessUn = group.Less false
comparison_of comparison.LessOrEqual = group.LessOrEqual true
comparison_of comparison.LessOrEqualUn = group.LessOrEqual false
comparison_of comparison.Greater = group.Greater true
comparison_of comparison.GreaterUn = group.Greater false
comparison_of comparison.GreaterOrEqual = group.GreaterOrEqual true
comparison_of comparison.GreaterOrEqualUn = group.GreaterOrEqual false

abbrev pub slot_of : Slot → group.Slot
slot_of (slot.Argument n) = group.Argument n
slot_of (slot.Local n) = group.Local n

-- the items of a form in a body, at an instruction before which the stack is of these types
abbrev pub form_items : BodyData → ℕ → List StackType → PlainForm → List Item
form_items b at types form.Rest = plain rest
form_items b at types form.Copy = plain (move_instrs b (from_top b at types 1) (next_place b at types))
form_items b at types (form.Push word) = plain (sets_word 5 word ++ stores_word 5 (offset_of b (next_place b at types)))
form_items b at types (form.Read s) = plain (place_instrs b at types (Reads (slot_of s)))
form_items b at types (form.Point s) = plain (place_instrs b at types (Points (slot_of s)))
form_items b at types (form.Write s) = plain (place_instrs b at types (Writes (slot_of s)))
form_items b at types (form.Calculate f) = plain (binary_instrs b at types (binary_instr f (is_int32 (type_from_top b at types 2)) ∷ []))
form_items b at types (form.Turn f) = plain (unary_instrs b at types (unary_instr (unary_of f) (is_int32 (type_from_top b at types 1)) ∷ []))
form_items b at types (form.Convert f) = plain (conversion_instrs b at types (conversion_of f))
form_items b at types (form.Compare f) = plain (binary_instrs b at types (comparison_instrs (comparison_of f)))
form_items b at types (form.Jump to) = branch_items b at types (group.Jumps to)
form_items b at types (form.JumpWhere wanted to) = branch_items b at types (group.JumpsWhere wanted to)
form_items b at types (form.JumpBy f to) = branch_items b at types (group.JumpsBy (comparison_of f) to)
form_items b at types (form.Choose targets) = switch_items b at types targets.now
form_items b at types form.Return = plain (return_instrs b at types b.method.result)
form_items b at types (form.Print f) = plain (print_instrs b at types f)
form_items b at types form.Other = []

-- Pieces of the code that a loop repeats -------------------------------------

-- x7 is where the jump to the target stands whose number is in x5, in a table behind these words, of two code words each
abbrev pub table_instrs : List Instr
table_instrs = rv.Auipc 7 0 ∷ rv.Slli 5 5 3 ∷ rv.Add 7 7 5 ∷ rv.Jalr 0 7 16 ∷ []

-- a word of the frame goes to a word behind the address in x5, over x6; of a bool the low eight bits. And so many words.
abbrev pub given_word : (offset word : ℕ) → (is_bool : Bool) → List Instr
given_word offset word is_bool = loads_word 6 offset ++ (if is_bool then rv.Andi 6 6 255 ∷ [] else []) ++ rv.Sd 6 5 (8 * word) ∷ []

abbrev pub gives : (count offset word : ℕ) → (is_bool : Bool) → List Instr
gives zero offset word is_bool = []
gives (suc n) offset word is_bool = given_word offset word is_bool ++ gives n (offset + 1) (word + 1) is_bool

-- a word from the address in x5 on goes to the frame, over x6, where it is adapted
abbrev pub taken_word : List Instr → (word offset : ℕ) → List Instr
taken_word adapt word offset = rv.Ld 6 5 (8 * word) ∷ adapt ++ stores_word 6 offset

-- the words of an argument, from its address in the list at x12 on
abbrev pub copied_argument : BodyData → ℕ → List Instr
copied_argument b n = rv.Ld 5 12 (8 * n) ∷ taken_argument b n
