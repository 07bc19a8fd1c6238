-- The code words of a list of items, and the places of labels. This project's own.
use Rattle.std.specs.Prelude.{◌≡◌, ◌<◌, ℕ, ◌+◌, ◌-◌, ◌*◌, ◌/◌, ◌%◌, ◌&&◌, nat_le, nat_lt, if◌then◌else◌, List, [], ◌∷◌, ◌++◌, sum_by, Option, Some, None, IsSome, Result, Ok, Err, slice_get, slice_set}
use Rattle.std.specs.Global.{Vec}
use Rattle.mn_outside.specs.declared.outside.Refused.{Refused}
use Rattle.mn_outside.specs.declared.outside.Refused.TheVariants.{Fault, NoMemory}
use Rattle.rv_isa.specs.declared.instr.Instr.{Instr}
use Rattle.rv_isa.specs.declared.instr.Instr.TheVariants.{Auipc, Jalr}
use Rattle.rv_isa.specs.declared.row.Row.{Row}
use Rattle.rv_isa.specs.declared.row.Row.TheVariants.{R, I, LongShift, ShortShift, S, B, U, J, Whole}
use Rattle.rv_isa.specs.declared.item.Item.{Item}
use Rattle.rv_isa.specs.declared.item.Item.TheVariants.{Plain, Branch, Far}
use Rattle.rv_isa.specs.declared.fault.AsmFault.{AsmFault}
use Rattle.rv_isa.specs.declared.fault.AsmFault.TheVariants.{Unplaced, FarBranch}
use Rattle.rv_isa.specs.Row.{row_of}
use Rattle.rv_isa.specs.Word.{row_word, word_of}

-- what an assembler holds: the items in order, and for each label, in the order in which they were made,
-- its place, the number of code words before it
pub record Assembly : Type 0 where
  pub items : List Item
  pub places : List (Option ℕ)

-- how many code words an item gives, and a list of items
abbrev pub item_len : Item → ℕ
item_len (Plain instr) = 1
item_len (Branch instr label) = 1
item_len (Far label) = 2

abbrev pub word_count : List Item → ℕ
word_count items = sum_by item_len items

-- the place of a label, where it has one
abbrev pub place_in : Option (Option ℕ) → Option ℕ
place_in None = None
place_in (Some place) = place

abbrev pub place_of : List (Option ℕ) → ℕ → Option ℕ
place_of places label = place_in (slice_get places label)

abbrev pub IsPlaced : Assembly → ℕ → Type 0
IsPlaced assembly label = IsSome (place_of assembly.places label)

-- an assembly with one more label, with a label's place put at the end of the items, and with one more item
abbrev pub with_label : Assembly → Assembly
with_label assembly = record assembly { places = assembly.places ++ None ∷ [] }

abbrev pub with_place : Assembly → ℕ → Assembly
with_place assembly label =
    record assembly { places = slice_set assembly.places label (Some (word_count assembly.items)) }

abbrev pub with_item : Assembly → Item → Assembly
with_item assembly item = record assembly { items = assembly.items ++ item ∷ [] }

-- the distance in bytes from code word `from` to code word `to`, in two's complement on 32 bits
abbrev pub distance : ℕ → ℕ → ℕ
distance from to = (4 * to + (4294967296 - 4 * from)) % 4294967296

-- how many code words a row's offset reaches: as many back, and one fewer ahead
abbrev pub reach_of : Row → ℕ
reach_of (R funct7 rs2 rs1 funct3 rd opcode) = 0
reach_of (I imm rs1 funct3 rd opcode) = 0
reach_of (LongShift top count rs1 funct3 rd opcode) = 0
reach_of (ShortShift top count rs1 funct3 rd opcode) = 0
reach_of (S imm rs2 rs1 funct3 opcode) = 0
reach_of (B offset rs2 rs1 funct3 opcode) = 1024
reach_of (U imm rd opcode) = 0
reach_of (J offset rd opcode) = 262144
reach_of (Whole word) = 0

-- an instruction of format B or J
abbrev pub HasOffset : Instr → Type 0
HasOffset instr = 0 < reach_of (row_of instr)

-- an item that may be emitted: the instruction of a branch is of format B or J
abbrev pub IsItem : Item → Type 0
IsItem (Plain instr) = Unit {0}
IsItem (Branch instr label) = HasOffset instr
IsItem (Far label) = Unit {0}

-- a row whose offset is replaced by the low bits of a distance
abbrev pub directed : Row → ℕ → Row
directed (R funct7 rs2 rs1 funct3 rd opcode) bytes = R funct7 rs2 rs1 funct3 rd opcode
directed (I imm rs1 funct3 rd opcode) bytes = I imm rs1 funct3 rd opcode
directed (LongShift top count rs1 funct3 rd opcode) bytes = LongShift top count rs1 funct3 rd opcode
directed (ShortShift top count rs1 funct3 rd opcode) bytes = ShortShift top count rs1 funct3 rd opcode
directed (S imm rs2 rs1 funct3 opcode) bytes = S imm rs2 rs1 funct3 opcode
directed (B offset rs2 rs1 funct3 opcode) bytes = B (bytes % 8192) rs2 rs1 funct3 opcode
directed (U imm rd opcode) bytes = U imm rd opcode
directed (J offset rd opcode) bytes = J (bytes % 2097152) rd opcode
directed (Whole word) bytes = Whole word

-- the word of a branch at code word `from` to a label
abbrev pub branch_word : Instr → ℕ → ℕ → Option ℕ → Result ℕ AsmFault
branch_word instr from label None = Err (Unplaced label)
branch_word instr from label (Some to) =
    if nat_le from (to + reach_of (row_of instr)) && nat_lt to (from + reach_of (row_of instr))
    then Ok (row_word (directed (row_of instr) (distance from to)))
    else Err (FarBranch from to)

-- a jump at code word `from` to a label however far: AUIPC x6 with the distance's upper twenty bits, rounded,
-- and JALR x0 from x6 with its lower twelve
abbrev pub far_words : ℕ → ℕ → Option ℕ → Result (List ℕ) AsmFault
far_words from label None = Err (Unplaced label)
far_words from label (Some to) =
    Ok (word_of (Auipc 6 ((distance from to + 2048) / 4096 % 1048576))
    ∷ word_of (Jalr 0 6 (distance from to % 4096)) ∷ [])

-- one word as a list
abbrev pub single : Result ℕ AsmFault → Result (List ℕ) AsmFault
single (Ok word) = Ok (word ∷ [])
single (Err fault) = Err fault

-- the words of an item at code word `from`
abbrev pub item_words : List (Option ℕ) → ℕ → Item → Result (List ℕ) AsmFault
item_words places from (Plain instr) = Ok (word_of instr ∷ [])
item_words places from (Branch instr label) =
    single (branch_word instr from label.number (place_of places label.number))
item_words places from (Far label) = far_words from label.number (place_of places label.number)

-- one list after another; the first fault wins
abbrev pub joined : Result (List ℕ) AsmFault → Result (List ℕ) AsmFault → Result (List ℕ) AsmFault
joined (Err fault) rest = Err fault
joined (Ok words) (Err fault) = Err fault
joined (Ok words) (Ok rest) = Ok (words ++ rest)

-- the words of items that begin at code word `from`, or the fault of the first item that has one
abbrev pub words_from : List (Option ℕ) → ℕ → List Item → Result (List ℕ) AsmFault
words_from places from [] = Ok []
words_from places from (item ∷ items) =
    joined (item_words places from item) (words_from places (from + item_len item) items)

-- the words of an assembly
abbrev pub assembled : Assembly → Result (List ℕ) AsmFault
assembled assembly = words_from assembly.places 0 assembly.items

-- what the code answers is what the definition says, where memory isn't wanting
abbrev pub Answers : Result (List ℕ) AsmFault → Result (Vec ℕ) (Refused AsmFault) → Type 0
Answers expected (Ok words) = expected ≡ Ok words.items
Answers expected (Err (Fault fault)) = expected ≡ Err fault
Answers expected (Err NoMemory) = Unit {0}

-- the same of words that were put after others
abbrev pub AnswersOnto : List ℕ → Result (List ℕ) AsmFault → Result (Unit {0}) (Refused AsmFault) → List ℕ → Type 0
AnswersOnto before expected (Ok done) after = joined (Ok before) expected ≡ Ok after
AnswersOnto before expected (Err (Fault fault)) after = expected ≡ Err fault
AnswersOnto before expected (Err NoMemory) after = Unit {0}
