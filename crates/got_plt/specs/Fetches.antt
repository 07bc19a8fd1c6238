-- The items that fetch a closed entry, and those of a call stub. This project's own.
use Rattle.std.specs.Prelude.{ℕ, ◌+◌, ◌*◌, ◌/◌, ◌%◌, ◌==◌, if◌then◌else◌, List, [], ◌∷◌, ◌++◌, length, Option, Some}
use Rattle.mn_outside.specs.declared.places.Label.{Label}
use Rattle.rv_isa.specs.declared.instr.Instr.TheVariants.{Ld, Addi, Beq, Bne, Jal, Lui, Ecall}
use Rattle.rv_isa.specs.declared.item.Item.{Item}
use Rattle.rv_isa.specs.declared.item.Item.TheVariants.{Plain, Branch}
use Rattle.rv_isa.specs.Assembly.{Assembly, word_count}
use Rattle.rgctx_words.specs.Places.{depth_of, slot_of}

-- the most closed entries of an image
abbrev pub most_closed : ℕ
most_closed = 1792

abbrev pub label : ℕ → Label
label n = record { number = n }

-- an assembly with more items at its end
abbrev pub with_items : Assembly → List Item → Assembly
with_items asm items = record asm { items = asm.items ++ items }

-- ---- the walk

-- The row of depth d is found by d + 1 loads: that of the image node's root, whose address is 0x20018008, and those of d links. The loop makes two in a round, with x6 counting the rounds that are left; where the number of loads is odd it is entered at the second.
abbrev pub rounds_of : ℕ → ℕ
rounds_of place = (depth_of place + 2) / 2

-- the label at which the loop is entered, of those of its first and its second load
abbrev pub start_of : ℕ → ℕ → ℕ → ℕ
start_of place first second = if depth_of place % 2 == 0 then second else first

-- x5 is the address of the root, x6 the rounds
abbrev pub root_items : ℕ → Label → List Item
root_items rounds start = Plain (Lui 5 0x20018) ∷ Plain (Addi 5 5 8) ∷ Plain (Addi 6 0 rounds) ∷ Branch (Jal 0 0) start ∷ []

-- x5 is the address of the next row, unless it is missing
abbrev pub link_items : Label → List Item
link_items missing = Plain (Ld 5 5 0) ∷ Branch (Beq 5 0 0) missing ∷ []

abbrev pub round_items : Label → List Item
round_items first = Plain (Addi 6 6 4095) ∷ Branch (Bne 6 0 0) first ∷ []

-- x5 is the entry's value, unless it is missing
abbrev pub entry_items : ℕ → Label → List Item
entry_items slot done = Plain (Ld 5 5 (8 * slot)) ∷ Branch (Bne 5 0 0) done ∷ []

-- FILL of this entry of the image's node, which is node 1; its value goes to x5
abbrev pub fill_items : ℕ → List Item
fill_items place = Plain (Addi 10 0 1) ∷ Plain (Addi 11 0 place) ∷ Plain (Addi 17 0 5) ∷ Plain Ecall ∷ Plain (Addi 5 10 0) ∷ []

-- ---- a fetch

-- how many code words a fetch has
abbrev pub fetch_count : ℕ
fetch_count = 17

-- the items that fetch a closed entry, with four labels from `n` on
abbrev pub fetch_items : ℕ → ℕ → List Item
fetch_items place n =
    root_items (rounds_of place) (label (start_of place n (n + 1)))
    ++ link_items (label (n + 2))
    ++ link_items (label (n + 2))
    ++ round_items (label n)
    ++ entry_items (slot_of place) (label (n + 3))
    ++ fill_items place

-- the places of these labels, where the items begin at code word `from`: the first load, the second, what comes where a row or the entry is missing, and the end
abbrev pub fetch_places : ℕ → List (Option ℕ)
fetch_places from = Some (from + 4) ∷ Some (from + 6) ∷ Some (from + 12) ∷ Some (from + 17) ∷ []

-- an assembly with the fetch of a closed entry at its end
abbrev pub with_fetch : Assembly → ℕ → Assembly
with_fetch asm place = record {
  items = asm.items ++ fetch_items place (length asm.places);
  places = asm.places ++ fetch_places (word_count asm.items);
}

-- ---- a call stub

-- how many code words a stub has
abbrev pub stub_count : ℕ
stub_count = 22

-- x7 keeps the address of the result
abbrev pub keep_items : List Item
keep_items = Plain (Addi 7 11 0) ∷ []

-- CALL of the value in x5, with the address of the result from x7
abbrev pub call_items : List Item
call_items = Plain (Addi 11 7 0) ∷ Plain (Addi 10 5 0) ∷ Plain (Addi 17 0 1) ∷ Plain Ecall ∷ []

-- the items that call through a closed entry, with four labels from `n` on
abbrev pub stub_items : ℕ → ℕ → List Item
stub_items place n = keep_items ++ fetch_items place n ++ call_items

-- an assembly with the call stub of a closed entry at its end
abbrev pub with_stub : Assembly → ℕ → Assembly
with_stub asm place = record {
  items = asm.items ++ stub_items place (length asm.places);
  places = asm.places ++ fetch_places (word_count asm.items + 1);
}
