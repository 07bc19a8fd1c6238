-- One turn of one thread of the image machine. After the RISC-V unprivileged ISA; the services are this project's own.
use Rattle.std.specs.Prelude.{ℕ, ◌+◌, ◌-◌, ◌*◌, ◌/◌, ◌%◌, nat_lt, nat_le, ◌==◌, ◌&&◌, if◌then◌else◌, Bool, true, false, List, ◌∷◌, ◌++◌, length, replicate, Option, Some, None, slice_get, slice_index, slice_set}
use Rattle.rv_isa.specs.declared.instr.Instr.{Instr}
use Rattle.rv_isa.specs.declared.instr.Instr.TheVariants.{Addi, Addiw, Lui, Ld, Sd, Addw, Ecall}
use Rattle.rv_isa.specs.Reading.{decode_of}
use Rattle.interaction.specs.declared.turn.What.{What}
use Rattle.interaction.specs.declared.turn.What.TheVariants.{Instr as Executed, Action}
use Rattle.interaction.specs.Thread.{Want, Go, Ask, Fault, Over}
use Rattle.store_object.specs.declared.request.Form.TheVariants.{Number}
use Rattle.store_object.specs.declared.request.Request.{Request}
use Rattle.store_object.specs.declared.request.Request.TheVariants.{Print, Finish}
use Rattle.store_object.specs.declared.reply.Reply.{Reply}
use Rattle.run_top.specs.declared.machine.Mode.{Mode}
use Rattle.run_top.specs.declared.machine.Mode.TheVariants.{Code, Service, Leaving, Gone}
use Rattle.run_top.specs.declared.machine.Effect.{Effect}
use Rattle.run_top.specs.declared.machine.Effect.TheVariants.{Sets, Loads, Stores, Calls, Breaks}
use Rattle.run_top.specs.Values.{sign_extended}

-- a thread: its registers, the words of its one frame, and what goes on with its next turn
pub record Thread : Type 0 where
  pub pc : ℕ
  pub x : List ℕ
  pub frame : List ℕ
  pub mode : Mode

abbrev pub Wish : Type 0
Wish = Want Request Reply Thread

-- x0 reads as zero, and isn't written
abbrev pub register : List ℕ → ℕ → ℕ
register x r = if r == 0 then 0 else slice_index x r

abbrev pub with_register : List ℕ → ℕ → ℕ → List ℕ
with_register x r value = if r == 0 then x else slice_set x r value

-- the twelve bits of an immediate, their sign extended to 64 bits
abbrev pub extended_12 : ℕ → ℕ
extended_12 imm = if nat_lt imm 2048 then imm else imm + 18446744073709547520

abbrev pub sum_64 : ℕ → ℕ → ℕ
sum_64 a b = (a + b) % 18446744073709551616

-- an address: a register's value and an immediate
abbrev pub address_of : List ℕ → ℕ → ℕ → ℕ
address_of x rs1 imm = sum_64 (register x rs1) (extended_12 imm)

-- what an instruction asks for, from the registers before it
abbrev pub effect_of : Instr → List ℕ → Effect
effect_of (Addi rd rs1 imm) x = Sets rd (sum_64 (register x rs1) (extended_12 imm))
effect_of (Addiw rd rs1 imm) x = Sets rd (sign_extended ((register x rs1 + extended_12 imm) % 4294967296))
effect_of (Lui rd imm) x = Sets rd (sign_extended (4096 * imm))
effect_of (Ld rd rs1 imm) x = Loads rd (address_of x rs1 imm)
effect_of (Sd rs2 rs1 imm) x = Stores (address_of x rs1 imm) (register x rs2)
effect_of (Addw rd rs1 rs2) x = Sets rd (sign_extended ((register x rs1 + register x rs2) % 4294967296))
effect_of Ecall x = Calls
effect_of other x = Breaks

-- the frame stands at 0x40000000: the place of an address among its words, where it is one
abbrev pub frame_place : ℕ → ℕ → Option ℕ
frame_place words address = if nat_le 1073741824 address && ((address % 8 == 0) && nat_lt ((address - 1073741824) / 8) words) then Some ((address - 1073741824) / 8) else None

-- the code stands at 0x10000: the place of an address among its words, where it is aligned
abbrev pub code_place : ℕ → Option ℕ
code_place pc = if nat_le 65536 pc && (pc % 4 == 0) then Some ((pc - 65536) / 4) else None

-- the thread at the next code word
abbrev pub moved_on : Thread → List ℕ → List ℕ → Mode → Thread
moved_on t x frame mode = record { pc = sum_64 t.pc 4; x = x; frame = frame; mode = mode }

abbrev pub loaded : What → Thread → ℕ → Option ℕ → Wish
loaded what t rd None = Fault
loaded what t rd (Some place) = Go what (moved_on t (with_register t.x rd (slice_index t.frame place)) t.frame t.mode)

abbrev pub stored : What → Thread → ℕ → Option ℕ → Wish
stored what t value None = Fault
stored what t value (Some place) = Go what (moved_on t t.x (slice_set t.frame place value) t.mode)

abbrev pub performed : What → Thread → Effect → Wish
performed what t (Sets rd value) = Go what (moved_on t (with_register t.x rd value) t.frame t.mode)
performed what t (Loads rd address) = loaded what t rd (frame_place (length t.frame) address)
performed what t (Stores address value) = stored what t value (frame_place (length t.frame) address)
performed what t Calls = Go what (moved_on t t.x t.frame Service)
performed what t Breaks = Fault

-- the instruction of a word, noted with the word and its address
abbrev pub decoded : ℕ → Thread → Option Instr → Wish
decoded word t None = Fault
decoded word t (Some instr) = performed (Executed t.pc word) t (effect_of instr t.x)

abbrev pub fetched : Thread → Option ℕ → Wish
fetched t None = Fault
fetched t (Some word) = decoded word t (decode_of word)

abbrev pub fetch : List ℕ → Option ℕ → Option ℕ
fetch image None = None
fetch image (Some place) = slice_get image place

abbrev pub with_mode : Thread → Mode → Thread
with_mode t mode = record { pc = t.pc; x = t.x; frame = t.frame; mode = mode }

-- a service, by its number in x17: 24 prints x10 in the form that x11 names, 0 a number; 2 leaves the method, by one action and then the request
abbrev pub served : Thread → Wish
served t = if register t.x 17 == 24
    then (if register t.x 11 == 0 then Ask (Print Number (register t.x 10)) (λ reply. with_mode t Code) else Fault)
    else (if register t.x 17 == 2 then Go Action (with_mode t Leaving) else Fault)

abbrev pub want_in : Mode → List ℕ → Thread → Wish
want_in Code image t = fetched t (fetch image (code_place t.pc))
want_in Service image t = served t
want_in Leaving image t = Ask Finish (λ reply. with_mode t Gone)
want_in Gone image t = Over

-- whether a live thread is live after its request
abbrev pub stays_live : Request → Bool
stays_live Finish = false
stays_live request = true

-- the next turn of a thread
abbrev pub want : List ℕ → Thread → Wish
want image t = want_in t.mode image t

-- Thread 0 at Main, which begins at code word 1. x8 is the frame's address. At the frame's head: the caller's frame, the return address, the method's node 20, the result's address, the instruction, the frame's length, and two words that are zero.
abbrev pub start : ℕ → Thread
start words = record {
  pc = 65540;
  x = replicate 8 0 ++ (1073741824 ∷ replicate 23 0);
  frame = 0 ∷ 0 ∷ 20 ∷ 0 ∷ 0 ∷ words ∷ 0 ∷ 0 ∷ replicate (words - 8) 0;
  mode = Code;
}
