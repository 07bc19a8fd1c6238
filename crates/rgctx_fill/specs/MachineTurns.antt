-- The turn of machine code: one instruction of the table, over the frames and the context words. RISC-V unprivileged ISA; what loads and stores reach is this project's own.
use Rattle.std.specs.Prelude.{ℕ, ◌%◌, ◌==◌, Bool, Option, Some, None, if◌then◌else◌}
use Rattle.mn_outside.specs.declared.machine.FaultCause.{FaultCause}
use Rattle.mn_outside.specs.declared.machine.FaultCause.TheVariants.{Fetch, Undefined, Misaligned, Access, Break}
use Rattle.interaction.specs.declared.turn.What.{What}
use Rattle.interaction.specs.declared.turn.What.TheVariants as noted
use Rattle.rv_isa.specs.declared.instr.Instr.{Instr}
use Rattle.rv_isa.specs.Reading.{decode_of}
use Rattle.rgctx_words.specs.Regions.{context_index}
use Rattle.rgctx_words.specs.Stacks.{StackWords}
use Rattle.rv_machine.specs.declared.effect.Effect.{Effect}
use Rattle.rv_machine.specs.declared.effect.Effect.TheVariants.{Sets, Loads, Stores, Goes, Calls, Breaks}
use Rattle.rv_machine.specs.declared.size.Size.{Size}
use Rattle.rv_machine.specs.declared.size.Size.TheVariants.{One, Two, Four, Eight}
use Rattle.rv_machine.specs.Registers.{with_register, next_pc, at_pc}
use Rattle.rv_machine.specs.Effect.{effect_of}
use Rattle.rv_machine.specs.Steps.{fetched, bytes_of, stored, loaded}
use Rattle.rgctx_fill.specs.declared.doing.Doing.TheVariants.{Serves}
use Rattle.rgctx_fill.specs.ThreadStates.{ImageData, ThreadData, Move, with_core, with_stack, now_doing}
use Rattle.rgctx_fill.specs.ThreadStates as move
use Rattle.rgctx_fill.specs.Accesses.{frame_read, frame_written}

module _ (s : ThreadData) where
  abbrev pub faults : FaultCause → Move
  faults cause = move.Faults (record { pc = s.core.pc; cause = cause })

  -- a register is set, and the next code word comes
  abbrev pub sets : ℕ → ℕ → ThreadData
  sets rd word = with_core s (at_pc (with_register s.core rd word) (next_pc s.core))

  -- the context word that a load of this size reads
  abbrev pub context_of : Size → ℕ → Option ℕ
  context_of One address = None
  context_of Two address = None
  context_of Four address = None
  context_of Eight address = context_index address

  module _ (word : ℕ) where
    -- a turn is noted with the code word and its address
    abbrev pub instr : What
    instr = noted.Instr s.core.pc word

    abbrev pub loads_frame : ℕ → Size → Bool → ℕ → Option ℕ → Move
    loads_frame rd size sign address None = faults (Access address)
    loads_frame rd size sign address (Some found) = move.Goes instr (sets rd (loaded size sign found))

    abbrev pub loads_from : ℕ → Size → Bool → ℕ → Option ℕ → Move
    loads_from rd size sign address None = loads_frame rd size sign address (frame_read size s.stack address)
    loads_from rd size sign address (Some i) = move.Loads instr i (λ found. sets rd (loaded size sign found))

    abbrev pub stores : ℕ → Option StackWords → Move
    stores address None = faults (Access address)
    stores address (Some stack) = move.Goes instr (with_stack (with_core s (at_pc s.core (next_pc s.core))) stack)

    -- what an instruction does, one equation a kind of effect
    abbrev pub does : Effect → Move
    does (Sets rd w) = move.Goes instr (sets rd w)
    does (Loads rd size sign address) =
        if address % bytes_of size == 0 then loads_from rd size sign address (context_of size address) else faults (Misaligned address)
    does (Stores size address w) =
        if address % bytes_of size == 0 then stores address (frame_written size s.stack address (stored size w)) else faults (Misaligned address)
    does (Goes rd target) = move.Goes instr (with_core s (at_pc (with_register s.core rd (next_pc s.core)) target))
    does Calls = move.Goes instr (now_doing (with_core s (at_pc s.core (next_pc s.core))) Serves)
    does Breaks = faults Break

    abbrev pub decoded : Option Instr → Move
    decoded None = faults (Undefined word)
    decoded (Some i) = does (effect_of i s.core)

  abbrev pub at_word : Option ℕ → Move
  at_word None = faults Fetch
  at_word (Some word) = decoded word (decode_of word)

-- the turn of a thread whose machine code goes on
abbrev pub runs : ImageData → ThreadData → Move
runs im s = at_word s (fetched im.code s.core.pc)
