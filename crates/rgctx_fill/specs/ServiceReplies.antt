-- How a service ends: it gives a word and code goes on, or it refuses what it was given. This project's own.
use Rattle.std.specs.Prelude.{ℕ, ◌-◌, Bool, if◌then◌else◌}
use Rattle.mn_outside.specs.declared.machine.FaultCause.TheVariants.{Service}
use Rattle.store_object.specs.declared.reply.Reply.{Reply}
use Rattle.store_object.specs.declared.reply.Reply.TheVariants as says
use Rattle.rv_machine.specs.Registers.{register_of, with_register}
use Rattle.rgctx_fill.specs.declared.doing.Doing.TheVariants.{Runs, Refuses, Ended}
use Rattle.rgctx_fill.specs.ThreadStates.{ThreadData, Move, with_core, now_doing}
use Rattle.rgctx_fill.specs.ThreadStates as move

-- a service that refuses what it was given names the address of its ECALL
abbrev pub refuses : ThreadData → Move
refuses s = move.Faults (record { pc = s.core.pc - 4; cause = Service (register_of s.core 17) })

-- the word stands in x10, and code goes on
abbrev pub given : ThreadData → ℕ → ThreadData
given s word = now_doing (with_core s (with_register s.core 10 word)) Runs

abbrev pub word_of_flag : Bool → ℕ
word_of_flag b = if b then 1 else 0

-- The thread once a request was answered: what the store gives stands in x10. A limit that stopped the run has ended the thread.
-- Halted is no turn, and the service stays. So is Improper: what the request named is not there, and the service refuses it.
abbrev pub answered : ThreadData → Reply → ThreadData
answered s (says.Object number) = given s number
answered s (says.Kind number) = given s number
answered s (says.Word word) = given s word
answered s (says.Thread number) = given s number
answered s (says.Ended has_finished) = given s (word_of_flag has_finished)
answered s says.Unknown = given s 2
answered s says.Done = now_doing s Runs
answered s (says.Stopped why) = now_doing s Ended
answered s says.Halted = s
answered s says.Improper = now_doing s Refuses
