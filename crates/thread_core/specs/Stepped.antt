-- What one instruction of a thread is told as, and the state that it leaves. This project's own.
use Rattle.std.specs.Prelude.{ℕ}
use Rattle.interaction.specs.declared.turn.What.TheVariants as noted
use Rattle.rgctx_words.specs.Stacks.{StackWords}
use Rattle.rv_machine.specs.declared.registers.Core.{Core}
use Rattle.rv_machine.specs.declared.outcome.Step.{Step}
use Rattle.rv_machine.specs.declared.outcome.Step.TheVariants.{Went, Call, Fault}
use Rattle.rgctx_fill.specs.declared.doing.Doing.{Doing}
use Rattle.rgctx_fill.specs.declared.doing.Doing.TheVariants.{Serves}
use Rattle.rgctx_fill.specs.declared.thread.Want.{Want}
use Rattle.rgctx_fill.specs.declared.thread.Want.TheVariants as answers
use Rattle.rgctx_fill.specs.ThreadStates.{ThreadData}

-- the step of the code word at an address
abbrev pub told : ℕ → ℕ → Step → Want
told pc word Went = answers.Did (noted.Instr pc word)
told pc word Call = answers.Did (noted.Instr pc word)
told pc word (Fault fault) = answers.Fault fault

abbrev pub doing_after : Doing → Step → Doing
doing_after doing Went = doing
doing_after doing Call = Serves
doing_after doing (Fault fault) = doing

abbrev pub state_of : Core → StackWords → Doing → ThreadData
state_of core stack doing = record { core = core; stack = stack; doing = doing }
