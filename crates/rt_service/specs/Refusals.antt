-- What a service answers that refuses what it was given. This project's own.
use Rattle.std.specs.Prelude.{◌-◌}
use Rattle.mn_outside.specs.declared.machine.FaultCause.TheVariants.{Service}
use Rattle.rv_machine.specs.Registers.{register_of}
use Rattle.rgctx_fill.specs.declared.thread.Want.{Want}
use Rattle.rgctx_fill.specs.declared.thread.Want.TheVariants as answers
use Rattle.rgctx_fill.specs.ThreadStates.{ThreadData}

-- the fault of the turn `refuses`
abbrev pub refused : ThreadData → Want
refused s = answers.Fault (record { pc = s.core.pc - 4; cause = Service (register_of s.core 17) })
