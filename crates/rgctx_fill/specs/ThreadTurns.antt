-- One turn of one thread. This project's own.
use Rattle.mn_outside.specs.declared.machine.FaultCause.TheVariants.{Service}
use Rattle.interaction.specs.Thread.{Want}
use Rattle.store_object.specs.declared.request.Request.{Request}
use Rattle.store_object.specs.declared.reply.Reply.{Reply}
use Rattle.rv_machine.specs.Registers.{register_of}
use Rattle.rgctx_fill.specs.declared.doing.Doing.{Doing}
use Rattle.rgctx_fill.specs.declared.doing.Doing.TheVariants.{Runs, Serves, Fills, Interprets, Throws, Searches, Refuses, Stops, Finishes, Ended}
use Rattle.rgctx_fill.specs.ThreadStates.{ImageData, ThreadData, Move, Faults, IsOver, plain}
use Rattle.rgctx_fill.specs.MachineTurns.{runs}
use Rattle.rgctx_fill.specs.ServiceReplies.{refuses}
use Rattle.rgctx_fill.specs.CallServices.{finishes}
use Rattle.rgctx_fill.specs.ThrowServices.{searches}
use Rattle.rgctx_fill.specs.FillServices.{fills_on, stops}
use Rattle.rgctx_fill.specs.Services.{serves}

-- As long as there is no interpreter and no search for a clause, each has in place of its turns the fault that it has where words name nothing.
abbrev pub lacks : ThreadData → Move
lacks s = Faults (record { pc = s.core.pc; cause = Service (register_of s.core 17) })

-- the next turn, by who goes on
abbrev pub move_of : ImageData → ThreadData → Doing → Move
move_of im s Runs = runs im s
move_of im s Serves = serves im s (register_of s.core 17)
move_of im s (Fills f) = fills_on s f
move_of im s Interprets = lacks s
move_of im s (Throws x) = searches s x
move_of im s (Searches x) = lacks s
move_of im s Refuses = refuses s
move_of im s (Stops why) = stops s why
move_of im s Finishes = finishes s
move_of im s Ended = IsOver

abbrev pub next_move : ImageData → ThreadData → Move
next_move im s = move_of im s s.doing

-- what the thread wants next
abbrev pub want : ImageData → ThreadData → Want Request Reply ThreadData
want im s = plain (next_move im s)
