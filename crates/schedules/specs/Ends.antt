-- How a history ends that lets nobody live: an uncaught exception, a limit, or all threads have finished. This project's own.
use Rattle.std.specs.Prelude.{ℕ, Option, Some, None}
use Rattle.interaction.specs.declared.history.Event.{Event}
use Rattle.store_object.specs.declared.ending.Ending.{Ending}
use Rattle.store_object.specs.declared.ending.Ending.TheVariants as ends
use Rattle.store_object.specs.declared.request.Request.{Request}
use Rattle.store_object.specs.declared.reply.Reply.{Reply}
use Rattle.store_object.specs.declared.reply.Reply.TheVariants as says
use Rattle.cil_meaning.specs.Shown.{fallen_kind}

abbrev pub stopped_by : Reply → Ending
stopped_by (says.Object number) = ends.Done
stopped_by (says.Kind number) = ends.Done
stopped_by (says.Word word) = ends.Done
stopped_by (says.Thread number) = ends.Done
stopped_by (says.Ended has_finished) = ends.Done
stopped_by says.Unknown = ends.Done
stopped_by says.Done = ends.Done
stopped_by (says.Stopped why) = ends.Stopped why
stopped_by says.Halted = ends.Done
stopped_by says.Improper = ends.Done

abbrev pub fallen_or : Option ℕ → Ending → Ending
fallen_or None other = other
fallen_or (Some kind) other = ends.Uncaught kind

-- the end after the last event, if there is one
abbrev pub ended_by : Option (Event Request Reply) → Ending
ended_by None = ends.Done
ended_by (Some e) = fallen_or (fallen_kind e.request) (stopped_by e.reply)
