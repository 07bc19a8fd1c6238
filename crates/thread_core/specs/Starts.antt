-- Where the threads of an image begin. This project's own.
use Rattle.std.specs.Prelude.{ℕ, List, [], replicate, slice_get, Option, Some, None}
use Rattle.il_model.specs.declared.key.BodyRow.{BodyRow}
use Rattle.crossings.specs.declared.call.CallWords.{CallWords}
use Rattle.crossings.specs.Calls.{called, code_address}
use Rattle.interaction.specs.declared.history.Event.{Event}
use Rattle.interaction.specs.Starts.{begin_of}
use Rattle.rgctx_words.specs.Frames.{frame_address, place_offset}
use Rattle.rgctx_words.specs.Stacks.{StackWords, no_frames, with_word}
use Rattle.rv_machine.specs.declared.registers.Core.{Core}
use Rattle.rv_machine.specs.Registers.{with_register}
use Rattle.store_object.specs.declared.request.Request.{Request}
use Rattle.store_object.specs.declared.request.Request.TheVariants as ask
use Rattle.store_object.specs.declared.reply.Reply.{Reply}
use Rattle.store_object.specs.declared.reply.Reply.TheVariants as says
use Rattle.rgctx_fill.specs.BestRows.{best_row}
use Rattle.rgctx_fill.specs.CallServices.{count_in}
use Rattle.rgctx_fill.specs.ThreadStates.{ImageData, ThreadData}
use Rattle.rgctx_fill.specs.declared.doing.Doing.TheVariants.{Runs, Interprets}
use Rattle.rgctx_fill.specs.declared.image.FrameCount.{FrameCount}

-- A thread begins as behind the service CALL, whose number is 1: that number is in x17 and the address of the first frame in x8.
abbrev pub first_core : ℕ → Core
first_core pc = with_register (with_register (record { pc = pc; x = replicate 32 0 }) 17 1) 8 (frame_address 0)

-- nobody called: there is no result's place, no list of arguments, and no pc to return to
abbrev pub first_call : ℕ → CallWords
first_call node = record { node = node; result = 0; list = 0; back = 0 }

-- in a compiled body
abbrev pub in_body : ℕ → BodyRow → ThreadData
in_body node row = record {
  core = first_core (code_address row.entry);
  stack = called no_frames (first_call node) (Some row) 0 0 [];
  doing = Runs;
}

-- the frame of an interpreted method, without its arguments
abbrev pub first_frame : ℕ → FrameCount → StackWords
first_frame node count = called no_frames (first_call node) None count.places count.list []

abbrev pub interpreted : StackWords → ThreadData
interpreted stack = record { core = first_core 0; stack = stack; doing = Interprets }

-- the nodes of the entry point and of the method in which a started thread begins
abbrev pub main_node : ℕ
main_node = 20

abbrev pub entry_node : ℕ
entry_node = 19

-- that method's number
abbrev pub entry_method : ℕ
entry_method = 0

-- thread 0 in the entry point: in the body that serves it best, or interpreted where none does
abbrev pub main_in : ImageData → Option BodyRow → ThreadData
main_in im None = interpreted (first_frame main_node (count_in (slice_get im.frames im.cat.program.main)))
main_in im (Some row) = in_body main_node row

abbrev pub main_thread : ImageData → ThreadData
main_thread im = main_in im (best_row im.cat.program im.cat.bodies im.cat.program.main [])

-- a started thread, always interpreted, with its object as the one argument
abbrev pub started_thread : ImageData → ℕ → ThreadData
started_thread im object = interpreted (with_word (first_frame entry_node (count_in (slice_get im.frames entry_method))) (place_offset 0) object)

-- which thread a reply to START begins, and where
abbrev pub started_by : ImageData → ℕ → Reply → Option (ℕ × ThreadData)
started_by im object (says.Object number) = None
started_by im object (says.Kind number) = None
started_by im object (says.Word word) = None
started_by im object (says.Thread thread) = Some (thread, started_thread im object)
started_by im object (says.Ended has_finished) = None
started_by im object says.Unknown = None
started_by im object says.Done = None
started_by im object (says.Stopped why) = None
started_by im object says.Halted = None
started_by im object says.Improper = None

abbrev pub starts : ImageData → Request → Reply → Option (ℕ × ThreadData)
starts im (ask.Start object) reply = started_by im object reply
starts im (ask.Alloc kind length words) reply = None
starts im (ask.TypeOf object) reply = None
starts im (ask.Length object) reply = None
starts im (ask.Load place) reply = None
starts im (ask.Save place word) reply = None
starts im (ask.Exchange place word) reply = None
starts im (ask.CompareExchange place word comparand) reply = None
starts im (ask.Add place word narrow) reply = None
starts im (ask.Print form word) reply = None
starts im (ask.Ended thread) reply = None
starts im ask.Finish reply = None
starts im (ask.Fall kind) reply = None
starts im (ask.Stop why) reply = None

-- the object of a thread that a reply starts
abbrev pub object_by : ℕ → Reply → Option ℕ
object_by object (says.Object number) = None
object_by object (says.Kind number) = None
object_by object (says.Word word) = None
object_by object (says.Thread thread) = Some object
object_by object (says.Ended has_finished) = None
object_by object says.Unknown = None
object_by object says.Done = None
object_by object (says.Stopped why) = None
object_by object says.Halted = None
object_by object says.Improper = None

-- the same of a request with its reply
abbrev pub object_started : Request → Reply → Option ℕ
object_started (ask.Start object) reply = object_by object reply
object_started (ask.Alloc kind length words) reply = None
object_started (ask.TypeOf object) reply = None
object_started (ask.Length object) reply = None
object_started (ask.Load place) reply = None
object_started (ask.Save place word) reply = None
object_started (ask.Exchange place word) reply = None
object_started (ask.CompareExchange place word comparand) reply = None
object_started (ask.Add place word narrow) reply = None
object_started (ask.Print form word) reply = None
object_started (ask.Ended thread) reply = None
object_started ask.Finish reply = None
object_started (ask.Fall kind) reply = None
object_started (ask.Stop why) reply = None

-- where the history begins a thread
abbrev pub begin : ImageData → List (Event Request Reply) → ℕ → Option ThreadData
begin im h u = begin_of (main_thread im) (starts im) h u
