-- Which thread a request with its reply starts, by its object.
use Rattle.std.proofs.Common.{◌≡◌, ℕ, refl}
use Rattle.store_object.specs.declared.request.Request.{Request}
use Rattle.store_object.specs.declared.request.Request.TheVariants as ask
use Rattle.store_object.specs.declared.reply.Reply.{Reply}
use Rattle.store_object.specs.declared.reply.Reply.TheVariants as says
use Rattle.rgctx_fill.specs.ThreadStates.{ImageData}
use Rattle.thread_core.specs.Reached.{begun_of, begun_with}
use Rattle.thread_core.specs.Starts.{started_by, starts, object_by, object_started}

by_reply : (im : ImageData) (object : ℕ) (reply : Reply) → begun_with im (object_by object reply) ≡ begun_of (started_by im object reply)
by_reply im object (says.Object number) = refl
by_reply im object (says.Kind number) = refl
by_reply im object (says.Word word) = refl
by_reply im object (says.Thread thread) = refl
by_reply im object (says.Ended has_finished) = refl
by_reply im object says.Unknown = refl
by_reply im object says.Done = refl
by_reply im object (says.Stopped why) = refl
by_reply im object says.Halted = refl
by_reply im object says.Improper = refl

pub begun_so : (im : ImageData) (request : Request) (reply : Reply) → begun_with im (object_started request reply) ≡ begun_of (starts im request reply)
begun_so im (ask.Start object) reply = by_reply im object reply
begun_so im (ask.Alloc kind length words) reply = refl
begun_so im (ask.TypeOf object) reply = refl
begun_so im (ask.Length object) reply = refl
begun_so im (ask.Load place) reply = refl
begun_so im (ask.Save place word) reply = refl
begun_so im (ask.Exchange place word) reply = refl
begun_so im (ask.CompareExchange place word comparand) reply = refl
begun_so im (ask.Add place word narrow) reply = refl
begun_so im (ask.Print form word) reply = refl
begun_so im (ask.Ended thread) reply = refl
begun_so im ask.Finish reply = refl
begun_so im (ask.Fall kind) reply = refl
begun_so im (ask.Stop why) reply = refl
