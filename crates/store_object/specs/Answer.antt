-- The store's answer to each request. This project's own.
use Rattle.std.specs.Prelude.{ℕ, ◌+◌, ◌==◌, nat_lt, if◌then◌else◌, Bool, true, ◌&&◌, Option, Some, None, length, slice_get}
use Rattle.store_object.specs.declared.limits.TheConstants.{HEAP_LIMIT, OBJECT_COST, THREAD_LIMIT}
use Rattle.store_object.specs.declared.request.Request.{Request}
use Rattle.store_object.specs.declared.request.Request.TheVariants as ask
use Rattle.store_object.specs.declared.request.Cause.TheVariants as cause
use Rattle.store_object.specs.declared.reply.Reply.{Reply}
use Rattle.store_object.specs.declared.reply.Reply.TheVariants as says
use Rattle.store_object.specs.Store.{Store, Shape, is_live, is_object, is_place, shape_of, heap_of, word_at, with_word, summed, with_object, with_thread, without_thread, ended}

-- the objects and the place that the request names are there
abbrev pub is_named : Store → Request → Bool
is_named s (ask.Alloc kind count words) = true
is_named s (ask.TypeOf object) = is_object s object
is_named s (ask.Length object) = is_object s object
is_named s (ask.Load place) = is_place s place
is_named s (ask.Save place word) = is_place s place
is_named s (ask.Exchange place word) = is_place s place
is_named s (ask.CompareExchange place word comparand) = is_place s place
is_named s (ask.Add place word narrow) = is_place s place
is_named s (ask.Print form word) = true
is_named s (ask.Start object) = is_object s object
is_named s (ask.Ended thread) = true
is_named s ask.Finish = true
is_named s (ask.Fall kind) = true
is_named s (ask.Stop why) = true

-- whether a thread has finished, if one of this number was started
abbrev pub ended_reply : Option Bool → Reply
ended_reply None = says.Unknown
ended_reply (Some has_finished) = says.Ended has_finished

-- the new object, or the end of the run where it would pass the limit
abbrev pub allocated : Store → Shape → Reply × Store
allocated s shape =
    if nat_lt HEAP_LIMIT (heap_of s.shapes + (OBJECT_COST + shape.words)) then (says.Stopped cause.Heap, ended s)
    else (says.Object (length s.shapes + 1), with_object s shape)

-- the new thread, or the end of the run at the limit
abbrev pub started : Store → Reply × Store
started s =
    if nat_lt (length s.finished) THREAD_LIMIT then (says.Thread (length s.finished), with_thread s)
    else (says.Stopped cause.Threads, ended s)

-- The answer to a request of a live thread that names what is there, before the history has ended: one equation each.
abbrev pub served : Store → ℕ → Request → Reply × Store
served s thread (ask.Alloc kind count words) = allocated s (record { kind = kind; length = count; words = words })
served s thread (ask.TypeOf object) = (says.Kind (shape_of s object).kind, s)
served s thread (ask.Length object) = (says.Word (shape_of s object).length, s)
served s thread (ask.Load place) = (says.Word (word_at s place), s)
served s thread (ask.Save place word) = (says.Done, with_word s place word)
served s thread (ask.Exchange place word) = (says.Word (word_at s place), with_word s place word)
served s thread (ask.CompareExchange place word comparand) = (says.Word (word_at s place), if word_at s place == comparand then with_word s place word else s)
served s thread (ask.Add place word narrow) = (says.Word (summed narrow (word_at s place) word), with_word s place (summed narrow (word_at s place) word))
served s thread (ask.Print form word) = (says.Done, s)
served s thread (ask.Start object) = started s
served s thread (ask.Ended other) = (ended_reply (slice_get s.finished other), s)
served s thread ask.Finish = (says.Done, without_thread s thread)
served s thread (ask.Fall kind) = (says.Done, ended s)
served s thread (ask.Stop why) = (says.Stopped why, ended s)

-- The reply to a request, and the store after it: Halted exactly where the history has ended; else Improper exactly
-- where the thread doesn't live or what the request names isn't there.
abbrev pub answer : Store → ℕ → Request → Reply × Store
answer s thread request =
    if s.is_over then (says.Halted, s)
    else (if is_live s thread && is_named s request then served s thread request
    else (says.Improper, s))
