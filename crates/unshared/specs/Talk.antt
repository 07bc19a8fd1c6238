-- Pieces of an instruction that use replies: what they give with the replies that are left, or why they halt. Only private contracts cite it. This project's own.
use Rattle.std.specs.Prelude.{◌≡◌, ℕ, Bool, true, false, if◌then◌else◌, List, [], ◌∷◌, Option, Some, None, Result, Ok, Err, ⊤}
use Rattle.store_object.specs.declared.request.Cause.{Cause}
use Rattle.store_object.specs.declared.request.Request.{Request}
use Rattle.store_object.specs.declared.request.Request.TheVariants as ask
use Rattle.store_object.specs.declared.reply.Reply.{Reply}
use Rattle.store_object.specs.declared.reply.Reply.TheVariants as says
use Rattle.unshared.specs.declared.pause.Halt.{Halt}
use Rattle.unshared.specs.declared.pause.Halt.TheVariants as halt
use Rattle.unshared.specs.declared.pause.Pause.{Pause}
use Rattle.unshared.specs.declared.pause.Pause.TheVariants as pause
use Rattle.unshared.specs.Silent.{Silent, stuck}

abbrev pub Came : Type 0 → Type 0
Came A = Result (A × List Reply) Halt

abbrev pub Talk : Type 0 → Type 0
Talk A = List Reply → Came A

abbrev pub and_then : {A B : Type 0} → Came A → (A → Talk B) → Came B
and_then (Ok p) next = next p.0 p.1
and_then (Err e) next = Err e

infixl 10 ◌>>=◌
abbrev pub ◌>>=◌ : {A B : Type 0} → Talk A → (A → Talk B) → Talk B
t >>= next = λ ys. and_then (t ys) next

infixl 10 ◌>>◌
abbrev pub ◌>>◌ : {A B : Type 0} → Talk A → Talk B → Talk B
t >> u = t >>= (λ _. u)

abbrev pub pure : {A : Type 0} → A → Talk A
pure x = λ ys. Ok (x, ys)

-- a piece that makes no request
abbrev pub said : {A : Type 0} → Silent A → List Reply → Came A
said (Ok x) ys = Ok (x, ys)
said (Err e) ys = Err e

abbrev pub say : {A : Type 0} → Silent A → Talk A
say r = λ ys. said r ys

-- all replies were used
abbrev pub are_used : List Reply → Bool
are_used [] = true
are_used (y ∷ ys) = false

-- the run is over; with replies left there is no rule, for nobody gets them
abbrev pub over_with : List Reply → Halt
over_with [] = halt.Over
over_with (y ∷ ys) = halt.Stuck

abbrev pub over : {A : Type 0} → Talk A
over = λ ys. Err (over_with ys)

-- Requests. ---------------------------------------------------------------

-- the reply to a request: the next one, or else the request is made
abbrev pub asks : Request → Talk Reply
asks r [] = Err (halt.Asks r)
asks r (y ∷ ys) = Ok (y, ys)

-- an object's number
abbrev pub object_in : Reply → Silent ℕ
object_in (says.Object number) = Ok number
object_in (says.Kind number) = stuck
object_in (says.Word word) = stuck
object_in (says.Thread number) = stuck
object_in (says.Ended has_finished) = stuck
object_in says.Unknown = stuck
object_in says.Done = stuck
object_in (says.Stopped why) = stuck
object_in says.Halted = stuck
object_in says.Improper = stuck

-- the number of an exact type
abbrev pub kind_in : Reply → Silent ℕ
kind_in (says.Object number) = stuck
kind_in (says.Kind number) = Ok number
kind_in (says.Word word) = stuck
kind_in (says.Thread number) = stuck
kind_in (says.Ended has_finished) = stuck
kind_in says.Unknown = stuck
kind_in says.Done = stuck
kind_in (says.Stopped why) = stuck
kind_in says.Halted = stuck
kind_in says.Improper = stuck

-- a word, or a length
abbrev pub word_in : Reply → Silent ℕ
word_in (says.Object number) = stuck
word_in (says.Kind number) = stuck
word_in (says.Word word) = Ok word
word_in (says.Thread number) = stuck
word_in (says.Ended has_finished) = stuck
word_in says.Unknown = stuck
word_in says.Done = stuck
word_in (says.Stopped why) = stuck
word_in says.Halted = stuck
word_in says.Improper = stuck

-- the number of a thread
abbrev pub thread_in : Reply → Silent ℕ
thread_in (says.Object number) = stuck
thread_in (says.Kind number) = stuck
thread_in (says.Word word) = stuck
thread_in (says.Thread number) = Ok number
thread_in (says.Ended has_finished) = stuck
thread_in says.Unknown = stuck
thread_in says.Done = stuck
thread_in (says.Stopped why) = stuck
thread_in says.Halted = stuck
thread_in says.Improper = stuck

-- whether another thread has finished, if there is one
abbrev pub ended_in : Reply → Silent (Option Bool)
ended_in (says.Object number) = stuck
ended_in (says.Kind number) = stuck
ended_in (says.Word word) = stuck
ended_in (says.Thread number) = stuck
ended_in (says.Ended has_finished) = Ok (Some has_finished)
ended_in says.Unknown = Ok None
ended_in says.Done = stuck
ended_in (says.Stopped why) = stuck
ended_in says.Halted = stuck
ended_in says.Improper = stuck

-- it was done
abbrev pub done_in : Reply → Silent (Unit {0})
done_in (says.Object number) = stuck
done_in (says.Kind number) = stuck
done_in (says.Word word) = stuck
done_in (says.Thread number) = stuck
done_in (says.Ended has_finished) = stuck
done_in says.Unknown = stuck
done_in says.Done = Ok tt
done_in (says.Stopped why) = stuck
done_in says.Halted = stuck
done_in says.Improper = stuck

-- whether the run has stopped at a limit
abbrev pub is_stopped : Reply → Bool
is_stopped (says.Object number) = false
is_stopped (says.Kind number) = false
is_stopped (says.Word word) = false
is_stopped (says.Thread number) = false
is_stopped (says.Ended has_finished) = false
is_stopped says.Unknown = false
is_stopped says.Done = false
is_stopped (says.Stopped why) = true
is_stopped says.Halted = false
is_stopped says.Improper = false

-- at a limit of the heap, and of threads, the run is over
unfoldable pub asks_object : Request → Talk ℕ
asks_object r = asks r >>= (λ y. if is_stopped y then over else say (object_in y))

unfoldable pub asks_kind : Request → Talk ℕ
asks_kind r = asks r >>= (λ y. say (kind_in y))

unfoldable pub asks_word : Request → Talk ℕ
asks_word r = asks r >>= (λ y. say (word_in y))

unfoldable pub asks_thread : Request → Talk ℕ
asks_thread r = asks r >>= (λ y. if is_stopped y then over else say (thread_in y))

unfoldable pub asks_ended : Request → Talk (Option Bool)
asks_ended r = asks r >>= (λ y. say (ended_in y))

unfoldable pub asks_done : Request → Talk (Unit {0})
asks_done r = asks r >>= (λ y. say (done_in y))

-- the run stops at a limit
unfoldable pub stops : Cause → Talk (Unit {0})
stops why = asks (ask.Stop why) >>= (λ y. if is_stopped y then over else say stuck)

-- what a call gives, as the meaning sees it, and the replies that it leaves; want of memory says nothing
abbrev pub Talks : {A B : Type 0} → (A → B) → Came B → Result A Pause → List Reply → Type 0
Talks see came (Ok x) rest = came ≡ Ok (see x, rest)
Talks see came (Err (pause.Halts h)) rest = came ≡ Err h
Talks see came (Err pause.NoMemory) rest = ⊤
