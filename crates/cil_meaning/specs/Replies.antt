-- What a process does with a reply. A reply of another kind than the request gets has no rule. This project's own.
use Rattle.std.specs.Prelude.{ℕ, true, false}
use Rattle.type_tree.specs.declared.tree.TExpr.{TExpr}
use Rattle.interaction.specs.Process.{Act, Over, Stuck}
use Rattle.store_object.specs.declared.request.Request.{Request}
use Rattle.store_object.specs.declared.reply.Reply.{Reply}
use Rattle.store_object.specs.declared.reply.Reply.TheVariants as says
use Rattle.cil_meaning.specs.Naming.{Mention}
use Rattle.cil_meaning.specs.Frames.{Frames}

-- what is left of one instruction
abbrev pub Left : Type 0
Left = Act Mention TExpr Request Reply Frames

-- an object's number; at a limit of the heap the run is over
abbrev pub on_object : (ℕ → Left) → Reply → Left
on_object k (says.Object number) = k number
on_object k (says.Kind number) = Stuck
on_object k (says.Word word) = Stuck
on_object k (says.Thread number) = Stuck
on_object k (says.Ended has_finished) = Stuck
on_object k says.Unknown = Stuck
on_object k says.Done = Stuck
on_object k (says.Stopped why) = Over
on_object k says.Halted = Stuck
on_object k says.Improper = Stuck

-- the number of an exact type
abbrev pub on_kind : (ℕ → Left) → Reply → Left
on_kind k (says.Object number) = Stuck
on_kind k (says.Kind number) = k number
on_kind k (says.Word word) = Stuck
on_kind k (says.Thread number) = Stuck
on_kind k (says.Ended has_finished) = Stuck
on_kind k says.Unknown = Stuck
on_kind k says.Done = Stuck
on_kind k (says.Stopped why) = Stuck
on_kind k says.Halted = Stuck
on_kind k says.Improper = Stuck

-- a word, or a length
abbrev pub on_word : (ℕ → Left) → Reply → Left
on_word k (says.Object number) = Stuck
on_word k (says.Kind number) = Stuck
on_word k (says.Word word) = k word
on_word k (says.Thread number) = Stuck
on_word k (says.Ended has_finished) = Stuck
on_word k says.Unknown = Stuck
on_word k says.Done = Stuck
on_word k (says.Stopped why) = Stuck
on_word k says.Halted = Stuck
on_word k says.Improper = Stuck

-- the number of a thread; at the limit of threads the run is over
abbrev pub on_thread : (ℕ → Left) → Reply → Left
on_thread k (says.Object number) = Stuck
on_thread k (says.Kind number) = Stuck
on_thread k (says.Word word) = Stuck
on_thread k (says.Thread number) = k number
on_thread k (says.Ended has_finished) = Stuck
on_thread k says.Unknown = Stuck
on_thread k says.Done = Stuck
on_thread k (says.Stopped why) = Over
on_thread k says.Halted = Stuck
on_thread k says.Improper = Stuck

-- whether another thread has finished: yes, not yet, or there is no such thread
abbrev pub on_ended : (finished not_yet unknown : Left) → Reply → Left
on_ended finished not_yet unknown (says.Object number) = Stuck
on_ended finished not_yet unknown (says.Kind number) = Stuck
on_ended finished not_yet unknown (says.Word word) = Stuck
on_ended finished not_yet unknown (says.Thread number) = Stuck
on_ended finished not_yet unknown (says.Ended true) = finished
on_ended finished not_yet unknown (says.Ended false) = not_yet
on_ended finished not_yet unknown says.Unknown = unknown
on_ended finished not_yet unknown says.Done = Stuck
on_ended finished not_yet unknown (says.Stopped why) = Stuck
on_ended finished not_yet unknown says.Halted = Stuck
on_ended finished not_yet unknown says.Improper = Stuck

-- it was done
abbrev pub on_done : Left → Reply → Left
on_done left (says.Object number) = Stuck
on_done left (says.Kind number) = Stuck
on_done left (says.Word word) = Stuck
on_done left (says.Thread number) = Stuck
on_done left (says.Ended has_finished) = Stuck
on_done left says.Unknown = Stuck
on_done left says.Done = left
on_done left (says.Stopped why) = Stuck
on_done left says.Halted = Stuck
on_done left says.Improper = Stuck

-- the run has stopped
abbrev pub on_stopped : Reply → Left
on_stopped (says.Object number) = Stuck
on_stopped (says.Kind number) = Stuck
on_stopped (says.Word word) = Stuck
on_stopped (says.Thread number) = Stuck
on_stopped (says.Ended has_finished) = Stuck
on_stopped says.Unknown = Stuck
on_stopped says.Done = Stuck
on_stopped (says.Stopped why) = Over
on_stopped says.Halted = Stuck
on_stopped says.Improper = Stuck
