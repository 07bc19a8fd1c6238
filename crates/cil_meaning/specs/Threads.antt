-- Where threads begin: thread 0 in Main, and every other one in the library's entry, which runs the thread's object. This project's own.
use Rattle.std.specs.Prelude.{ℕ, List, [], ◌∷◌, Option, Some, None}
use Rattle.il_model.specs.declared.program.Program.{Program}
use Rattle.il_model.specs.declared.method.MethodDef.{MethodDef}
use Rattle.il_model.specs.declared.layout.MethodTree.{MethodTree}
use Rattle.il_model.specs.Found.{method_at}
use Rattle.il_model.specs.Library.{plain}
use Rattle.interaction.specs.declared.history.Event.{Event}
use Rattle.interaction.specs.Starts.{begin_of, as_process}
use Rattle.store_object.specs.declared.request.Request.{Request}
use Rattle.store_object.specs.declared.request.Request.TheVariants as ask
use Rattle.store_object.specs.declared.reply.Reply.{Reply}
use Rattle.store_object.specs.declared.reply.Reply.TheVariants as says
use Rattle.cil_meaning.specs.Values.{Reference, Value, Plain}
use Rattle.cil_meaning.specs.Frames.{Frames}
use Rattle.cil_meaning.specs.Calls.{first_frame, first_places}
use Rattle.cil_meaning.specs.Replies.{Left}

-- the frame of a method that has this definition, alone, with these arguments
abbrev pub alone_in : Program → MethodTree → Option MethodDef → List Value → Frames
alone_in p m None arguments = record { frames = []; places = [] }
alone_in p m (Some d) arguments = record { frames = first_frame m ∷ []; places = first_places p m d arguments ∷ [] }

abbrev pub owner_of : Option MethodDef → ℕ
owner_of None = 0
owner_of (Some d) = d.owner

-- a method without type variables, in a class without any
abbrev pub method_tree : Program → ℕ → MethodTree
method_tree p number = record { method = number; class = plain (owner_of (method_at p number)); args = [] }

abbrev pub frames_in : Program → ℕ → List Value → Frames
frames_in p number arguments = alone_in p (method_tree p number) (method_at p number) arguments

-- the number of the library's method in which a started thread begins
abbrev pub thread_entry_number : ℕ
thread_entry_number = 0

-- thread 0 at its beginning, and a started thread with its object
abbrev pub main_frames : Program → Frames
main_frames p = frames_in p p.main []

abbrev pub started_frames : Program → ℕ → Frames
started_frames p object = frames_in p thread_entry_number (Plain Reference (object ∷ []) ∷ [])

-- which thread a start with its reply begins, and where
abbrev pub started_by : Program → ℕ → Reply → Option (ℕ × Frames)
started_by p object (says.Object number) = None
started_by p object (says.Kind number) = None
started_by p object (says.Word word) = None
started_by p object (says.Thread number) = Some (number, started_frames p object)
started_by p object (says.Ended has_finished) = None
started_by p object says.Unknown = None
started_by p object says.Done = None
started_by p object (says.Stopped why) = None
started_by p object says.Halted = None
started_by p object says.Improper = None

abbrev pub starts : Program → Request → Reply → Option (ℕ × Frames)
starts p (ask.Alloc kind count words) y = None
starts p (ask.TypeOf object) y = None
starts p (ask.Length object) y = None
starts p (ask.Load place) y = None
starts p (ask.Save place word) y = None
starts p (ask.Exchange place word) y = None
starts p (ask.CompareExchange place word comparand) y = None
starts p (ask.Add place word narrow) y = None
starts p (ask.Print form word) y = None
starts p (ask.Start object) y = started_by p object y
starts p (ask.Ended thread) y = None
starts p ask.Finish y = None
starts p (ask.Fall kind) y = None
starts p (ask.Stop why) y = None

-- where the process of each thread begins, if the history has started it
abbrev pub begin : Program → List (Event Request Reply) → ℕ → Option Left
begin p h u = as_process (begin_of (main_frames p) (starts p) h u)
