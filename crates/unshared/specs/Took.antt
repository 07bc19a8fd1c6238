-- What one turn of a thread is, of the machine of the processes.
use Rattle.std.specs.Prelude.{◌≡◌, ◌⊎◌, ℕ, true, List, [], ◌∷◌, ◌++◌, Option, Some, None, ◌||◌, slice_get, slice_set}
use Rattle.type_tree.specs.declared.tree.TExpr.{TExpr}
use Rattle.il_model.specs.declared.program.Program.{Program}
use Rattle.interaction.specs.declared.history.Event.{Event}
use Rattle.interaction.specs.declared.turn.What.TheVariants as noted
use Rattle.interaction.specs.Process.{Naming, Next, Stuck}
use Rattle.interaction.specs.Object.{Answers}
use Rattle.interaction.specs.Thread.{Go, Ask, Over}
use Rattle.store_object.specs.declared.request.Request.{Request}
use Rattle.store_object.specs.declared.request.Request.TheVariants as ask
use Rattle.store_object.specs.declared.reply.Reply.{Reply}
use Rattle.store_object.specs.declared.reply.Reply.TheVariants as says
use Rattle.store_object.specs.Answer.{answer}
use Rattle.store_object.specs.Replay.{store, replayed, is_halted, is_improper}
use Rattle.type_inst.specs.Opening.{Extends}
use Rattle.cil_meaning.specs.Naming.{Mention}
use Rattle.cil_meaning.specs.Frames.{Frames}
use Rattle.cil_meaning.specs.Replies.{Left}
use Rattle.cil_meaning.specs.Shown.{History}
use Rattle.cil_meaning.specs.Threads.{starts, started_frames}
use Rattle.unshared.specs.declared.thread.Going.TheVariants as going
use Rattle.unshared.specs.declared.thread.Thread.{Thread as ThreadHere}
use Rattle.unshared.specs.declared.thread.Turn.{Turn as TurnHere}
use Rattle.unshared.specs.declared.thread.Turn.TheVariants as turn
use Rattle.unshared.specs.Turns.{silent, begun, want}
use Rattle.unshared.specs.Growing.{Grown}
use Rattle.unshared.specs.Listed.{naming_of}
use Rattle.unshared.specs.Standing.{stands, IsFine}

-- a thread that has just begun in these frames
pub record IsBegun (p : Program) (t : ThreadHere) (f : Frames) : Type 0 where
  pub goes : t.going ≡ going.On
  pub unasked : t.replies.items ≡ []
  pub there : (n : Naming Mention TExpr) → stands n p t ≡ Next f

-- the object of the thread that a start with its reply begins
abbrev pub object_begun : ℕ → Reply → Option ℕ
object_begun object (says.Object number) = None
object_begun object (says.Kind number) = None
object_begun object (says.Word word) = None
object_begun object (says.Thread number) = Some object
object_begun object (says.Ended has_finished) = None
object_begun object says.Unknown = None
object_begun object says.Done = None
object_begun object (says.Stopped why) = None
object_begun object says.Halted = None
object_begun object says.Improper = None

abbrev pub object_started : Request → Reply → Option ℕ
object_started (ask.Alloc kind count words) y = None
object_started (ask.TypeOf object) y = None
object_started (ask.Length object) y = None
object_started (ask.Load place) y = None
object_started (ask.Save place word) y = None
object_started (ask.Exchange place word) y = None
object_started (ask.CompareExchange place word comparand) y = None
object_started (ask.Add place word narrow) y = None
object_started (ask.Print form word) y = None
object_started (ask.Start object) y = object_begun object y
object_started (ask.Ended thread) y = None
object_started ask.Finish y = None
object_started (ask.Fall kind) y = None
object_started (ask.Stop why) y = None

-- what a turn with this event is, where it starts a thread with this object, or none
abbrev pub asked_or_started : Event Request Reply → Option ℕ → TurnHere
asked_or_started e None = turn.Asked e
asked_or_started e (Some object) = turn.Started e object

abbrev pub turn_of : Event Request Reply → TurnHere
turn_of e = asked_or_started e (object_started e.request e.reply)

-- Thread u goes from one state to another, and the history grows from `h`.
module _ (n : Naming Mention TExpr) (p : Program) (u : ℕ) (h : History) where
  -- by this request with its reply, which starts this thread or none
  pub record Spoke (before after : Left) (history : History) (event : Event Request Reply) (begins : Option (ℕ × Frames)) : Type 0 where
    pub left : Reply → Left
    pub wants : want n p before ≡ Ask event.request left
    pub thread_is : event.thread ≡ u
    pub answers : Answers store (replayed h) u event.request event.reply
    pub to : after ≡ left event.reply
    pub kept : history ≡ h ++ event ∷ []
    pub starts_so : starts p event.request event.reply ≡ begins

  -- by an instruction that makes none
  abbrev pub Quietly : Left → Left → History → Type 0
  Quietly before after history = (want n p before ≡ Go noted.Action after) × (history ≡ h)

  -- a request that the store refuses
  pub record IsRefused (before : Left) : Type 0 where
    pub request : Request
    pub left : Reply → Left
    pub wants : want n p before ≡ Ask request left
    pub refused : (is_halted (answer (replayed h) u request).0 || is_improper (answer (replayed h) u request).0) ≡ true

  -- there is no turn
  abbrev pub HasNone : Left → Type 0
  HasNone before = (silent n (begun n p before) ≡ Stuck) ⊎ ((want n p before ≡ Over) ⊎ IsRefused before)

  abbrev pub Took : Left → Left → History → TurnHere → Type 0
  Took before after history turn.Quiet = Quietly before after history
  Took before after history (turn.Asked event) = Spoke before after history event None
  Took before after history (turn.Started event object) = (number : ℕ) × Spoke before after history event (Some (number, started_frames p object))
  Took before after history turn.NoRule = HasNone before × (history ≡ h)

-- The thread at a place of a list took a turn: types may have got numbers, and the history may have grown.
pub record Moved (p : Program) (u : ℕ) (before after : List ThreadHere) (kinds more : List TExpr) (h history : History) (turn : TurnHere) : Type 0 where
  pub old : ThreadHere
  pub new : ThreadHere
  pub there : slice_get before u ≡ Some old
  pub set : after ≡ slice_set before u new
  pub grown : Grown kinds more
  pub fine : (later : List TExpr) → Extends more later → IsFine (naming_of later) p new
  pub took : (later : List TExpr) → Extends more later → Took (naming_of later) p u h (stands (naming_of later) p old) (stands (naming_of later) p new) history turn
