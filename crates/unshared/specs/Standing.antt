-- Where a thread of the code stands: what is left of its process.
use Rattle.std.specs.Prelude.{◌≡◌, List, [], ◌∷◌, Option, Some, None, Result, Ok, Err, ⊤}
use Rattle.type_tree.specs.declared.tree.TExpr.{TExpr}
use Rattle.il_model.specs.declared.program.Program.{Program}
use Rattle.interaction.specs.Process.{Naming, Next, Ask, Over, Stuck}
use Rattle.store_object.specs.declared.request.Request.{Request}
use Rattle.store_object.specs.declared.reply.Reply.{Reply}
use Rattle.cil_meaning.specs.Naming.{Mention}
use Rattle.cil_meaning.specs.Frames.{Frames}
use Rattle.cil_meaning.specs.Replies.{Left}
use Rattle.cil_meaning.specs.Meaning.{meaning}
use Rattle.unshared.specs.declared.frames.Frames.{Frames as FramesHere}
use Rattle.unshared.specs.declared.thread.Going.{Going}
use Rattle.unshared.specs.declared.thread.Going.TheVariants as going
use Rattle.unshared.specs.declared.thread.Thread.{Thread as ThreadHere}
use Rattle.unshared.specs.Held.{the_frames}
use Rattle.unshared.specs.declared.pause.Pause.{Pause}
use Rattle.unshared.specs.declared.pause.Pause.TheVariants as pause
use Rattle.unshared.specs.declared.pause.Halt.TheVariants as halt
use Rattle.unshared.specs.Acts as acts
use Rattle.unshared.specs.Turns.{answered}

-- frames of a method that the program lacks
abbrev pub nowhere : Frames
nowhere = record { frames = []; places = [] }

abbrev pub frames_or_none : Option FramesHere → Frames
frames_or_none None = nowhere
frames_or_none (Some f) = the_frames f

module _ (n : Naming Mention TExpr) (p : Program) where
  -- before an instruction, or before a request of one that got these replies
  abbrev pub left_at : Option FramesHere → List Reply → Left
  left_at None ys = Next nowhere
  left_at (Some f) [] = Next (the_frames f)
  left_at (Some f) (y ∷ ys) = answered n (y ∷ ys) (meaning p (the_frames f))

  abbrev pub stands_by : Going → Left → Left
  stands_by going.On q = q
  stands_by going.Over q = Over
  stands_by going.Stuck q = Stuck

  abbrev pub stands : ThreadHere → Left
  stands t = stands_by t.going (left_at t.frames t.replies.items)

  -- what is left of its instruction, with these replies
  abbrev pub doing : Option FramesHere → List Reply → Left
  doing None ys = Stuck
  doing (Some f) ys = answered n ys (meaning p (the_frames f))

-- What is left of an instruction comes to these frames, or halts as the code does; want of memory says nothing.
abbrev pub Arrives : Left → Frames → Result (Unit {0}) Pause → Type 0
Arrives q after (Ok u) = q ≡ Next after
Arrives q after (Err (pause.Halts h)) = acts.Halts q h
Arrives q after (Err pause.NoMemory) = ⊤

-- where it makes a request the frames stay as they are, for it is done anew
abbrev pub Halts : Result (Unit {0}) Pause → Option FramesHere → Option FramesHere → Type 0
Halts (Ok u) old new = ⊤
Halts (Err (pause.Halts (halt.Asks r))) old new = new ≡ old
Halts (Err (pause.Halts halt.Over)) old new = ⊤
Halts (Err (pause.Halts halt.Stuck)) old new = ⊤
Halts (Err (pause.Halts halt.Unnamed)) old new = ⊤
Halts (Err pause.NoMemory) old new = ⊤

-- A thread that goes on has replies only where it stands before a request.
abbrev pub IsPending : Left → Type 0
IsPending q = (r : Request) × ((k : Reply → Left) × (q ≡ Ask r k))

abbrev pub MayStand : Going → List Reply → Left → Type 0
MayStand going.On [] q = ⊤
MayStand going.On (y ∷ ys) q = IsPending q
MayStand going.Over ys q = ⊤
MayStand going.Stuck ys q = ⊤

abbrev pub IsFine : Naming Mention TExpr → Program → ThreadHere → Type 0
IsFine n p t = MayStand t.going t.replies.items (left_at n p t.frames t.replies.items)

-- A thread stands where an instruction has come with these replies, and may stand there.
pub record Came (n : Naming Mention TExpr) (p : Program) (frames : Option FramesHere) (replies : List Reply) (t : ThreadHere) : Type 0 where
  pub stands_so : stands n p t ≡ doing n p frames replies
  pub fine : IsFine n p t
