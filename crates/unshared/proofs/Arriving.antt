-- What is left of an instruction, by what the code of it says.
use Rattle.std.proofs.Common.{◌≡◌, ◌∙◌, List, [], ◌∷◌, true, false, Option, Some, Result, Ok, Err, refl, ap, subst}
use Rattle.type_tree.specs.declared.tree.TExpr.{TExpr}
use Rattle.il_model.specs.declared.program.Program.{Program}
use Rattle.interaction.specs.Process.{Naming, Next, Stuck}
use Rattle.store_object.specs.declared.reply.Reply.{Reply}
use Rattle.cil_meaning.specs.Naming.{Mention}
use Rattle.cil_meaning.specs.Replies.{Left}
use Rattle.cil_meaning.specs.Frames.{Frames}
use Rattle.cil_meaning.specs.Meaning.{meaning}
use Rattle.unshared.specs.declared.frames.Frames.{Frames as FramesHere}
use Rattle.unshared.specs.Held.{the_frames}
use Rattle.unshared.specs.declared.pause.Halt.TheVariants as halt
use Rattle.unshared.specs.declared.pause.Pause.{Pause}
use Rattle.unshared.specs.declared.pause.Pause.TheVariants as pause
use Rattle.unshared.specs.declared.thread.Going.TheVariants as going
use Rattle.unshared.specs.declared.thread.Thread.{Thread as ThreadHere}
use Rattle.unshared.specs.Acts.{Ends}
use Rattle.unshared.specs.Standing.{Arrives, doing, frames_or_none, stands}
use Rattle.unshared.specs.Talk.{are_used}
use Rattle.unshared.specs.Took.{IsBegun}
use Rattle.unshared.specs.Turns.{answered}
use Rattle.unshared.proofs.Standing.{stands_there}

module _ (n : Naming Mention TExpr) where
  used_next : (zs : List Reply) (f : Frames) → are_used zs ≡ true → answered n zs (Next f) ≡ Next f
  used_next [] f e = refl
  used_next (z ∷ zs) f e = absurd (cc e)

  unused_next : (zs : List Reply) (f : Frames) → are_used zs ≡ false → answered n zs (Next f) ≡ Stuck
  unused_next [] f e = absurd (cc e)
  unused_next (z ∷ zs) f e = refl

  pub arrives_used : (ys zs : List Reply) (q : Left) (f : Frames) → Ends n ys zs q f (Ok tt) → are_used zs ≡ true → Arrives (answered n ys q) f (Ok tt)
  arrives_used ys zs q f e used = e ∙ used_next zs f used

  pub arrives_unused : (ys zs : List Reply) (q : Left) (f after : Frames) → Ends n ys zs q f (Ok tt) → are_used zs ≡ false → Arrives (answered n ys q) after (Err (pause.Halts halt.Stuck))
  arrives_unused ys zs q f after e unused = e ∙ unused_next zs f unused

  arrives_not : (ys zs : List Reply) (q : Left) (f after : Frames) (why : Pause) → Ends n ys zs q f (Err why) → Arrives (answered n ys q) after (Err why)
  arrives_not ys zs q f after (pause.Halts h) e = e
  arrives_not ys zs q f after pause.NoMemory e = tt

  -- the same of the thread that does it
  pub arrives_err : (p : Program) (o : Option FramesHere) (f after : FramesHere) (ys ws zs : List Reply) (why : Pause) (r : Result (Unit {0}) Pause) → o ≡ Some f → ws ≡ ys → r ≡ Err why →
      Ends n ws zs (meaning p (the_frames f)) (the_frames after) (Err why) → Arrives (doing n p o ys) (the_frames after) r
  arrives_err p o f after ys ws zs why r there same is e = rw (there, is) (arrives_not ys zs (meaning p (the_frames f)) (the_frames after) (the_frames after) why (subst (λ l. Ends n l zs (meaning p (the_frames f)) (the_frames after) (Err why)) same e))

-- A thread that begins. ------------------------------------------------------

begins_at : (n : Naming Mention TExpr) (p : Program) (t : ThreadHere) (f : Frames) → t.going ≡ going.On → t.replies.items ≡ [] → frames_or_none t.frames ≡ f → stands n p t ≡ Next f
begins_at n p t f goes unasked there = rw (goes, unasked) (stands_there n p t.frames ∙ ap Next there)

pub begun_thread : (p : Program) (t : ThreadHere) (f : Frames) → t.going ≡ going.On → t.replies.items ≡ [] → frames_or_none t.frames ≡ f → IsBegun p t f
begun_thread p t f goes unasked there = record { goes = goes; unasked = unasked; there = λ n. begins_at n p t f goes unasked there }
