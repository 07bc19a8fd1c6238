-- What a thread that goes on does next, and where a reply brings it.
use Rattle.std.proofs.Common.{◌≡◌, ◌∙◌, List, [], ◌∷◌, ◌++◌, Option, Some, None, refl, sym, ap}
use Rattle.type_tree.specs.declared.tree.TExpr.{TExpr}
use Rattle.il_model.specs.declared.program.Program.{Program}
use Rattle.interaction.specs.declared.turn.What.TheVariants as noted
use Rattle.interaction.specs.Process.{Naming, Next, Ask, Over, Stuck}
use Rattle.interaction.specs.Thread as thread
use Rattle.store_object.specs.declared.request.Request.{Request}
use Rattle.store_object.specs.declared.reply.Reply.{Reply}
use Rattle.cil_meaning.specs.Naming.{Mention}
use Rattle.cil_meaning.specs.Replies.{Left}
use Rattle.cil_meaning.specs.Meaning.{meaning}
use Rattle.unshared.specs.declared.frames.Frames.{Frames as FramesHere}
use Rattle.unshared.specs.declared.thread.Going.TheVariants as going
use Rattle.unshared.specs.Held.{the_frames}
use Rattle.unshared.specs.Turns.{silent, replied, answered, begun, wants, want}
use Rattle.unshared.specs.Standing.{frames_or_none, left_at, doing, IsPending, MayStand}
use Rattle.unshared.proofs.Answering.{answered_more}

module _ (n : Naming Mention TExpr) (p : Program) where
  by_pending : (q : Left) → IsPending q → silent n (begun n p q) ≡ q
  by_pending q pending =
      let e = pending.1.1 in
      ap (λ z. silent n (begun n p z)) e ∙ sym e

  -- what is left before the next turn is what its instruction has left with its replies
  pub next_is : (o : Option FramesHere) (ys : List Reply) → MayStand going.On ys (left_at n p o ys) → silent n (begun n p (left_at n p o ys)) ≡ doing n p o ys
  next_is None [] fine = refl
  next_is None (y ∷ ys) fine = refl
  next_is (Some f) [] fine = refl
  next_is (Some f) (y ∷ ys) fine = by_pending (answered n (y ∷ ys) (meaning p (the_frames f))) fine

  pub want_is : (o : Option FramesHere) (ys : List Reply) → MayStand going.On ys (left_at n p o ys) → want n p (left_at n p o ys) ≡ wants n (doing n p o ys)
  want_is o ys fine = ap (wants n) (next_is o ys fine)

  pub stands_there : (o : Option FramesHere) → left_at n p o [] ≡ Next (frames_or_none o)
  stands_there None = refl
  stands_there (Some f) = refl

  -- an instruction that is done without a request, before which there was none either
  pub want_quiet : (o new : Option FramesHere) (ys : List Reply) → MayStand going.On ys (left_at n p o ys) → doing n p o ys ≡ Next (frames_or_none new) → want n p (left_at n p o ys) ≡ thread.Go noted.Action (left_at n p new ys)
  want_quiet o new [] fine e = want_is o [] fine ∙ ap (wants n) e ∙ ap (thread.Go noted.Action) (sym (stands_there new))
  want_quiet None new (y ∷ ys) fine e = absurd (cc e)
  want_quiet (Some f) new (y ∷ ys) fine e = let asks = fine.1.1 in absurd (cc (asks, e))

  pub want_asks : (o : Option FramesHere) (ys : List Reply) (r : Request) (k : Reply → Left) → MayStand going.On ys (left_at n p o ys) → doing n p o ys ≡ Ask r k → want n p (left_at n p o ys) ≡ thread.Ask r (λ y. silent n (k y))
  want_asks o ys r k fine e = want_is o ys fine ∙ ap (wants n) e

  pub want_stuck : (o : Option FramesHere) (ys : List Reply) → MayStand going.On ys (left_at n p o ys) → doing n p o ys ≡ Stuck → want n p (left_at n p o ys) ≡ thread.Fault
  want_stuck o ys fine e = want_is o ys fine ∙ ap (wants n) e

  pub want_over : (o : Option FramesHere) (ys : List Reply) → MayStand going.On ys (left_at n p o ys) → doing n p o ys ≡ Over → want n p (left_at n p o ys) ≡ thread.Over
  want_over o ys fine e = want_is o ys fine ∙ ap (wants n) e

  -- with one reply more
  pub doing_more : (o : Option FramesHere) (ys : List Reply) (r : Request) (k : Reply → Left) (y : Reply) → doing n p o ys ≡ Ask r k → doing n p o (ys ++ y ∷ []) ≡ silent n (k y)
  doing_more None ys r k y e = absurd (cc e)
  doing_more (Some f) ys r k y e = answered_more n ys y (meaning p (the_frames f)) ∙ ap (λ a. replied n a y (silent n)) e

  pub left_more : (o : Option FramesHere) (ys : List Reply) (r : Request) (k : Reply → Left) (y : Reply) → doing n p o ys ≡ Ask r k → left_at n p o (ys ++ y ∷ []) ≡ doing n p o (ys ++ y ∷ [])
  left_more None ys r k y e = absurd (cc e)
  left_more (Some f) [] r k y e = refl
  left_more (Some f) (z ∷ zs) r k y e = refl
