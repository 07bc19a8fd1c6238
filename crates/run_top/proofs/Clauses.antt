-- What a kept run of a compiled program has.
use Rattle.std.proofs.Common.{◌≡◌, ◌≤◌, ℕ, ◌+◌, ◌*◌, List, [], length, Bool, true, false, refl, sym, ap, ◌∙◌, subst, arith}
use Rattle.std.proofs.lemmas.List.{length-map}
use Rattle.run_top.specs.declared.first.FirstOp.{FirstOp}
use Rattle.run_top.specs.WellFormed.{IsWellFormed}
use Rattle.interaction.specs.Process.{Next}
use Rattle.interaction.specs.History.{Legal}
use Rattle.interaction.specs.Run.{Outcome, Ending, Done as AllDone, TurnsUsed, StuckAt, FullAt, Idle, ends_in, turns_of}
use Rattle.interaction.proofs.Joining.{loose_progress}
use Rattle.interaction.proofs.RunLoose.{Sane, run_sane, run_is_loose}
use Rattle.interaction.specs.declared.history.Event.{Event}
use Rattle.store_object.specs.declared.ending.Ending.{Ending as KeptEnding}
use Rattle.store_object.specs.declared.ending.Ending.TheVariants as kept
use Rattle.store_object.specs.declared.reply.Reply.{Reply}
use Rattle.store_object.specs.declared.request.Request.{Request}
use Rattle.store_object.specs.Replay.{replayed, store}
use Rattle.store_object.specs.Store.{Store, is_live}
use Rattle.store_object.proofs.Histories.{replayed_is}
use Rattle.run_top.specs.declared.record.Turn.{Turn}
use Rattle.run_top.specs.Process.{meaning, naming, main, begin}
use Rattle.run_top.specs.Machine.{Thread, start}
use Rattle.run_top.specs.Code.{image_of, frame_words}
use Rattle.run_top.specs.Run.{numbers, image_run, IsRegular, IsRun}
use Rattle.run_top.specs.Executed.{AllExecuted, AllFirst, EndsSo, lives_after}
use Rattle.run_top.proofs.OneThread.{store_of}
use Rattle.run_top.proofs.AllRuns.{Closes, Ended, all_first, run_ended, executed}
use Rattle.run_top.proofs.Follows.{At, sides, goes_on}
use Rattle.run_top.proofs.Image.{Fit, Held, Known, machine, machine_laws, together, begins_so, stuck_never, runs_well}
use Rattle.run_top.proofs.Bound.{few_steps, spent_all, gains_none, its_turns}

module _ (ops : List FirstOp) (well : IsWellFormed ops) (limit : ℕ) where
  abbrev pub whole : Outcome Request Reply Thread Store
  whole = image_run (image_of ops) (frame_words ops) limit

  its_end : Ended (image_of ops) limit whole
  its_end = run_ended (image_of ops) (frame_words ops) limit

  its_world : Sane (machine ops well) Fit Held Known (machine_laws (image_of ops) (frame_words ops)) whole.world
  its_world = run_sane (machine ops well) Fit Held Known (machine_laws (image_of ops) (frame_words ops)) [] (numbers 0 limit) tt

  -- a machine fault never comes
  pub regular : IsRegular whole.ending
  regular = by_ending whole.ending refl its_end.closes
    where
      by_ending : (e : Ending Thread) → whole.ending ≡ e → Closes limit whole.world e → IsRegular e
      by_ending AllDone is h = tt
      by_ending TurnsUsed is h = tt
      by_ending (StuckAt u s) is h = (runs_well ops well limit).goes_on u s is
      by_ending (FullAt u s) is h = h
      by_ending (Idle u) is h = h

  -- how many turns there are
  pub few_turns : length whole.world.turns ≤ 1024 * (length ops + 1)
  few_turns =
      let loose = run_is_loose (machine ops well) Fit Held Known (machine_laws (image_of ops) (frame_words ops)) (start (frame_words ops)) [] (numbers 0 limit) tt in
      let advances = loose_progress (sides ops (image_of ops) whole.world.words) (At ops (image_of ops)) store begin (goes_on ops (image_of ops) whole.world.words) (begins_so ops well) (stuck_never ops well) (machine ops well).begin (together ops well whole.world.words) (Known whole.world.words) whole.world.history (λ u. turns_of u whole.world.turns) (ends_in (machine ops well) (start (frame_words ops)) whole.world) loose 0 (Next main) (start (frame_words ops)) refl refl in
      let steps = few_steps ops advances.talk (length ops + 1) (omega arith, omega arith) in
      omega (arith, advances.paid, steps, spent_all advances.turns, gains_none advances.turns, its_turns (image_of ops) whole.world.turns its_end.sound)

  module _ (turns : List Turn) (history : List (Event Request Reply)) (ending : KeptEnding) (run : IsRun whole turns history ending) where
    pub legal : Legal store naming (meaning ops) begin history
    legal = subst (Legal store naming (meaning ops) begin) (sym run.history_is) (runs_well ops well limit).legal

    pub all_executed : AllExecuted (image_of ops) turns
    all_executed = subst (AllExecuted (image_of ops)) (sym run.turns_are) (executed (image_of ops) whole.world.turns its_end.sound)

    pub requests : AllFirst history
    requests = subst AllFirst (sym run.history_is) (all_first whole.world.history its_end.asks)

    same_length : length turns ≡ length whole.world.turns
    same_length = ap length run.turns_are ∙ length-map whole.world.turns _

    pub few : length turns ≤ 1024 * (length ops + 1)
    few = subst (λ n. n ≤ 1024 * (length ops + 1)) (sym same_length) few_turns

    lives : (live : Bool) → whole.world.store ≡ store_of live → lives_after history ≡ is_live (store_of live) 0
    lives live is = ap (λ h. is_live (replayed h) 0) run.history_is ∙ ap (λ x. is_live x 0) (replayed_is whole.world.history ∙ sym its_world.runs.stored ∙ is)

  pub ends_so : (turns : List Turn) (history : List (Event Request Reply)) (ending : KeptEnding) → IsRun whole turns history ending → EndsSo limit turns history ending
  ends_so turns history kept.Done run = let closes = subst (Closes limit whole.world) run.ending_is its_end.closes in lives turns history kept.Done run false closes
  ends_so turns history (kept.Uncaught kind) run = run.ending_is
  ends_so turns history kept.Turns run = let closes = subst (Closes limit whole.world) run.ending_is its_end.closes in (same_length turns history kept.Turns run ∙ closes.0, lives turns history kept.Turns run true closes.1)
  ends_so turns history (kept.Stopped why) run = run.ending_is
  ends_so turns history (kept.Full region key) run = run.ending_is
  ends_so turns history (kept.Fault fault) run = run.ending_is
