-- How the threads that the code notes as started are those of the store.
use Rattle.std.specs.Prelude.{◌≡◌, ℕ, Bool, true, false, List, [], ◌∷◌, ◌++◌, slice_set}
use Rattle.store_object.specs.declared.request.Request.{Request}
use Rattle.store_object.specs.declared.request.Request.TheVariants as ask
use Rattle.store_object.specs.declared.reply.Reply.{Reply}
use Rattle.store_object.specs.declared.reply.Reply.TheVariants as says
use Rattle.store_object.specs.Store.{Store}
use Rattle.schedules.specs.declared.started.Change.{Change}
use Rattle.schedules.specs.declared.started.Change.TheVariants as change
use Rattle.schedules.specs.declared.started.Started.{Started}

pub record HasStarted (started : Started) (s : Store) : Type 0 where
  pub finished : started.finished.items ≡ s.finished
  pub over : started.is_over ≡ s.is_over

-- what a request that was done changes of the threads
abbrev pub done_change : Request → Change
done_change (ask.Alloc kind count words) = change.Nothing
done_change (ask.TypeOf object) = change.Nothing
done_change (ask.Length object) = change.Nothing
done_change (ask.Load place) = change.Nothing
done_change (ask.Save place word) = change.Nothing
done_change (ask.Exchange place word) = change.Nothing
done_change (ask.CompareExchange place word comparand) = change.Nothing
done_change (ask.Add place word narrow) = change.Nothing
done_change (ask.Print form word) = change.Nothing
done_change (ask.Start object) = change.Nothing
done_change (ask.Ended thread) = change.Nothing
done_change ask.Finish = change.Finishes
done_change (ask.Fall kind) = change.Ends
done_change (ask.Stop why) = change.Nothing

-- what a request with its reply changes of them
abbrev pub change_of : Request → Reply → Change
change_of r (says.Object number) = change.Nothing
change_of r (says.Kind number) = change.Nothing
change_of r (says.Word word) = change.Nothing
change_of r (says.Thread number) = change.Starts
change_of r (says.Ended has_finished) = change.Nothing
change_of r says.Unknown = change.Nothing
change_of r says.Done = done_change r
change_of r (says.Stopped why) = change.Ends
change_of r says.Halted = change.Nothing
change_of r says.Improper = change.Nothing

abbrev pub finished_after : Change → ℕ → List Bool → List Bool
finished_after change.Nothing thread finished = finished
finished_after change.Ends thread finished = finished
finished_after change.Finishes thread finished = slice_set finished thread true
finished_after change.Starts thread finished = finished ++ false ∷ []

abbrev pub over_after : Change → Bool → Bool
over_after change.Nothing over = over
over_after change.Ends over = true
over_after change.Finishes over = over
over_after change.Starts over = over
