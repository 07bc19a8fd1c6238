-- A run is a loose run that has ended as a run ends; so over a sound image its history is legal, and it ends in no fault.
use Rattle.std.proofs.Common.{◌≡◌, ◌∙◌, ℕ, List, length, Option, Some, None, refl, sym, ap, subst}
use Rattle.std.specs.Prelude.{slice_index}
use Rattle.std.specs.List.{last_or}
use Rattle.mn_outside.specs.declared.machine.MachineFault.{MachineFault}
use Rattle.interaction.specs.declared.history.Event.{Event}
use Rattle.interaction.specs.Process.{Exchange}
use Rattle.interaction.specs.Endings.{IsFull, EndsSo}
use Rattle.interaction.specs.History.{part}
use Rattle.interaction.specs.Object as object
use Rattle.interaction.specs.LooseRun.{Leaves, IsStuck}
use Rattle.interaction.specs.LooseRun as loosely
use Rattle.interaction.specs.Thread.{Turn, Turns}
use Rattle.interaction.specs.Run.{first_of, state_of, state_or, ends_in, run, turns_of}
use Rattle.interaction.specs.Run as running
use Rattle.interaction.proofs.Later.{grows_self}
use Rattle.interaction.proofs.RunLoose.{Follows}
use Rattle.cil_meaning.specs.Meaning.{meaning}
use Rattle.cil_meaning.specs.Shown.{fallen_kind}
use Rattle.cil_meaning.specs.Threads as process
use Rattle.rgctx_fill.specs.ThreadStates.{ImageData, ThreadData, Move, plain}
use Rattle.rgctx_fill.specs.ThreadStates as move
use Rattle.rgctx_fill.specs.ThreadTurns.{next_move, want}
use Rattle.schedules.specs.Ends.{stopped_by, fallen_or, ended_by}
use Rattle.store_object.specs.declared.ending.Ending.{Ending}
use Rattle.store_object.specs.declared.ending.Ending.TheVariants as ends
use Rattle.store_object.specs.declared.request.Request.{Request}
use Rattle.store_object.specs.declared.reply.Reply.{Reply}
use Rattle.store_object.specs.declared.reply.Reply.TheVariants as says
use Rattle.store_object.specs.Replay.{store}
use Rattle.thread_core.specs.declared.progress.Progress.{Progress as ProgressHere}
use Rattle.thread_core.specs.Reached.{AreMet, HasEnded}
use Rattle.thread_core.specs.Runs.{opening_words, machine_of, end_of_move, ending_at}
use Rattle.thread_core.specs.Sound.{words_naming, IsLooseRun, IsFaithful}
use Rattle.thread_core.specs.Starts.{main_thread, begin}

-- what a run has at its end
pub faithful_by : (im : ImageData) (ks : List ℕ) (made : ℕ) (r : ProgressHere) (e : Ending) → HasEnded im ks made r e → IsFaithful im (length ks) (run (machine_of im) ks (opening_words im.cat.program))
faithful_by im ks made r e h = subst (IsFaithful im (length ks)) (sym h.whole) (record {
  end = end;
  loose = loose;
  ended = h.so;
  legal = λ sound. (sound.each h.world.words h.world.history (λ u. turns_of u h.world.turns) end met loose).legal;
  no_fault = λ sound fault is. no_fault_at h.ending h.so (sound.each h.world.words h.world.history (λ u. turns_of u h.world.turns) end met loose) fault is;
})
  where
    met : AreMet im.cat h.world.words
    met = subst (AreMet im.cat) (sym h.words_are) h.met

    end : ℕ → ThreadData
    end = ends_in (machine_of im) (main_thread im) h.world

    leaves_of : (o moved : Option ThreadData) (trail : List (Turn Request Reply)) (es : List (Exchange Request Reply)) → Follows (machine_of im) (slice_index h.world.words) o moved trail es → Leaves (want im) (slice_index h.world.words) o trail (state_or (main_thread im) (first_of moved o)) es
    leaves_of None moved trail es f = f.2
    leaves_of (Some s) moved trail es f =
        let same : f.0 ≡ state_or (main_thread im) (first_of moved (Some s)) = ap (state_or (main_thread im)) (sym f.1) in
        (subst (λ t. Turns (want im) (slice_index h.world.words) s trail t) same f.2, f.3)

    loose : IsLooseRun im h.world.words h.world.history (λ u. turns_of u h.world.turns) end
    loose = record {
      replays = h.followed.runs.replays;
      leaves = λ u. leaves_of (begin im h.world.history u) (h.world.moved u) (turns_of u h.world.turns) (part u h.world.history) (h.followed.runs.each u);
      remembers = λ u. h.followed.remembers u h.world.words (grows_self (slice_index h.world.words));
    }

    Sounds : Type 0
    Sounds = loosely.IsSound store (words_naming h.world.words) (meaning im.cat.program) (want im) (process.begin im.cat.program) (begin im) (slice_index h.world.words) h.world.history end

    -- a thread that is stuck has begun, and stands where it ends
    begun_stuck : (u : ℕ) (s : ThreadData) → state_of (machine_of im) h.world u ≡ Some s → Sounds → IsStuck store (object.replayed store store.first h.world.history) (slice_index h.world.words) u (want im s) → ⊥
    begun_stuck u s is sound stuck = by_begin (begin im h.world.history u) refl (h.world.moved u) refl (h.followed.runs.each u)
      where
        here : end u ≡ s
        here = ap (state_or (main_thread im)) is

        by_begin : (o : Option ThreadData) → begin im h.world.history u ≡ o → (moved : Option ThreadData) → h.world.moved u ≡ moved → Follows (machine_of im) (slice_index h.world.words) o moved (turns_of u h.world.turns) (part u h.world.history) → ⊥
        by_begin None begun moved at f = let none : state_of (machine_of im) h.world u ≡ None = ap (λ q. first_of q (begin im h.world.history u)) (at ∙ f.0) ∙ begun in cc (none, is)
        by_begin (Some a) begun moved at f = sound.goes_on u a begun (subst (λ t. IsStuck store (object.replayed store store.first h.world.history) (slice_index h.world.words) u (want im t)) (sym here) stuck)

    end_full : (w : ℕ → ℕ) (s : ThreadData) (x : Move) → IsFull w (plain x) → (fault : MachineFault) → end_of_move w s x ≡ ends.Fault fault → ⊥
    end_full w s (move.Goes what t) full fault e = full
    end_full w s (move.Reads i next) full fault e = end_full w s (next (w i)) full.1 fault e
    end_full w s (move.Loads what i next) full fault e = full
    end_full w s (move.Claims i put next) full fault e = full
    end_full w s (move.Asks request next) full fault e = full
    end_full w s (move.IsFull region key) full fault e = cc e
    end_full w s (move.Faults f) full fault e = full
    end_full w s move.IsOver full fault e = full

    done_fault : (o : Option (Event Request Reply)) (fault : MachineFault) → ended_by o ≡ ends.Fault fault → ⊥
    done_fault None fault e = cc e
    done_fault (Some x) fault e = by_fall (fallen_kind x.request) x.reply e
      where
        by_reply : (y : Reply) → stopped_by y ≡ ends.Fault fault → ⊥
        by_reply (says.Object k) e' = cc e'
        by_reply (says.Kind k) e' = cc e'
        by_reply (says.Word k) e' = cc e'
        by_reply (says.Thread k) e' = cc e'
        by_reply (says.Ended b) e' = cc e'
        by_reply says.Unknown e' = cc e'
        by_reply says.Done e' = cc e'
        by_reply (says.Stopped why) e' = cc e'
        by_reply says.Halted e' = cc e'
        by_reply says.Improper e' = cc e'

        by_fall : (k : Option ℕ) (y : Reply) → fallen_or k (stopped_by y) ≡ ends.Fault fault → ⊥
        by_fall None y e' = by_reply y e'
        by_fall (Some kind) y e' = cc e'

    no_fault_at : (e : running.Ending ThreadData) → EndsSo (machine_of im) (length ks) h.world e → Sounds → (fault : MachineFault) → ending_at im h.world e ≡ ends.Fault fault → ⊥
    no_fault_at running.Done so sound fault is = done_fault (last_or None h.world.history) fault is
    no_fault_at running.TurnsUsed so sound fault is = cc is
    no_fault_at (running.StuckAt u s) so sound fault is = begun_stuck u s so.0.state sound (subst (λ x. IsStuck store x (slice_index h.world.words) u (want im s)) h.followed.runs.stored so.1)
    no_fault_at (running.FullAt u s) so sound fault is = end_full (slice_index h.world.words) s (next_move im s) so.1 fault is
    no_fault_at (running.Idle u) so sound fault is = so
