-- What the code has of a run after so many turns. This project's own.
use Rattle.std.specs.Prelude.{◌≡◌, ℕ, ◌+◌, Bool, true, false, List, [], ◌∷◌, ◌++◌, length, take, drop, option_map, slice_get, Option, Some, None}
use Rattle.type_tree.specs.declared.tree.TExpr.{TExpr}
use Rattle.il_model.specs.declared.program.Program.{Program}
use Rattle.interaction.specs.Process.{Naming}
use Rattle.interaction.specs.Run.{World, Outcome, state_of, run_from, run}
use Rattle.interaction.specs.Run as running
use Rattle.store_object.specs.declared.ending.Ending.{Ending}
use Rattle.store_object.specs.declared.request.Request.{Request}
use Rattle.store_object.specs.declared.reply.Reply.{Reply}
use Rattle.store_object.specs.Store.{Store}
use Rattle.store_object.specs.Replay.{store, replayed}
use Rattle.interaction.specs.Object.{live_threads}
use Rattle.cil_meaning.specs.Naming.{Mention}
use Rattle.cil_meaning.specs.Replies.{Left}
use Rattle.cil_meaning.specs.Shown.{History}
use Rattle.type_inst.specs.Opening.{Extends}
use Rattle.unshared.specs.declared.thread.Thread.{Thread as ThreadHere}
use Rattle.unshared.specs.declared.whole.Run.{Run as RunHere}
use Rattle.unshared.specs.Listed.{naming_of, IsOnce}
use Rattle.unshared.specs.Turns.{machine}
use Rattle.unshared.specs.Runs.{order_of, ending_at, ending_for, no_rule, HasNumbersFor}
use Rattle.unshared.specs.Standing.{stands, IsFine}
use Rattle.schedules.specs.Living.{HasStarted}

module _ (n : Naming Mention TExpr) (p : Program) (ks : List ℕ) where
  -- After `made` turns these threads stand where the run's do, with this history, and these threads have taken the turns.
  pub record Reached (made : ℕ) (threads : List ThreadHere) (h : History) (order : List ℕ) : Type 0 where
    pub world : World Request Reply Left Store
    pub same : run (machine p n) ks [] ≡ run_from (machine p n) (drop made ks) world
    pub history_is : world.history ≡ h
    pub store_is : world.store ≡ replayed h
    pub order_is : order_of world.turns ≡ order
    pub each : (u : ℕ) → state_of (machine p n) world u ≡ option_map (stands n p) (slice_get threads u)

-- each thread may stand where it does, under every naming that has these types
abbrev pub AreFine : Program → List ThreadHere → List TExpr → Type 0
AreFine p threads kinds = (u : ℕ) (t : ThreadHere) → slice_get threads u ≡ Some t → (later : List TExpr) → Extends kinds later → IsFine (naming_of later) p t

-- Each thread may stand where it does, types that have numbers stand once, and the threads that live are noted.
pub record IsReady (p : Program) (r : RunHere) : Type 0 where
  pub fine : AreFine p r.threads.items r.trees.kinds
  pub once : IsOnce r.trees.kinds
  pub lives : HasStarted r.started (replayed r.world.history)
  pub threads : length r.threads.items ≡ length (replayed r.world.history).finished

-- A turn is noted, with the number that was drawn and the thread that took it. All else is as before.
pub record IsNoted (number thread : ℕ) (old new : RunHere) : Type 0 where
  pub schedule : new.schedule.items ≡ old.schedule.items ++ number ∷ []
  pub order : new.order.items ≡ old.order.items ++ thread ∷ []
  pub trees : new.trees ≡ old.trees
  pub threads : new.threads ≡ old.threads
  pub started : new.started ≡ old.started
  pub world : new.world ≡ old.world

-- So it is under every naming that has the types that have numbers so far; and the numbers drawn and the threads that took the
-- turns are noted.
module _ (p : Program) (ks : List ℕ) where
  pub record IsAt (made : ℕ) (r : RunHere) : Type 0 where
    pub reached : (later : List TExpr) → Extends r.trees.kinds later → Reached (naming_of later) p ks made r.threads.items r.world.history r.order.items
    pub ready : IsReady p r
    pub schedule : r.schedule.items ≡ take made ks
    pub count : length r.order.items ≡ made

  -- The run ends here, so.
  pub record HasEnded (made : ℕ) (r : RunHere) (n : Naming Mention TExpr) (e : Ending) : Type 0 where
    pub threads : List ThreadHere
    pub reached : Reached n p ks made threads r.world.history r.order.items
    pub ending : running.Ending Left
    pub whole : run (machine p n) ks [] ≡ record { world = reached.world; ending = ending }
    pub named : e ≡ ending_at r.world.history ending
    pub numbered : HasNumbersFor n p ending
    pub so : e ≡ ending_for (length ks) made r.world.history (live_threads store (replayed r.world.history))
    pub once : IsOnce r.trees.kinds
    pub schedule : r.schedule.items ≡ take made ks
    pub count : length r.order.items ≡ made

  abbrev pub Ends : ℕ → RunHere → Ending → Type 0
  Ends made r e = (later : List TExpr) → Extends r.trees.kinds later → HasEnded made r (naming_of later) e

  -- after a turn, or where there is none for want of a rule
  abbrev pub TurnedOrEnded : ℕ → RunHere → (made : Bool) → Type 0
  TurnedOrEnded turns r true = IsAt (turns + 1) r
  TurnedOrEnded turns r false = Ends turns r no_rule

  -- after a number more: one turn more, or the end
  abbrev pub GoesOnOrEnds : ℕ → RunHere → Option Ending → Type 0
  GoesOnOrEnds turns r None = IsAt (turns + 1) r
  GoesOnOrEnds turns r (Some e) = Ends turns r e
