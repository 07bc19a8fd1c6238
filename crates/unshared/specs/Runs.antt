-- The plain run of a program, and what its record says. This project's own.
use Rattle.std.specs.Prelude.{◌≡◌, ℕ, List, [], ◌∷◌, map, take, length, None, ⊤, if◌then◌else◌, ◌==◌}
use Rattle.std.specs.List.{last_or}
use Rattle.type_tree.specs.declared.tree.TExpr.{TExpr}
use Rattle.il_model.specs.declared.program.Program.{Program}
use Rattle.mn_outside.specs.declared.machine.FaultCause.TheVariants as fault
use Rattle.interaction.specs.Run.{Outcome, Taken, run}
use Rattle.interaction.specs.Run as running
use Rattle.store_object.specs.declared.ending.Chooser.{Chooser}
use Rattle.store_object.specs.declared.ending.Ending.{Ending}
use Rattle.store_object.specs.declared.ending.Ending.TheVariants as ends
use Rattle.store_object.specs.declared.request.Request.{Request}
use Rattle.store_object.specs.declared.reply.Reply.{Reply}
use Rattle.store_object.specs.Store.{Store}
use Rattle.store_object.specs.Replay.{store, replayed}
use Rattle.interaction.specs.Object.{live_threads}
use Rattle.interaction.specs.Process.{Naming, Next, Settle, Spell, Ask, Over, Stuck}
use Rattle.cil_meaning.specs.Naming.{IsNaming, Mention}
use Rattle.cil_meaning.specs.Replies.{Left}
use Rattle.cil_meaning.specs.Language.{Legal}
use Rattle.cil_meaning.specs.Shown.{History}
use Rattle.schedules.specs.Ends.{ended_by}
use Rattle.unshared.specs.Listed.{naming_of}
use Rattle.unshared.specs.Turns.{silent, begun, machine}
use Rattle.schedules.specs.Numbers.{numbers}

-- the run of the program's processes, one turn for each of the chooser's numbers, where the types have these numbers
abbrev pub run_of : Program → List TExpr → Chooser → ℕ → Outcome Request Reply Left Store
run_of p trees chooser turns = run (machine p (naming_of trees)) (numbers chooser turns) []

-- A run that comes to a thread without a rule, or whose request the store finds improper, ends as a fault at address 0.
-- No run of a verified program is to come there.
abbrev pub no_rule : Ending
no_rule = ends.Fault (record { pc = 0; cause = fault.Break })

abbrev pub ending_at : History → running.Ending Left → Ending
ending_at h running.Done = ended_by (last_or None h)
ending_at h running.TurnsUsed = ends.Turns
ending_at h (running.StuckAt thread q) = no_rule
ending_at h (running.FullAt thread q) = no_rule
ending_at h (running.Idle thread) = no_rule

-- the end where so many turns are made, by those that live then
abbrev pub last_ending : History → List ℕ → Ending
last_ending h [] = ended_by (last_or None h)
last_ending h (u ∷ us) = ends.Turns

-- The end after `made` of so many turns, by the history and by those that live then: what the history ends with where nobody
-- lives; else the turns are used up, or there was no rule.
abbrev pub ending_for : (turns made : ℕ) → History → List ℕ → Ending
ending_for turns made h [] = ended_by (last_or None h)
ending_for turns made h (u ∷ us) = if made == turns then ends.Turns else no_rule

-- the thread of each turn
abbrev pub order_of : List (Taken Request Reply) → List ℕ
order_of turns = map (λ t. t.thread) turns

-- What a record of the run says: a number for each turn, and the thread that took it; what was asked, with the replies; and the end.
pub record IsRun (r : Outcome Request Reply Left Store) (drawn schedule order : List ℕ) (history : History) (ending : Ending) : Type 0 where
  pub schedule_is : schedule ≡ take (length r.world.turns) drawn
  pub order_is : order ≡ order_of r.world.turns
  pub history_is : history ≡ r.world.history
  pub ending_is : ending ≡ ending_at r.world.history r.ending

-- Numbers that a run asks for. ----------------------------------------------

-- what is left waits for the number of a mention, or for the type of a number
abbrev pub Waits : Left → Type 0
Waits (Next f) = ⊥
Waits (Settle m k) = Unit {0}
Waits (Spell i k) = Unit {0}
Waits (Ask r k) = ⊥
Waits Over = ⊥
Waits Stuck = ⊥

-- The naming has every number that the run asks for: a run that ends at a thread without a rule doesn't end for want of one.
abbrev pub HasNumbersFor : Naming Mention TExpr → Program → running.Ending Left → Type 0
HasNumbersFor n p running.Done = ⊤
HasNumbersFor n p running.TurnsUsed = ⊤
HasNumbersFor n p (running.StuckAt thread q) = ¬ Waits (silent n (begun n p q))
HasNumbersFor n p (running.FullAt thread q) = ⊤
HasNumbersFor n p (running.Idle thread) = ⊤

-- Nobody lives, or all turns are made.
abbrev pub IsSure : running.Ending Left → Type 0
IsSure running.Done = ⊤
IsSure running.TurnsUsed = ⊤
IsSure (running.StuckAt thread q) = ⊥
IsSure (running.FullAt thread q) = ⊥
IsSure (running.Idle thread) = ⊥

-- an end that a program comes to by its meaning, a limit, or the number of turns
abbrev pub IsSureEnding : Ending → Type 0
IsSureEnding ends.Done = ⊤
IsSureEnding (ends.Uncaught kind) = ⊤
IsSureEnding ends.Turns = ⊤
IsSureEnding (ends.Stopped why) = ⊤
IsSureEnding (ends.Full region key) = ⊥
IsSureEnding (ends.Fault fault) = ⊥

-- The record is that of the run under the naming that the list of types gives, which has every number that the run asks for, and
-- the history is legal under it. The end is Turns exactly where there are as many turns and a thread lives.
pub record IsMeant (p : Program) (chooser : Chooser) (turns : ℕ) (trees : List TExpr) (schedule order : List ℕ) (history : History) (ending : Ending) : Type 0 where
  pub naming : IsNaming (naming_of trees)
  pub numbered : HasNumbersFor (naming_of trees) p (run_of p trees chooser turns).ending
  pub runs : IsRun (run_of p trees chooser turns) (numbers chooser turns) schedule order history ending
  pub legal : Legal p (naming_of trees) history
  pub ends_so : ending ≡ ending_for turns (length order) history (live_threads store (replayed history))
