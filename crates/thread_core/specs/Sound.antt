-- Sound images: in every loose run of such an image the history is legal, and no thread is stuck. This project's own.
use Rattle.std.specs.Prelude.{◌≡◌, ℕ, Bool, false, List, length, slice_index, position, Option, Some, None}
use Rattle.std.specs.List.{range_with_len}
use Rattle.type_tree.specs.declared.tree.TExpr.{TExpr}
use Rattle.type_tree.specs.Same.{is_same}
use Rattle.mn_outside.specs.declared.machine.MachineFault.{MachineFault}
use Rattle.interaction.specs.declared.history.Event.{Event}
use Rattle.interaction.specs.Endings.{EndsSo}
use Rattle.interaction.specs.Process.{Naming}
use Rattle.interaction.specs.Thread.{Turn}
use Rattle.interaction.specs.LooseRun.{LooseRun}
use Rattle.interaction.specs.Run.{Outcome, turns_of}
use Rattle.interaction.specs.Sound.{Sound}
use Rattle.cil_meaning.specs.Language.{Legal}
use Rattle.cil_meaning.specs.Meaning.{meaning}
use Rattle.cil_meaning.specs.Naming.{Mention, type_of_mention}
use Rattle.cil_meaning.specs.Threads as process
use Rattle.rgctx_fill.specs.Spelled.{naming_of}
use Rattle.rgctx_fill.specs.ThreadStates.{ImageData, ThreadData}
use Rattle.store_object.specs.declared.ending.Ending.TheVariants as ends
use Rattle.store_object.specs.declared.request.Request.{Request}
use Rattle.store_object.specs.declared.reply.Reply.{Reply}
use Rattle.store_object.specs.Replay.{store}
use Rattle.store_object.specs.Store.{Store}
use Rattle.thread_core.specs.Known.{IsKnown}
use Rattle.thread_core.specs.Reached.{AreMet}
use Rattle.thread_core.specs.Runs.{machine_of, ending_at}

-- ---- what the words name

-- the node spells the type
abbrev pub spells_type : TExpr → Option TExpr → Bool
spells_type t None = false
spells_type t (Some other) = is_same t other

-- the node that spells a type
abbrev pub node_of : List ℕ → TExpr → Option ℕ
node_of words t = position (λ i. spells_type t (naming_of (slice_index words) i)) (range_with_len 0 (length words))

-- The number of a mention, by the type whose number it has. What is not a type's has the number 0: no instruction looks at it.
abbrev pub value_under : List ℕ → Option TExpr → Option ℕ
value_under words None = Some 0
value_under words (Some t) = node_of words t

-- a type has its node as its number
abbrev pub words_naming : List ℕ → Naming Mention TExpr
words_naming words = record { value_of = λ m. value_under words (type_of_mention m); tree_at = naming_of (slice_index words) }

-- ---- loose runs

-- a loose run of the image, with these last words
abbrev pub IsLooseRun : ImageData → List ℕ → List (Event Request Reply) → (ℕ → List (Turn Request Reply)) → (ℕ → ThreadData) → Type 0
IsLooseRun im words h trail end = LooseRun store (machine_of im).want (machine_of im).begin (slice_index words) (IsKnown im.cat (slice_index words)) h trail end

abbrev pub IsSound : ImageData → Type 0
IsSound im = Sound (machine_of im) (AreMet im.cat) (λ words. IsKnown im.cat (slice_index words)) words_naming (meaning im.cat.program) (process.begin im.cat.program)

-- What a run has, of at most so many turns: it is a loose run with its last words, and has ended as a run ends. If the image is
-- sound, its history is legal under what its last words name, and it ends in no fault of the machine.
pub record IsFaithful (im : ImageData) (limit : ℕ) (r : Outcome Request Reply ThreadData Store) : Type 0 where
  pub end : ℕ → ThreadData
  pub loose : IsLooseRun im r.world.words r.world.history (λ u. turns_of u r.world.turns) end
  pub ended : EndsSo (machine_of im) limit r.world r.ending
  pub legal : IsSound im → Legal im.cat.program (words_naming r.world.words) r.world.history
  pub no_fault : IsSound im → (fault : MachineFault) → ending_at im r.world r.ending ≡ ends.Fault fault → ⊥
