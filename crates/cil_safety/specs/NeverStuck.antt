-- A program that passed the verifier is never stuck. This project's own.
use Rattle.std.specs.Prelude.{◌≡◌, ◌≢◌, ℕ, List, Some, true}
use Rattle.type_tree.specs.declared.tree.TExpr.{TExpr}
use Rattle.il_model.specs.declared.program.Program.{Program}
use Rattle.interaction.specs.declared.history.Event.{Event}
use Rattle.interaction.specs.Process.{Naming, Larger, Over}
use Rattle.interaction.specs.Object.{replayed, is_active}
use Rattle.interaction.specs.History.{part}
use Rattle.interaction.specs.Safety.{NotStuck}
use Rattle.store_object.specs.declared.request.Request.{Request}
use Rattle.store_object.specs.declared.reply.Reply.{Reply}
use Rattle.store_object.specs.Replay.{store}
use Rattle.cil_meaning.specs.Naming.{Mention, IsNaming}
use Rattle.cil_meaning.specs.Replies.{Left}
use Rattle.cil_meaning.specs.Threads.{begin}
use Rattle.cil_meaning.specs.Language.{Talk, Legal}

-- Wherever a legal history has led the process of a thread that it has begun, the process has a rule and its next request, if it
-- makes one, is not improper: under the history's naming, and under every naming that extends it. While the thread lives in the
-- store, its process isn't over.
pub record NeverStuck (p : Program) : Type 0 where
  pub each : (n later : Naming Mention TExpr) → IsNaming n → IsNaming later → Larger n later →
      (h : List (Event Request Reply)) → Legal p n h →
      (u : ℕ) (from left : Left) → begin p h u ≡ Some from → Talk p n from (part u h) left →
      NotStuck store later (replayed store store.first h) u left
  pub lives_on : (n : Naming Mention TExpr) (h : List (Event Request Reply)) → Legal p n h →
      (u : ℕ) (from left : Left) → begin p h u ≡ Some from → Talk p n from (part u h) left →
      is_active store (replayed store store.first h) u ≡ true → left ≢ Over
