-- A thread of the plain run: its state is what is left of its process, and a turn is one request, or an instruction that makes none. This project's own.
use Rattle.std.specs.Prelude.{ℕ, List, [], ◌∷◌, Option, Some, None}
use Rattle.type_tree.specs.declared.tree.TExpr.{TExpr}
use Rattle.il_model.specs.declared.program.Program.{Program}
use Rattle.interaction.specs.declared.turn.What.TheVariants as noted
use Rattle.interaction.specs.Process.{Next, Settle, Spell, Ask, Over, Stuck, Naming}
use Rattle.interaction.specs.Thread.{Want}
use Rattle.interaction.specs.Thread as thread
use Rattle.interaction.specs.Run.{Machine}
use Rattle.store_object.specs.declared.request.Request.{Request}
use Rattle.store_object.specs.declared.reply.Reply.{Reply}
use Rattle.store_object.specs.Store.{Store}
use Rattle.store_object.specs.Replay.{store}
use Rattle.cil_meaning.specs.Naming.{Mention}
use Rattle.cil_meaning.specs.Replies.{Left}
use Rattle.cil_meaning.specs.Meaning.{meaning}
use Rattle.cil_meaning.specs.Threads.{begin}

-- a mention without a number waits for it
abbrev pub settled_by : Option ℕ → Left → (ℕ → Left) → Left
settled_by None waits go = waits
settled_by (Some v) waits go = go v

-- a number that names nothing has no rule
abbrev pub spelled_by : Option TExpr → Left → (TExpr → Left) → Left
spelled_by None halts go = halts
spelled_by (Some t) halts go = go t

module _ (n : Naming Mention TExpr) where
  -- what is left when all has been settled and spelled up to the next request, the next instruction or the end
  abbrev pub silent : Left → Left
  silent (Next f) = Next f
  silent (Settle m k) = settled_by (n.value_of m) (Settle m k) (λ v. silent (k v))
  silent (Spell i k) = spelled_by (n.tree_at i) (Spell i k) (λ t. silent (k t))
  silent (Ask r k) = Ask r k
  silent Over = Over
  silent Stuck = Stuck

  -- what one reply leaves
  abbrev pub replied : Left → Reply → (Left → Left) → Left
  replied (Next f) y go = Stuck
  replied (Settle m k) y go = Stuck
  replied (Spell i k) y go = Stuck
  replied (Ask r k) y go = go (k y)
  replied Over y go = Stuck
  replied Stuck y go = Stuck

  -- what is left after these replies, when all that makes no request is done
  abbrev pub answered : List Reply → Left → Left
  answered [] q = silent q
  answered (y ∷ ys) q = replied (silent q) y (λ left. answered ys left)

  -- what a thread wants that has nothing left to do but this
  abbrev pub wants : Left → Want Request Reply Left
  wants (Next f) = thread.Go noted.Action (Next f)
  wants (Settle m k) = thread.Fault
  wants (Spell i k) = thread.Fault
  wants (Ask r k) = thread.Ask r (λ y. silent (k y))
  wants Over = thread.Over
  wants Stuck = thread.Fault

  -- Between two turns a thread stands before an instruction, or before a request. What follows a request without another
  -- one, up to the next instruction, belongs to the turn of that request.
  abbrev pub begun : Program → Left → Left
  begun p (Next f) = meaning p f
  begun p (Settle m k) = Settle m k
  begun p (Spell i k) = Spell i k
  begun p (Ask r k) = Ask r k
  begun p Over = Over
  begun p Stuck = Stuck

  abbrev pub want : Program → Left → Want Request Reply Left
  want p q = wants (silent (begun p q))

-- the program's processes as threads over the store
abbrev pub machine : Program → Naming Mention TExpr → Machine Request Reply Left Store
machine p n = record { object = store; want = want n p; begin = begin p }
