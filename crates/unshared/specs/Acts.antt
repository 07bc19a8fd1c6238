-- What the code of an instruction says of what the meaning has left of it. Only private contracts cite it.
use Rattle.std.specs.Prelude.{◌≡◌, List, Result, Ok, Err, ⊤}
use Rattle.type_tree.specs.declared.tree.TExpr.{TExpr}
use Rattle.interaction.specs.Process.{Naming, Next, Ask, Over, Stuck}
use Rattle.store_object.specs.declared.reply.Reply.{Reply}
use Rattle.cil_meaning.specs.Naming.{Mention}
use Rattle.cil_meaning.specs.Replies.{Left}
use Rattle.cil_meaning.specs.Frames.{Frames}
use Rattle.unshared.specs.declared.pause.Halt.{Halt}
use Rattle.unshared.specs.declared.pause.Halt.TheVariants as halt
use Rattle.unshared.specs.declared.pause.Pause.{Pause}
use Rattle.unshared.specs.declared.pause.Pause.TheVariants as pause
use Rattle.unshared.specs.Turns.{answered}

-- why what is left doesn't go on: it makes this request, is over, or has no rule; of a number that names no type yet nothing is said
abbrev pub Halts : Left → Halt → Type 0
Halts q (halt.Asks r) = (k : Reply → Left) × (q ≡ Ask r k)
Halts q halt.Over = q ≡ Over
Halts q halt.Stuck = q ≡ Stuck
Halts q halt.Unnamed = ⊤

-- The whole instruction: what is left with these replies is what these frames have left with the replies that were not used, or
-- it halts as the code does. Want of memory says nothing.
abbrev pub Ends : Naming Mention TExpr → (before after : List Reply) → Left → Frames → Result (Unit {0}) Pause → Type 0
Ends n before after q frames (Ok u) = answered n before q ≡ answered n after (Next frames)
Ends n before after q frames (Err (pause.Halts h)) = Halts (answered n before q) h
Ends n before after q frames (Err pause.NoMemory) = ⊤
