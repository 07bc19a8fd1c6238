-- CIL as a language of processes: its talk, its legal histories, and what it gives the law that no process is stuck. This project's own.
use Rattle.std.specs.Prelude.{List}
use Rattle.type_tree.specs.declared.tree.TExpr.{TExpr}
use Rattle.il_model.specs.declared.program.Program.{Program}
use Rattle.interaction.specs.declared.history.Event.{Event}
use Rattle.interaction.specs.Process.{Naming, Exchange}
use Rattle.interaction.specs.Process as process
use Rattle.interaction.specs.History as history
use Rattle.interaction.specs.Safety.{Language}
use Rattle.store_object.specs.declared.request.Request.{Request}
use Rattle.store_object.specs.declared.reply.Reply.{Reply}
use Rattle.store_object.specs.Store.{Store}
use Rattle.store_object.specs.Replay.{store}
use Rattle.store_object.specs.Growth.{Grows}
use Rattle.cil_meaning.specs.Naming.{Mention}
use Rattle.cil_meaning.specs.Frames.{Frames}
use Rattle.cil_meaning.specs.Replies.{Left}
use Rattle.cil_meaning.specs.Meaning.{meaning}
use Rattle.cil_meaning.specs.Threads.{starts, begin}

-- from the first process to the second, a thread of the program makes just these requests when it gets these replies
abbrev pub Talk : Program → Naming Mention TExpr → Left → List (Exchange Request Reply) → Left → Type 0
Talk p n from exchanges to = process.Talk n (meaning p) from exchanges to

-- the history is one that the threads of the program make over the store
abbrev pub Legal : Program → Naming Mention TExpr → List (Event Request Reply) → Type 0
Legal p n h = history.Legal store n (meaning p) (begin p) h

-- the language under a naming; `Typed` and `Fits` say what stands in the store and in frames
abbrev pub language : Program → Naming Mention TExpr → (Store → Type 0) → (Store → Frames → Type 0) → Language Mention TExpr Request Reply Frames Store
language p n Typed Fits = record {
  object = store;
  naming = n;
  meaning = meaning p;
  starts = starts p;
  Typed = Typed;
  Grows = Grows;
  Fits = Fits;
}
