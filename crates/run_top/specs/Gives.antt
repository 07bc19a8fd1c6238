-- What the code's turn gave, against the definition's.
use Rattle.std.specs.Prelude.{◌≡◌, List, ℕ}
use Rattle.interaction.specs.Thread.{Go, Read, Load, Claim, Ask, Full, Fault, Over}
use Rattle.store_object.specs.declared.reply.Reply.{Reply}
use Rattle.run_top.specs.declared.machine.Core.{Core}
use Rattle.run_top.specs.declared.machine.Gave.{Gave}
use Rattle.run_top.specs.declared.machine.Gave.TheVariants.{Did, Asked, Nothing}
use Rattle.run_top.specs.Machine.{Thread, Wish}

-- a core and its frame as a thread
abbrev pub thread_of : Core → List ℕ → Thread
thread_of core frame = record { pc = core.pc; x = core.x; frame = frame; mode = core.mode }

-- there is no turn
abbrev pub HasNone : Wish → Type 0
HasNone (Go what t) = ⊥
HasNone (Read i next) = ⊥
HasNone (Load what i next) = ⊥
HasNone (Claim i put next) = ⊥
HasNone (Ask request next) = ⊥
HasNone Full = Unit {0}
HasNone Fault = Unit {0}
HasNone Over = Unit {0}

-- the turn is what was given, and the thread stands after it, whatever a request is replied
abbrev pub Gives : Wish → Gave → Thread → Type 0
Gives wish (Did what) now = wish ≡ Go what now
Gives wish (Asked request) now = (next : Reply → Thread) × (wish ≡ Ask request next) × ((reply : Reply) → now ≡ next reply)
Gives wish Nothing now = HasNone wish
