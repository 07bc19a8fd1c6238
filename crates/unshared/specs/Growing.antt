-- Types get numbers while a program runs, and keep them. This project's own.
use Rattle.std.specs.Prelude.{List, Result, Ok, Err, ⊤}
use Rattle.type_tree.specs.declared.tree.TExpr.{TExpr}
use Rattle.type_inst.specs.Opening.{Extends}
use Rattle.unshared.specs.declared.pause.Pause.{Pause}
use Rattle.unshared.specs.declared.pause.Pause.TheVariants as pause
use Rattle.unshared.specs.Listed.{IsOnce}

-- the list has all that it had, at the same places, and each type once
pub record Grown (before after : List TExpr) : Type 0 where
  pub extends : Extends before after
  pub once : IsOnce after

-- so it is but where memory is wanted
abbrev pub Grows : {A : Type 0} → List TExpr → List TExpr → Result A Pause → Type 0
Grows before after (Ok a) = Grown before after
Grows before after (Err (pause.Halts h)) = Grown before after
Grows before after (Err pause.NoMemory) = ⊤
