-- Settling what an instruction mentions, and the limit at which a mention stops the run. This project's own.
use Rattle.std.specs.Prelude.{ℕ, List, [], ◌∷◌, Option, Some, None}
use Rattle.type_tree.specs.declared.tree.TExpr.{TExpr}
use Rattle.il_model.specs.declared.program.Program.{Program}
use Rattle.il_model.specs.declared.entry.Entry.{Entry}
use Rattle.il_model.specs.declared.entry.Entry.TheVariants as entry
use Rattle.il_model.specs.declared.layout.Limit.{Limit}
use Rattle.il_model.specs.declared.layout.Limit.TheVariants as limit
use Rattle.il_model.specs.declared.layout.MethodTree.{MethodTree}
use Rattle.il_model.specs.Methods.{limit_of_method, limit_of_entry}
use Rattle.interaction.specs.Process.{Settle, Ask}
use Rattle.store_object.specs.declared.request.Cause.{Cause}
use Rattle.store_object.specs.declared.request.Cause.TheVariants as cause
use Rattle.store_object.specs.declared.request.Request.TheVariants as ask
use Rattle.cil_meaning.specs.Naming.{OfEntry, OfClause, OfSlot, put_type, put_entry}
use Rattle.cil_meaning.specs.Replies.{Left, on_stopped}

abbrev pub cause_of : Limit → Cause
cause_of limit.Positions = cause.Positions
cause_of limit.ValueWords = cause.ValueWords

-- goes on where nothing passes a limit, and else stops the run
abbrev pub within : Option Limit → Left → Left
within None left = left
within (Some l) left = Ask (ask.Stop (cause_of l)) on_stopped

module _ (p : Program) where
  -- an entry that an instruction names
  abbrev pub settles : MethodTree → Entry → (ℕ → Left) → Left
  settles m e k = within (limit_of_entry p (put_entry m e)) (Settle (OfEntry m e) k)

  -- all entries that an instruction names, in order
  abbrev pub settles_all : MethodTree → List Entry → (List ℕ → Left) → Left
  settles_all m [] k = k []
  settles_all m (e ∷ es) k = settles m e (λ v. settles_all m es (λ vs. k (v ∷ vs)))

  -- the type that a clause names
  abbrev pub settles_clause : MethodTree → TExpr → Left → Left
  settles_clause m t left = within (limit_of_entry p (put_entry m (entry.Kind t))) (Settle (OfClause m (entry.Kind t)) (λ v. left))

  -- the method in a slot of an exact class
  abbrev pub settles_slot : TExpr → ℕ → MethodTree → Left → Left
  settles_slot exact number m left = within (limit_of_method p m) (Settle (OfSlot exact number) (λ v. left))
