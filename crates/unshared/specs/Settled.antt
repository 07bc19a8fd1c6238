-- Entries that are settled in order, where types have these numbers at last. Only private contracts cite it.
use Rattle.std.specs.Prelude.{ℕ, List, [], ◌∷◌, ◌++◌, Option, Some, None}
use Rattle.type_tree.specs.declared.tree.TExpr.{TExpr}
use Rattle.il_model.specs.declared.program.Program.{Program}
use Rattle.il_model.specs.declared.entry.Entry.{Entry}
use Rattle.il_model.specs.declared.layout.Limit.{Limit}
use Rattle.il_model.specs.declared.layout.MethodTree.{MethodTree}
use Rattle.il_model.specs.Methods.{limit_of_entry, limit_of_method}
use Rattle.cil_meaning.specs.Naming.{put_entry, type_of_entry}
use Rattle.cil_meaning.specs.Mentions.{cause_of}
use Rattle.unshared.specs.Listed.{value_in}
use Rattle.unshared.specs.Silent.{Silent, named}
use Rattle.unshared.specs.Talk.{Talk, ◌>>=◌, ◌>>◌, pure, say, stops}

-- goes on where nothing passes a limit, and else stops the run
abbrev pub stays_within : Option Limit → Talk (Unit {0})
stays_within None = pure tt
stays_within (Some l) = stops (cause_of l)

-- the number of an entry without variables
abbrev pub entry_number : List TExpr → Entry → Silent ℕ
entry_number later e = named (value_in later (type_of_entry e))

unfoldable pub settles_entry : Program → List TExpr → MethodTree → Entry → Talk ℕ
settles_entry p later m e = do
  stays_within (limit_of_entry p (put_entry m e))
  say (entry_number later (put_entry m e))

-- all entries in order, behind the numbers that are found
unfoldable pub settles_from : Program → List TExpr → MethodTree → List Entry → List ℕ → Talk (List ℕ)
settles_from p later m [] found = pure found
settles_from p later m (e ∷ es) found = settles_entry p later m e >>= (λ v. settles_from p later m es (found ++ v ∷ []))

-- the method in a slot of an exact class
unfoldable pub settles_method : Program → MethodTree → Talk (Unit {0})
settles_method p m = stays_within (limit_of_method p m)
