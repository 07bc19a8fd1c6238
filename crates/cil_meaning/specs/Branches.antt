-- Branches. ECMA-335, Partition III.
use Rattle.std.specs.Prelude.{ℕ, ◌==◌, Bool, true, false, not, if◌then◌else◌, List, [], Option, Some, None, slice_get}
use Rattle.interaction.specs.Process.{Stuck}
use Rattle.cil_meaning.specs.Values.{Value, is_int32, is_struct}
use Rattle.cil_meaning.specs.Replies.{Left}
use Rattle.cil_meaning.specs.Site.{Site, goes, goes_to}
use Rattle.cil_meaning.specs.Pieces.{pops, as_word}
use Rattle.cil_meaning.specs.Groups.{BranchForm, Jumps, JumpsWhere, JumpsBy, Chooses, Leaves}
use Rattle.cil_meaning.specs.Arithmetic.{compares}

-- whether a word is true, and false: false is zero and null
abbrev pub is_taken : (is_true : Bool) → ℕ → Bool
is_taken true w = not (w == 0)
is_taken false w = w == 0

module _ (s : Site) where
  abbrev pub jumps_if : Bool → ℕ → List Value → Left
  jumps_if true to stack = goes_to s to stack
  jumps_if false to stack = goes s stack

  -- to a target of a table, or past it
  abbrev pub chooses : Option ℕ → List Value → Left
  chooses (Some to) stack = goes_to s to stack
  chooses None stack = goes s stack

  -- each form of branches, from the stack
  abbrev pub branches : BranchForm → List Value → Left
  branches (Jumps to) stack = goes_to s to stack
  branches (JumpsWhere is_true to) stack = pops stack (λ v vs. as_word v (λ kind w. if is_struct kind then Stuck else jumps_if (is_taken is_true w) to vs))
  branches (JumpsBy c to) stack = compares c stack (λ is_so vs. jumps_if is_so to vs)
  branches (Chooses targets) stack = pops stack (λ v vs. as_word v (λ kind w. if is_int32 kind then chooses (slice_get targets w) vs else Stuck))
  branches (Leaves to) stack = goes_to s to []
