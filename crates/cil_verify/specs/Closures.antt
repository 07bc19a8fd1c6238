-- What is reached from several types, as a list with each tree once. This project's own.
use Rattle.std.specs.Prelude.{◌≡◌, ℕ, ◌≤◌, ◌<◌, ◌⊎◌, true, false, List, [], length, flat_map, slice_get, Option, Some, None}
use Rattle.std.specs.List.{list_any, list_all}
use Rattle.type_tree.specs.declared.tree.TExpr.{TExpr}
use Rattle.il_model.specs.declared.program.Program.{Program}
use Rattle.il_model.specs.Trees.{is_among, without_repeats}
use Rattle.il_model.specs.Layouts.{most_trees}
use Rattle.il_model.specs.Admission.{steps_of, closure_of, is_large}
use Rattle.type_inst.specs.Reaching.{TestAlike}
use Rattle.cil_verify.specs.declared.type_set.TypeSet.{TypeSet}
use Rattle.cil_verify.specs.TypeSets.{listed_in}

-- the closures of several types, one behind the other
abbrev pub closures_of : Program → List TExpr → List TExpr
closures_of program roots = flat_map (closure_of program) roots

-- the steps from the type at this place
abbrev pub steps_from : Program → Option TExpr → List TExpr
steps_from program None = []
steps_from program (Some t) = steps_of program t

-- a list with the members of the closures, from which no step leads out; none is too large, and there are not too many different ones
pub record HasClosures (program : Program) (roots : List TExpr) (all : List TExpr) : Type 0 where
  pub small : list_any is_large (closures_of program roots) ≡ false
  pub few : length (without_repeats (closures_of program roots)) ≤ most_trees
  pub alike : TestAlike all (closures_of program roots)
  pub whole : list_all (λ y. list_all (is_among all) (steps_of program y)) all ≡ true

-- the closures have a tree that is too large, or too many different ones
abbrev pub AreTooMuch : Program → List TExpr → Type 0
AreTooMuch program roots =
    (list_any is_large (closures_of program roots) ≡ true) ⊎ (most_trees < length (without_repeats (closures_of program roots)))

-- what is answered of the closures of several types
abbrev pub Closed : Program → List TExpr → Option TypeSet → Type 0
Closed program roots None = AreTooMuch program roots
Closed program roots (Some set) = HasClosures program roots (listed_in set)
