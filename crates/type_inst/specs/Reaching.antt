-- The walk over what is reached from a type, each tree once.
use Rattle.std.specs.Prelude.{◌≡◌, ℕ, Bool, true, false, List, fold, Option, Some, None}
use Rattle.std.specs.List.{list_any}
use Rattle.type_tree.specs.declared.tree.TExpr.{TExpr}
use Rattle.il_model.specs.declared.program.Program.{Program}
use Rattle.il_model.specs.Trees.{with_new}
use Rattle.il_model.specs.Admission.{steps_of, closure_within, closure_of, limited_trees_of, is_large}

-- the list with the steps from a type at its end, those listed passed over
abbrev pub spread_one : Program → List TExpr → TExpr → List TExpr
spread_one program all t = fold with_new all (steps_of program t)

-- tests of some member answer alike on both lists
abbrev pub TestAlike : List TExpr → List TExpr → Type 0
TestAlike xs ys = (test : TExpr → Bool) → list_any test xs ≡ list_any test ys

-- a list with the members of another one, none too large; none where one is
abbrev pub SmallOf : List TExpr → Option (List TExpr) → Type 0
SmallOf whole None = list_any is_large whole ≡ true
SmallOf whole (Some all) = (list_any is_large all ≡ false) × TestAlike all whole

-- what a walk of so many steps answers
abbrev pub Reached : Program → ℕ → TExpr → Option (List TExpr) → Type 0
Reached program levels root = SmallOf (closure_within program levels root)

-- what is answered of a closure
abbrev pub InClosure : Program → TExpr → Option (List TExpr) → Type 0
InClosure program root = SmallOf (closure_of program root)

-- what is answered of all trees that the limits are asked of
abbrev pub Limited : Program → TExpr → Option (List TExpr) → Type 0
Limited program tree = SmallOf (limited_trees_of program tree)
