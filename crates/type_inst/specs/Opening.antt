-- A list of types that grows at its end.
use Rattle.std.specs.Prelude.{◌≡◌, List, ◌++◌}
use Rattle.type_tree.specs.declared.tree.TExpr.{TExpr}

-- the second list is the first one with more behind it
pub record Extends (before : List TExpr) (after : List TExpr) : Type 0 where
  pub more : List TExpr
  pub is : after ≡ before ++ more
