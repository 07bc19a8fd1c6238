-- What a set of types holds.
use Rattle.std.specs.Prelude.{List, map}
use Rattle.type_tree.specs.declared.tree.TExpr.{TExpr}
use Rattle.cil_verify.specs.declared.type_set.TypeSet.{TypeSet}

-- the types of a set, in the order in which they were added
abbrev pub listed_in : TypeSet → List TExpr
listed_in set = map (λ k. k.kind) set.known.keys
