use Rattle.std.proofs.Common.{◌≡◌, true, take}
use Rattle.std.specs.List.{list_all}
use Rattle.type_tree.specs.Tree.{has_variables_below}
use Rattle.type_tree.proofs.closing.+closed.Given as goal

abbrev pub invariant-are_closed-loop-kind : goal.invariant-are_closed-loop-kind
invariant-are_closed-loop-kind l = list_all (has_variables_below 0 0) (take l.kind-index l.kinds) ≡ true
