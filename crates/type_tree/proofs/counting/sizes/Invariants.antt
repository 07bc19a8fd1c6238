use Rattle.std.proofs.Common.{◌≡◌, ◌-◌, ◌^◌, min, map, take}
use Rattle.type_tree.specs.Positions.{positions_of}
use Rattle.type_tree.proofs.counting.sizes.Given as goal

abbrev pub invariant-loop-tree : goal.invariant-loop-tree
invariant-loop-tree l = l.all.items ≡ map (λ tree. min (positions_of tree) (2 ^ 128 - 1)) (take l.tree-index l.trees)
