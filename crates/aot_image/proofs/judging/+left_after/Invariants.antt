use Rattle.std.proofs.Common.{◌≡◌, ◌-◌, take, sum_by}
use Rattle.type_tree.specs.Positions.{positions_of}
use Rattle.aot_image.proofs.judging.+left_after.Given as goal

abbrev pub invariant-left_after_all-loop-tree : goal.invariant-left_after_all-loop-tree
invariant-left_after_all-loop-tree l = l.left ≡ l.most - sum_by positions_of (take l.tree-index l.trees)
