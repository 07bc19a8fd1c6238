use Rattle.std.proofs.Common.{◌≡◌, ◌++◌, take, flat_map}
use Rattle.aot_image.specs.ImageSpelling.{tree_bytes}
use Rattle.aot_image.proofs.encoding.+trees.Given as goal

abbrev pub invariant-put_trees-loop-tree : goal.invariant-put_trees-loop-tree
invariant-put_trees-loop-tree l = l.out.items ≡ l.initial.out.items ++ flat_map tree_bytes (take l.tree-index l.trees)
