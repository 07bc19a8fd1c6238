use Rattle.std.proofs.Common.{◌≡◌, take}
use Rattle.type_tree.proofs.copying.+copied.Given as goal

abbrev pub invariant-copied_all-loop-tree : goal.invariant-copied_all-loop-tree
invariant-copied_all-loop-tree l = l.copies ≡ take l.tree-index l.trees
