use Rattle.std.proofs.Common.{◌≡◌, true, take}
use Rattle.std.specs.List.{list_all}
use Rattle.rgctx_template.specs.Admitted.{is_bounded_throughout}
use Rattle.aot_image.proofs.judging.+bounded.Given as goal

abbrev pub invariant-are_bounded_throughout-loop-tree : goal.invariant-are_bounded_throughout-loop-tree
invariant-are_bounded_throughout-loop-tree l = list_all (is_bounded_throughout l.program) (take l.tree-index l.trees) ≡ true
