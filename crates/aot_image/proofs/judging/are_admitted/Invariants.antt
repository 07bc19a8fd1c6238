use Rattle.std.proofs.Common.{◌≡◌, true, take}
use Rattle.std.specs.List.{list_all}
use Rattle.rgctx_template.specs.Admitted.{is_admitted}
use Rattle.aot_image.proofs.judging.are_admitted.Given as goal

abbrev pub invariant-loop-tree : goal.invariant-loop-tree
invariant-loop-tree l = list_all (is_admitted l.program) (take l.tree-index l.trees) ≡ true
