use Rattle.std.proofs.Common.{◌≡◌, true, take}
use Rattle.std.specs.List.{list_all}
use Rattle.rgctx_template.specs.BodyRows.{meets_judged}
use Rattle.aot_image.proofs.bounds.tree_meets.Given as goal

abbrev pub invariant-loop-bound : goal.invariant-loop-bound
invariant-loop-bound l =
    list_all (meets_judged l.program l.class_args l.method_args l.tree) (take l.bound-index l.bounds) ≡ true
