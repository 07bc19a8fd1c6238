use Rattle.std.proofs.Common.{◌≡◌, true, take}
use Rattle.std.specs.List.{list_all}
use Rattle.type_tree.specs.Substitution.{substituted}
use Rattle.il_model.specs.Assignable.{meets_bound}
use Rattle.rgctx_template.specs.Admitted.{no_variables}
use Rattle.aot_image.proofs.judging.meets_all.Given as goal

abbrev pub invariant-loop-bound : goal.invariant-loop-bound
invariant-loop-bound l =
    list_all (λ bound. meets_bound l.program no_variables l.arg (substituted l.class_args l.args bound)) (take l.bound-index l.var.bounds) ≡ true
