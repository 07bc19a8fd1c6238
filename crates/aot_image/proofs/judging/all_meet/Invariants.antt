use Rattle.std.proofs.Common.{◌≡◌, zip, drop}
use Rattle.std.specs.List.{list_all}
use Rattle.rgctx_template.specs.Admitted.{meets_all}
use Rattle.aot_image.proofs.judging.all_meet.Given as goal

abbrev pub invariant-loop-i : goal.invariant-loop-i
invariant-loop-i l =
    list_all (meets_all l.program l.class_args l.args) (zip l.vars l.args)
    ≡ list_all (meets_all l.program l.class_args l.args) (zip (drop l.i l.vars) (drop l.i l.args))
