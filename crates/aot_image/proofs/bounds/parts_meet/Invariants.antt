use Rattle.std.proofs.Common.{◌≡◌, zip, drop}
use Rattle.std.specs.List.{list_all}
use Rattle.rgctx_template.specs.BodyRows.{part_meets}
use Rattle.aot_image.proofs.bounds.parts_meet.Given as goal

abbrev pub invariant-loop-i : goal.invariant-loop-i
invariant-loop-i l =
    list_all (part_meets l.program l.class_args l.method_args) (zip l.vars l.parts)
    ≡ list_all (part_meets l.program l.class_args l.method_args) (zip (drop l.i l.vars) (drop l.i l.parts))
