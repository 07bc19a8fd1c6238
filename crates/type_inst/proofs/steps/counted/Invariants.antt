use Rattle.std.proofs.Common.{◌≡◌, filter, take}
use Rattle.il_model.specs.Admission.{has_count}
use Rattle.type_inst.proofs.steps.counted.Given as goal

abbrev pub invariant-loop-each : goal.invariant-loop-each
invariant-loop-each l = l.all ≡ filter (has_count l.program) (take l.each-index l.kinds)
