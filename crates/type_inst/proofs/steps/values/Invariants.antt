use Rattle.std.proofs.Common.{◌≡◌, filter, take}
use Rattle.il_model.specs.Kinds.{is_value}
use Rattle.type_inst.proofs.steps.values.Given as goal

abbrev pub invariant-loop-each : goal.invariant-loop-each
invariant-loop-each l = l.all ≡ filter (is_value l.program) (take l.each-index l.kinds)
