use Rattle.std.proofs.Common.{◌≡◌, map, take}
use Rattle.il_model.specs.Admission.{limit_of}
use Rattle.il_model.specs.Methods.{worst}
use Rattle.unshared.proofs.mentions.worst.Given as goal

abbrev pub invariant-loop-kind : goal.invariant-loop-kind
invariant-loop-kind l = l.found ≡ worst (map (limit_of l.program) (take l.kind-index l.kinds))
