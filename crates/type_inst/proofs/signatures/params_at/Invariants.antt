use Rattle.std.proofs.Common.{◌≡◌, map, take}
use Rattle.il_model.specs.Signatures.{param_at}
use Rattle.type_inst.proofs.signatures.params_at.Given as goal

abbrev pub invariant-loop-param : goal.invariant-loop-param
invariant-loop-param l = l.all ≡ map (param_at l.kind) (take l.param-index l.params)
