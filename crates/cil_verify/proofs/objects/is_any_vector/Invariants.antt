use Rattle.std.proofs.Common.{◌≡◌, false, take}
use Rattle.std.specs.List.{list_any}
use Rattle.cil_verify.specs.Fits.{is_vector_type}
use Rattle.cil_verify.proofs.objects.is_any_vector.Given as goal

abbrev pub invariant-loop-kind : goal.invariant-loop-kind
invariant-loop-kind l = list_any is_vector_type (take l.kind-index l.kinds) ≡ false
