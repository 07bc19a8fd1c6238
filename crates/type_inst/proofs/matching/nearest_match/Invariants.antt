use Rattle.std.proofs.Common.{◌≡◌, take, None}
use Rattle.il_model.specs.Signatures.{signature_at}
use Rattle.type_inst.specs.Matching.{number_matched}
use Rattle.type_inst.proofs.matching.nearest_match.Given as goal

abbrev pub invariant-loop-each : goal.invariant-loop-each
invariant-loop-each l = number_matched l.program (signature_at l.kind l.method) (take l.each-index l.kinds) ≡ None
