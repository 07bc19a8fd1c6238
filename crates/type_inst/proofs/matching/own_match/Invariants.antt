use Rattle.std.proofs.Common.{◌≡◌, find, take, None}
use Rattle.il_model.specs.Found.{method_at}
use Rattle.il_model.specs.Signatures.{signature_at}
use Rattle.il_model.specs.Slots.{is_match, own_methods_of}
use Rattle.type_inst.proofs.matching.own_match.Given as goal

abbrev pub invariant-loop-number : goal.invariant-loop-number
invariant-loop-number l =
    find (λ number. is_match (signature_at l.kind l.method) l.each (method_at l.program number)) (take l.number-index (own_methods_of l.program l.each)) ≡ None
