use Rattle.std.proofs.Common.{◌≡◌, false, map, take}
use Rattle.std.specs.List.{list_any}
use Rattle.il_model.specs.Find.{class_number_of}
use Rattle.il_model.specs.ClassRules.{is_number}
use Rattle.cil_verify.proofs.layouts.has_number.Given as goal

abbrev pub invariant-loop-key : goal.invariant-loop-key
invariant-loop-key l = list_any (λ t. is_number l.number (class_number_of t)) (map (λ k. k.kind) (take l.key-index l.key-items)) ≡ false
