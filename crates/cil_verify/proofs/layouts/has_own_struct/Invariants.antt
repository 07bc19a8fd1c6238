use Rattle.std.proofs.Common.{◌≡◌, false, map, take}
use Rattle.std.specs.List.{list_any}
use Rattle.il_model.specs.ClassRules.{is_in_own_closure}
use Rattle.cil_verify.proofs.layouts.has_own_struct.Given as goal

abbrev pub invariant-loop-field : goal.invariant-loop-field
invariant-loop-field l = list_any (is_in_own_closure l.program) (map (λ f. f.kind) (take l.field-index l.fields)) ≡ false
