use Rattle.std.proofs.Common.{◌≡◌, false, map, take}
use Rattle.std.specs.List.{list_any}
use Rattle.cil_verify.specs.Forms.{is_generic}
use Rattle.cil_verify.proofs.forms.is_any_field_generic.Given as goal

abbrev pub invariant-loop-field : goal.invariant-loop-field
invariant-loop-field l = list_any is_generic (map (λ f. f.kind) (take l.field-index l.fields)) ≡ false
