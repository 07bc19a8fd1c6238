use Rattle.std.proofs.Common.{◌≡◌, true, map, take}
use Rattle.std.specs.List.{list_all}
use Rattle.il_model.specs.ClassRules.{has_counts}
use Rattle.cil_verify.proofs.hierarchy.have_field_counts.Given as goal

abbrev pub invariant-loop-field : goal.invariant-loop-field
invariant-loop-field l = list_all (has_counts l.program) (map (λ f. f.kind) (take l.field-index l.fields)) ≡ true
