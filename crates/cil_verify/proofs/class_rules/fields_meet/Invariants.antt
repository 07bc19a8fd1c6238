use Rattle.std.proofs.Common.{◌≡◌, true, [], map, take}
use Rattle.std.specs.List.{list_all}
use Rattle.il_model.specs.ClassRules.{meets_bounds}
use Rattle.cil_verify.proofs.class_rules.fields_meet.Given as goal

abbrev pub invariant-loop-field : goal.invariant-loop-field
invariant-loop-field l = list_all (meets_bounds l.program (record { of_class = l.vars; of_method = [] })) (map (λ f. f.kind) (take l.field-index l.fields)) ≡ true
