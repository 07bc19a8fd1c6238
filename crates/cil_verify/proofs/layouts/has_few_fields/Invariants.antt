use Rattle.std.proofs.Common.{◌≡◌, ◌+◌, length, sum_by, take}
use Rattle.il_model.specs.Find.{class_of}
use Rattle.il_model.specs.Layouts.{fields_in}
use Rattle.cil_verify.proofs.layouts.has_few_fields.Given as goal

abbrev pub invariant-loop-each : goal.invariant-loop-each
invariant-loop-each l = sum_by (λ base. length (fields_in (class_of l.program base))) (take l.each-index l.each-items) + l.left ≡ 4096
