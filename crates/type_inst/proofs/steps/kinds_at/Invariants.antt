use Rattle.std.proofs.Common.{◌≡◌, take}
use Rattle.il_model.specs.Layouts.{kinds_at}
use Rattle.type_inst.proofs.steps.kinds_at.Given as goal

abbrev pub invariant-loop-field : goal.invariant-loop-field
invariant-loop-field l = l.all ≡ kinds_at l.kind (take l.field-index l.fields)
