use Rattle.std.proofs.Common.{◌≡◌, filter, take}
use Rattle.il_model.specs.Layouts.{kinds_at}
use Rattle.type_inst.proofs.fields.static_of.Given as goal

abbrev pub invariant-loop-field : goal.invariant-loop-field
invariant-loop-field l = l.all ≡ kinds_at l.kind (filter (λ f. f.fixed) (take l.field-index l.fields))
