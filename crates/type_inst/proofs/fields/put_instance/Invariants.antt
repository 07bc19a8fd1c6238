use Rattle.std.proofs.Common.{◌≡◌, ◌++◌, not, filter, take}
use Rattle.il_model.specs.Layouts.{kinds_at}
use Rattle.type_inst.proofs.fields.put_instance.Given as goal

abbrev pub invariant-loop-field : goal.invariant-loop-field
invariant-loop-field l = l.all ≡ l.initial.all ++ kinds_at l.kind (filter (λ f. not f.fixed) (take l.field-index l.fields))
