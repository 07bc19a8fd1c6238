use Rattle.il_model.specs.Find.{IsFieldNamed, NoneBefore}
use Rattle.il_model.proofs.find.first_field.Given as goal

abbrev pub invariant-loop-i : goal.invariant-loop-i
invariant-loop-i l = NoneBefore (IsFieldNamed l.named) l.fields l.i
