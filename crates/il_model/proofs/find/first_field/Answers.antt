use Rattle.std.proofs.Common.{refl}
use Rattle.il_model.specs.Find.{IsFieldNamed}
use Rattle.il_model.proofs.FindLemmas.{first_at_here, none_before-next}
use Rattle.il_model.proofs.find.first_field.Goals as goal

pub returns-then-is_field_named-clause-found : goal.returns-then-is_field_named-clause-found
returns-then-is_field_named-clause-found c =
    first_at_here (IsFieldNamed c.args.named.now) c.args.fields.now c.loop-i.i c.index-fields-i.result c.loop-i-test.true c.index-fields-i.is
    ((c.if-is_field_named.ensures {u = tt}).0 refl) c.loop-i.invariant

pub loop-i-preserved : goal.loop-i-preserved
loop-i-preserved c =
    none_before-next (IsFieldNamed c.args.named.now) c.args.fields.now c.loop-i.i c.index-fields-i.result c.loop-i-test.true c.index-fields-i.is
    (λ named. let no = (c.if-is_field_named.ensures {u = tt}).1 named in cc) c.loop-i.invariant
