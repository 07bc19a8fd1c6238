use Rattle.std.proofs.Common.{◌≡◌, true, sym, ◌∙◌}
use Rattle.il_model.specs.declared.class.FieldDef.{FieldDef}
use Rattle.cil_verify.specs.Forms.{is_generic}
use Rattle.cil_verify.proofs.ItemsLemmas.{mapped_here}
use Rattle.cil_verify.proofs.forms.is_any_field_generic.Goals as goal

pub returns-then-is_generic : goal.returns-then-is_generic
returns-then-is_generic c =
    let item = c.field-item.result in
    let passes : is_generic item.kind ≡ true = sym c.is_generic.ensures ∙ c.if-is_generic.true in
    sym (mapped_here is_generic (λ (f : FieldDef). f.kind) c.args.fields.now c.loop-field.field-index item c.loop-field-test.true c.field-item.is passes)
