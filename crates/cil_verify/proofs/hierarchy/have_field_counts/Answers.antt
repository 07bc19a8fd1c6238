use Rattle.std.proofs.Common.{◌≡◌, false, sym, ap, ◌∙◌}
use Rattle.std.proofs.lemmas.List.Folds.{list_all-map, list_all_at}
use Rattle.il_model.specs.declared.class.FieldDef.{FieldDef}
use Rattle.il_model.specs.ClassRules.{has_counts}
use Rattle.cil_verify.proofs.hierarchy.have_field_counts.Goals as goal

pub returns-then-not-has_counts : goal.returns-then-not-has_counts
returns-then-not-has_counts c =
    let test = has_counts c.args.program.now in
    let fields = c.args.fields.now in
    let item = c.field-item.result in
    let fails : test item.kind ≡ false = sym c.has_counts.ensures ∙ c.if-not-has_counts.true in
    sym (list_all-map test (λ (f : FieldDef). f.kind) fields
    ∙ list_all_at (λ (f : FieldDef). test f.kind) fields c.loop-field.field-index item c.loop-field-test.true (ap (λ (f : FieldDef). test f.kind) (sym c.field-item.is) ∙ fails))
