use Rattle.std.proofs.Common.{◌≡◌, true, sym, ◌∙◌}
use Rattle.il_model.specs.declared.class.FieldDef.{FieldDef}
use Rattle.il_model.specs.ClassRules.{is_in_own_closure}
use Rattle.cil_verify.proofs.ItemsLemmas.{mapped_here}
use Rattle.cil_verify.proofs.layouts.has_own_struct.Goals as goal

pub returns-then-branch : goal.returns-then-branch
returns-then-branch c =
    let test = is_in_own_closure c.args.program.now in
    let item = c.field-item.result in
    let passes : test item.kind ≡ true = sym (c.in_ok-is_in_own_closure.ensures {u = tt}) ∙ c.if-branch.true in
    sym (mapped_here test (λ (f : FieldDef). f.kind) c.args.fields.now c.loop-field.field-index item c.loop-field-test.true c.field-item.is passes)
