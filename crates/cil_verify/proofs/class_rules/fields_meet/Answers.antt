use Rattle.std.proofs.Common.{◌≡◌, false, [], sym, ◌∙◌}
use Rattle.il_model.specs.declared.class.FieldDef.{FieldDef}
use Rattle.il_model.specs.Assignable.{Bounded}
use Rattle.il_model.specs.ClassRules.{meets_bounds}
use Rattle.cil_verify.proofs.ItemsLemmas.{mapped_fails}
use Rattle.cil_verify.proofs.class_rules.fields_meet.Goals as goal

pub returns-then-not-branch : goal.returns-then-not-branch
returns-then-not-branch c =
    let scope : Bounded = record { of_class = c.args.vars.now; of_method = [] } in
    let test = meets_bounds c.args.program.now scope in
    let item = c.field-item.result in
    let fails : test item.kind ≡ false = sym (c.in_ok-meets_bounds.ensures {u = tt}) ∙ c.if-not-branch.true in
    sym (mapped_fails test (λ (f : FieldDef). f.kind) c.args.fields.now c.loop-field.field-index item c.loop-field-test.true c.field-item.is fails)
