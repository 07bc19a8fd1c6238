use Rattle.std.proofs.Common.{◌≡◌, ◌*◌, ◌<◌, ◌^◌, None, sym, ap, ◌∙◌, subst, rules}
use Rattle.il_model.specs.declared.entry.Entry.TheVariants as entry
use Rattle.il_model.specs.Methods.{limit_of_method}
use Rattle.rgctx_template.specs.Catalogue.{data_of}
use Rattle.rgctx_fill.specs.Steps.{method_steps}
use Rattle.rgctx_fill.specs.Starting.{IsPlanOf, limit_of_slot}
use Rattle.rgctx_fill.proofs.StartLemmas.{method-plan-of, slot-plan}
use Rattle.rgctx_fill.proofs.naming.method_planned.Goals as goal

pub returns-clause-method : goal.returns-clause-method
returns-clause-method c spells =
    let cat = data_of c.args.cat.now in
    let m = c.args.method.now in
    let none : limit_of_method c.args.cat.now.program.now m ≡ None = search rules in
    let low : c.in_ok-word.word < 2 ^ 32 = search rules in (
      none,
      subst (λ steps. IsPlanOf cat spells (entry.Method m.method m.class m.args) steps (65536 * c.from.result)) (sym c.in_ok-steps.ensures)
          (subst (λ w. IsPlanOf cat spells (entry.Method m.method m.class m.args) (method_steps m) (65536 * w)) (sym c.from.ensures)
          (method-plan-of cat spells m c.in_ok-word.word c.requires.nameable c.requires.whole none c.in_ok-word.ensures low)),
    )

pub returns-clause-slot : goal.returns-clause-slot
returns-clause-slot c spells number is =
    let cat = data_of c.args.cat.now in
    let m = c.args.method.now in
    let none : limit_of_method c.args.cat.now.program.now m ≡ None = search rules in
    let low : c.in_ok-word.word < 2 ^ 32 = search rules in (
      ap (limit_of_slot c.args.cat.now.program.now) is ∙ none,
      subst (λ steps. IsPlanOf cat spells (entry.Slot number) steps (65536 * c.from.result)) (sym c.in_ok-steps.ensures)
          (subst (λ w. IsPlanOf cat spells (entry.Slot number) (method_steps m) (65536 * w)) (sym c.from.ensures)
          (slot-plan cat spells number m c.in_ok-word.word is (method-plan-of cat spells m c.in_ok-word.word c.requires.nameable c.requires.whole none c.in_ok-word.ensures low))),
    )
