use Rattle.std.proofs.Common.{◌≡◌, None, sym, subst, rules}
use Rattle.il_model.specs.declared.entry.Entry.TheVariants as entry
use Rattle.il_model.specs.Admission.{limit_of}
use Rattle.rgctx_template.specs.Catalogue.{data_of}
use Rattle.rgctx_fill.specs.Starting.{IsPlanOf}
use Rattle.rgctx_fill.proofs.StartLemmas.{kind-plan}
use Rattle.rgctx_fill.proofs.naming.kind_planned.Goals as goal

pub returns : goal.returns
returns c spells =
    let cat = data_of c.args.cat.now in
    let none : limit_of c.args.cat.now.program.now c.args.kind.now ≡ None = search rules in
    (none, subst (λ steps. IsPlanOf cat spells (entry.Kind c.args.kind.now) steps 0) (sym c.in_ok-steps.ensures) (kind-plan cat spells c.args.kind.now c.requires.nameable c.requires.whole none))
