use Rattle.std.proofs.Common.{sym, subst, rules}
use Rattle.il_model.specs.declared.entry.Entry.TheVariants as entry
use Rattle.rgctx_template.specs.Catalogue.{data_of}
use Rattle.rgctx_fill.specs.Starting.{IsPlanOf}
use Rattle.rgctx_fill.proofs.StartLemmas.{offset-plan}
use Rattle.rgctx_fill.proofs.naming.offset_planned.Goals as goal

pub returns : goal.returns
returns c spells =
    let cat = data_of c.args.cat.now in (
      search rules,
      subst (λ steps. IsPlanOf cat spells (entry.Offset c.args.class.now c.args.place) steps c.in_ok-value.value) (sym c.new.ensures.items)
          (offset-plan cat spells c.args.class.now c.args.place c.in_ok-value.value c.in_ok-value.ensures.value c.in_ok-value.ensures.small),
    )
