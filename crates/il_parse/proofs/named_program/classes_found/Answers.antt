use Rattle.std.proofs.Common.{◌∙◌, subst}
use Rattle.il_model.specs.LookUp.{Known}
use Rattle.il_parse.specs.Looking.{Looks}
use Rattle.il_parse.specs.NamedClasses.{classes_named, gathered_first}
use Rattle.il_parse.proofs.KnownLemmas.{declared_is}
use Rattle.il_parse.proofs.named_program.classes_found.Goals as goal

pub returns : goal.returns
returns c =
    subst (λ (known : Known). Looks (classes_named known gathered_first c.args.classes.now) c.classes_named.result)
    (c.new-known.ensures ∙ declared_is c.args.classes.now c.args.literals.now c.requires) c.classes_named.ensures
