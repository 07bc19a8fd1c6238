use Rattle.std.proofs.Common.{◌∙◌, ℕ, Option, Err, sym, ap, subst}
use Rattle.il_model.specs.Names.{class_number}
use Rattle.il_parse.specs.Looking.{Looks, found_or_unknown}
use Rattle.il_parse.proofs.named_types.class_number.Goals as goal

pub returns-in-None : goal.returns-in-None
returns-in-None c =
    subst (λ e. Looks (found_or_unknown (class_number c.args.scope.now.names c.args.name.now.name) c.args.name.now) (Err e)) (sym c.unknown.ensures)
    (ap (λ (r : Option ℕ). found_or_unknown r c.args.name.now)
    (ap (class_number c.args.scope.now.names) (sym (c.as_bytes.ensures.value ∙ c.text.ensures)) ∙ sym c.class.ensures ∙ c.in-None.is))
