use Rattle.std.proofs.Common.{◌++◌, [], ◌∷◌, codes, sym, ap, ◌∙◌, append-nil}
use Rattle.il_model.specs.Canonical.{comma, type_text, spaced_after, interfaces_words}
use Rattle.il_print.specs.ClassNames.{names_of}
use Rattle.il_print.proofs.WordLemmas.{led_parts}
use Rattle.il_print.proofs.classes.put_interfaces.Goals as goal

pub returns-in_ok-put_more_types-in-Some : goal.returns-in_ok-put_more_types-in-Some
returns-in_ok-put_more_types-in-Some c =
    let names = names_of c.args.classes.now in
    led_parts (codes "implements") comma (λ t. type_text names t ∷ []) c.in-Some.first.now c.in-Some.rest.now
    c.args.text.now c.put.new.self c.put_type.new.text c.put_more_types.new.text
    c.in_ok-put-in-Some.ensures (rw append-nil c.in_ok-put_type-in-Some.ensures) c.in_ok-put_more_types-in-Some.ensures
    ∙ ap (λ ts. c.args.text.now ++ spaced_after (interfaces_words names ts)) (sym c.in-Some.ensures.cases.0)
