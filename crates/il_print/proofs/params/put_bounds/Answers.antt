use Rattle.std.proofs.Common.{◌++◌, [], ◌∷◌, codes, sym, ap, ◌∙◌, append-nil}
use Rattle.il_model.specs.Canonical.{type_text, spaced_after, bound_words}
use Rattle.il_print.specs.ClassNames.{names_of}
use Rattle.il_print.proofs.WordLemmas.{led_parts}
use Rattle.il_print.proofs.params.put_bounds.Goals as goal

pub returns-in_ok-put_more_bounds-in-Some : goal.returns-in_ok-put_more_bounds-in-Some
returns-in_ok-put_more_bounds-in-Some c =
    let names = names_of c.args.classes.now in
    led_parts (codes ":") (codes "&") (λ t. type_text names t ∷ []) c.in-Some.first.now c.in-Some.rest.now
    c.args.text.now c.put.new.self c.put_type.new.text c.put_more_bounds.new.text
    c.in_ok-put-in-Some.ensures (rw append-nil c.in_ok-put_type-in-Some.ensures) c.in_ok-put_more_bounds-in-Some.ensures
    ∙ ap (λ ts. c.args.text.now ++ spaced_after (bound_words names ts)) (sym c.in-Some.ensures.cases.0)
