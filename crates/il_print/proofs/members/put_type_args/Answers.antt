use Rattle.std.proofs.Common.{[], ◌∷◌, append-nil}
use Rattle.il_model.specs.Canonical.{type_text}
use Rattle.il_print.specs.ClassNames.{names_of}
use Rattle.il_print.proofs.WordLemmas.{angled_parts}
use Rattle.il_print.proofs.members.put_type_args.Goals as goal

pub returns-in_ok-put-in-Some-2 : goal.returns-in_ok-put-in-Some-2
returns-in_ok-put-in-Some-2 c =
    angled_parts (λ t. type_text (names_of c.args.classes.now) t ∷ []) c.args.args.now c.in-Some.first.now c.in-Some.rest.now
    c.args.text.now c.put.new.self c.put_type.new.text c.put_more_types.new.text c.put-in-Some.new.self c.in-Some.ensures.cases.0
    c.in_ok-put-in-Some.ensures (rw append-nil c.in_ok-put_type-in-Some.ensures) c.in_ok-put_more_types-in-Some.ensures c.in_ok-put-in-Some-2.ensures
