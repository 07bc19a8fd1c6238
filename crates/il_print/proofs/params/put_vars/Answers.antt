use Rattle.il_model.specs.Canonical.{var_words}
use Rattle.il_print.specs.ClassNames.{names_of}
use Rattle.il_print.proofs.WordLemmas.{angled_parts}
use Rattle.il_print.proofs.params.put_vars.Goals as goal

pub returns-in_ok-put-in-Some-2 : goal.returns-in_ok-put-in-Some-2
returns-in_ok-put-in-Some-2 c =
    angled_parts (var_words (names_of c.args.classes.now)) c.args.vars.now c.in-Some.first.now c.in-Some.rest.now
    c.args.text.now c.put.new.self c.put_var.new.text c.put_more_vars.new.text c.put-in-Some.new.self c.in-Some.ensures.cases.0
    c.in_ok-put-in-Some.ensures c.in_ok-put_var-in-Some.ensures c.in_ok-put_more_vars-in-Some.ensures c.in_ok-put-in-Some-2.ensures
