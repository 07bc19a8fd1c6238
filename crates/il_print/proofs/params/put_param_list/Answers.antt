use Rattle.il_model.specs.Canonical.{comma, param_words}
use Rattle.il_print.specs.ClassNames.{names_of}
use Rattle.il_print.proofs.WordLemmas.{all_parts}
use Rattle.il_print.proofs.params.put_param_list.Goals as goal

pub returns-in_ok-put_more_params-in-Some : goal.returns-in_ok-put_more_params-in-Some
returns-in_ok-put_more_params-in-Some c =
    all_parts comma (param_words (names_of c.args.classes.now)) c.args.params.now c.in-Some.first.now c.in-Some.rest.now
    c.args.text.now c.put_param.new.text c.put_more_params.new.text c.in-Some.ensures.cases.0
    c.in_ok-put_param-in-Some.ensures c.in_ok-put_more_params-in-Some.ensures
