use Rattle.std.proofs.Common.{map}
use Rattle.il_model.specs.Canonical.{between, comma, param_words}
use Rattle.il_print.specs.ClassNames.{names_of}
use Rattle.il_print.proofs.WordLemmas.{in_parentheses}
use Rattle.il_print.proofs.params.put_params.Goals as goal

pub returns : goal.returns
returns c =
    in_parentheses (between comma (map (param_words (names_of c.args.classes.now)) c.args.params.now)) c.args.text.now c.put.new.self
    c.put_param_list.new.text c.put-2.new.self c.in_ok-put.ensures c.in_ok-put_param_list.ensures c.in_ok-put-2.ensures
