use Rattle.std.proofs.Common.{rules, List, [], ◌∷◌, ◌++◌, codes, if◌then◌else◌}
use Rattle.il_model.specs.Canonical.{Word, params_words}
use Rattle.il_print.specs.ClassNames.{names_of}
use Rattle.il_print.specs.Parts.{named_method_words}
use Rattle.il_print.proofs.WordLemmas.{joined_words}
use Rattle.il_print.proofs.members.put_method_ref.Goals as goal

pub returns : goal.returns
returns c =
    let names = names_of c.args.classes.now in
    let m = c.args.method.now in
    let first : List Word = if m.instance then codes "instance" ∷ [] else [] in
    joined_words (first ++ named_method_words names m) (params_words names m.params) c.args.text.now c.put_named_method.new.text c.put_params.new.text
    (joined_words first (named_method_words names m) c.args.text.now c.put_instance.new.text c.put_named_method.new.text
    c.in_ok-put_instance.ensures c.in_ok-put_named_method.ensures)
    (search rules)
