use Rattle.std.proofs.Common.{rules, codes}
use Rattle.il_model.specs.Canonical.{shape_text, params_words}
use Rattle.il_print.specs.ClassNames.{names_of}
use Rattle.il_print.specs.Parts.{named_words}
use Rattle.il_print.proofs.LineLemmas.{three_lists}
use Rattle.il_print.proofs.methods.put_method_head.Goals as goal

pub returns : goal.returns
returns c =
    let names = names_of c.args.classes.now in
    let m = c.args.method.now in
    three_lists (codes ".method") (shape_text m.shape) (named_words names m) (params_words names m.params)
    c.args.text.now c.put.new.self c.put_shape.new.text c.put_named.new.text c.put_params.new.text
    c.in_ok-put.ensures c.in_ok-put_shape.ensures c.in_ok-put_named.ensures (search rules)
