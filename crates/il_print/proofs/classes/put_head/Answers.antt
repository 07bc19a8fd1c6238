use Rattle.std.proofs.Common.{rules, [], ◌∷◌, codes}
use Rattle.il_model.specs.Canonical.{kind_text, base_words, interfaces_words}
use Rattle.il_print.specs.ClassNames.{names_of}
use Rattle.il_print.specs.Parts.{named_class_words}
use Rattle.il_print.proofs.LineLemmas.{five_lists}
use Rattle.il_print.proofs.classes.put_head.Goals as goal

pub returns : goal.returns
returns c =
    let names = names_of c.args.classes.now in
    let class = c.args.class.now in
    five_lists (codes ".class") (kind_text class.kind) (named_class_words names class) (base_words names class.base) (interfaces_words names class.interfaces) (codes "{" ∷ [])
    c.args.text.now c.put.new.self c.put_kind.new.text c.put_named_class.new.text c.put_base.new.text c.put_interfaces.new.text c.put-2.new.self
    c.in_ok-put.ensures c.in_ok-put_kind.ensures c.in_ok-put_named_class.ensures c.in_ok-put_base.ensures (search rules) c.in_ok-put-2.ensures
