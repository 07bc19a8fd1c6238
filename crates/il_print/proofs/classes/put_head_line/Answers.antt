use Rattle.std.proofs.Common.{◌++◌, sym, ap, ◌∙◌, append-nil}
use Rattle.il_model.specs.Canonical.{spaced}
use Rattle.il_print.specs.ClassNames.{names_of}
use Rattle.il_print.specs.Parts.{class_head}
use Rattle.il_print.proofs.LineLemmas.{one_line}
use Rattle.il_print.proofs.classes.put_head_line.Goals as goal

pub returns : goal.returns
returns c =
    one_line 0 c.args.text.now c.put_head.new.text c.put.new.self (class_head (names_of c.args.classes.now) c.args.class.now)
    (c.in_ok-put_head.ensures ∙ ap (λ text. text ++ spaced (class_head (names_of c.args.classes.now) c.args.class.now)) (sym (append-nil c.args.text.now))) c.in_ok-put.ensures
