use Rattle.std.proofs.Common.{rules}
use Rattle.il_print.specs.ClassNames.{names_of}
use Rattle.il_print.proofs.LineLemmas.{class_written}
use Rattle.il_print.proofs.classes.put_class.Goals as goal

pub returns : goal.returns
returns c =
    class_written c.args.program.now (names_of c.args.program.now.classes) c.args.class.now c.args.text.now
    c.put_head_line.new.text c.put_fields.new.text c.put_methods.new.text c.put.new.self
    (search rules) (search rules) (search rules) c.in_ok-put.ensures
