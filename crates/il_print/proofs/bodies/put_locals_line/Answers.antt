use Rattle.std.proofs.Common.{rules}
use Rattle.il_print.specs.ClassNames.{names_of}
use Rattle.il_print.proofs.LineLemmas.{locals_written}
use Rattle.il_print.proofs.bodies.put_locals_line.Goals as goal

pub returns : goal.returns
returns c =
    locals_written (names_of c.args.classes.now) c.args.locals.now c.args.text.now c.put.new.self c.put_params.new.text c.put-2.new.self
    (search rules) c.in_ok-put.ensures c.in_ok-put_params.ensures c.in_ok-put-2.ensures
