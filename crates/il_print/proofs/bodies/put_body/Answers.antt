use Rattle.std.proofs.Common.{rules}
use Rattle.il_print.specs.ClassNames.{names_of}
use Rattle.il_print.proofs.LineLemmas.{body_written}
use Rattle.il_print.proofs.bodies.put_body.Goals as goal

pub returns : goal.returns
returns c =
    body_written (names_of c.args.classes.now) c.args.literals.now c.args.is_entry c.args.body.now c.new-scope.result c.args.text.now
    c.put_entry_line.new.text c.put_locals_line.new.text c.put_code.new.text c.put_clauses.new.text
    (search rules) c.in_ok-put_entry_line.ensures (search rules) (search rules) (search rules)
