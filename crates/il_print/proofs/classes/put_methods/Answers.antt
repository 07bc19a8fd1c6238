use Rattle.il_model.specs.Canonical.{method_lines}
use Rattle.il_print.specs.ClassNames.{names_of}
use Rattle.il_print.proofs.LineLemmas.{more_lines}
use Rattle.il_print.proofs.classes.put_methods.Goals as goal

pub loop-number-preserved : goal.loop-number-preserved
loop-number-preserved c =
    more_lines (method_lines c.args.program.now (names_of c.args.program.now.classes)) c.args.numbers.now c.loop-number.number-index 0 c.args.text.now
    c.loop-number.text c.put_method.new.text c.loop-number-test.true c.loop-number.invariant c.in_ok-put_method.ensures
