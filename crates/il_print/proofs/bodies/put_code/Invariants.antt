use Rattle.std.proofs.Common.{◌≡◌, ◌++◌, drop}
use Rattle.il_model.specs.Canonical.{code_lines}
use Rattle.il_print.specs.Parts.{lines_text}
use Rattle.il_print.proofs.bodies.put_code.Given as goal

abbrev pub invariant-loop-at : goal.invariant-loop-at
invariant-loop-at l = l.text ++ lines_text (code_lines l.scope l.at (drop l.at l.code)) ≡ l.initial.text ++ lines_text (code_lines l.scope 0 l.code)
