use Rattle.std.proofs.Common.{◌≡◌, ◌++◌, length, drop, sym, ap, ◌∙◌, arith}
use Rattle.il_model.specs.Canonical.{code_lines}
use Rattle.il_print.specs.Parts.{lines_text}
use Rattle.il_print.proofs.LineLemmas.{next_op, all_ops}
use Rattle.il_print.proofs.bodies.put_code.Goals as goal

pub loop-at-preserved : goal.loop-at-preserved
loop-at-preserved c =
    next_op c.args.scope.now c.args.code.now c.loop-at.at c.index-code-at.result c.loop-at.text c.put_label_line.new.text c.put_op_line.new.text _
    c.loop-at-test.true c.index-code-at.is c.loop-at.invariant c.in_ok-put_label_line.ensures c.in_ok-put_op_line.ensures

pub returns : goal.returns
returns c =
    let p = c.args.scope.now in
    let code = c.args.code.now in
    let end : c.loop-at.at ≡ length code = omega arith in
    all_ops p code c.args.text.now c.loop-at.text c.put_label_line-2.new.text
    (ap (λ k. c.loop-at.text ++ lines_text (code_lines p k (drop k code))) (sym end) ∙ c.loop-at.invariant) c.in_ok-put_label_line-2.ensures
