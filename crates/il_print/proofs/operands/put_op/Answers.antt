use Rattle.std.proofs.Common.{rules, ◌≡◌, ◌++◌, true, false}
use Rattle.il_model.specs.Forms.{word_of}
use Rattle.il_model.specs.Ops.{form_of, operand_of}
use Rattle.il_model.specs.Canonical.{operand_words, spaced_after}
use Rattle.il_print.specs.Forms.{is_spelled, text_before, text_behind}
use Rattle.il_print.proofs.WordLemmas.{op_written, nothing_written}
use Rattle.il_print.proofs.operands.put_op.Goals as goal

pub returns-then-not-is_spelled : goal.returns-then-not-is_spelled
returns-then-not-is_spelled c =
    let op = c.args.op.now in
    let unspelled : is_spelled (word_of (form_of op)) ≡ false = search rules in
    nothing_written (word_of (form_of op)) (operand_words c.args.scope.now (operand_of op)) c.args.text.now unspelled

pub returns : goal.returns
returns c =
    let op = c.args.op.now in
    let spelled : is_spelled (word_of (form_of op)) ≡ true = search rules in
    let first : c.put.new.self ≡ c.args.text.now ++ text_before (word_of (form_of op)) = search rules in
    let second : c.put_operand.new.text ≡ c.put.new.self ++ spaced_after (operand_words c.args.scope.now (operand_of op)) = search rules in
    let third : c.put-2.new.self ≡ c.put_operand.new.text ++ text_behind (word_of (form_of op)) = search rules in
    op_written (word_of (form_of op)) (operand_words c.args.scope.now (operand_of op)) c.args.text.now c.put.new.self c.put_operand.new.text c.put-2.new.self
    spelled first second third
