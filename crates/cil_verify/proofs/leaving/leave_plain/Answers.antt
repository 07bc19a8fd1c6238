use Rattle.std.proofs.Common.{◌∙◌, sym, ap, subst, reverse, Some, IfOk}
use Rattle.std.proofs.lemmas.Result.{IfOk-weaker}
use Rattle.cil_verify.specs.declared.step.Plain.{Plain}
use Rattle.cil_verify.specs.Places.{view_of}
use Rattle.cil_verify.specs.Admits.{left_by_row}
use Rattle.cil_verify.specs.Steps.{row_of_plain}
use Rattle.cil_verify.specs.Taking.{Leaves}
use Rattle.cil_verify.proofs.leaving.leave_plain.Goals as goal

pub returns-in-Copy : goal.returns-in-Copy
returns-in-Copy c =
    subst (λ (p : Plain). IfOk c.copy.result (λ admitted. Leaves admitted c.copy.new.stack (left_by_row (view_of c.args.program.now c.args.method.now) (row_of_plain p) (reverse c.args.stack.now)))) (sym c.in-Copy.is)
    (IfOk-weaker c.copy.result _ _ (λ admitted leaves. leaves (view_of c.args.program.now c.args.method.now)) c.copy.ensures)

pub returns-in-Test : goal.returns-in-Test
returns-in-Test c =
    (c.take_tested.ensures c.args.method.now).gives Some
    ∙ ap (λ (p : Plain). left_by_row (view_of c.args.program.now c.args.method.now) (row_of_plain p) (reverse c.args.stack.now)) (sym c.in-Test.is)
