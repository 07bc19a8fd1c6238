use Rattle.std.proofs.Common.{sym, subst, reverse, IfOk}
use Rattle.std.proofs.lemmas.Result.{IfOk-weaker}
use Rattle.cil_flow.specs.declared.state.StackType.TheVariants as stack
use Rattle.cil_verify.specs.declared.step.Compared.{Compared}
use Rattle.cil_verify.specs.Places.{view_of}
use Rattle.cil_verify.specs.Admits.{may_compare, take_two, push}
use Rattle.cil_verify.specs.Steps.{comparison_of}
use Rattle.cil_verify.specs.Taking.{Leaves}
use Rattle.cil_verify.proofs.leaving.leave_comparison.Goals as goal

pub returns-in-Equal : goal.returns-in-Equal
returns-in-Equal c =
    subst (λ (k : Compared). IfOk c.compare_equal.result (λ admitted. Leaves admitted c.compare_equal.new.stack (take_two (may_compare (view_of c.args.program.now c.args.method.now) (comparison_of k)) (push stack.Int32) (reverse c.args.stack.now)))) (sym c.in-Equal.is)
    (IfOk-weaker c.compare_equal.result _ _ (λ admitted leaves. leaves c.args.method.now) c.compare_equal.ensures)

pub returns-in-Exceeding : goal.returns-in-Exceeding
returns-in-Exceeding c =
    subst (λ (k : Compared). IfOk c.compare_exceeding.result (λ admitted. Leaves admitted c.compare_exceeding.new.stack (take_two (may_compare (view_of c.args.program.now c.args.method.now) (comparison_of k)) (push stack.Int32) (reverse c.args.stack.now)))) (sym c.in-Exceeding.is)
    (IfOk-weaker c.compare_exceeding.result _ _ (λ admitted leaves. leaves c.args.method.now) c.compare_exceeding.ensures)
