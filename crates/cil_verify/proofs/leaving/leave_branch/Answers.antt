use Rattle.std.proofs.Common.{◌∙◌, sym, ap, Some, reverse}
use Rattle.cil_verify.specs.declared.step.Compared.{Compared}
use Rattle.cil_verify.specs.Places.{view_of}
use Rattle.cil_verify.specs.Admits.{Operands, may_compare, take_two}
use Rattle.cil_verify.specs.Steps.{comparison_of}
use Rattle.cil_verify.proofs.leaving.leave_branch.Goals as goal

pub returns-in-Ordered : goal.returns-in-Ordered
returns-in-Ordered c =
    c.take_ordered.ensures.gives Some
    ∙ ap (λ (k : Compared). take_two (may_compare (view_of c.args.program.now c.args.method.now) (comparison_of k)) (λ (s : Operands). Some s) (reverse c.args.stack.now)) (sym c.in-Ordered.is)

pub returns-in-Equal : goal.returns-in-Equal
returns-in-Equal c =
    (c.take_equal.ensures c.args.method.now).gives Some
    ∙ ap (λ (k : Compared). take_two (may_compare (view_of c.args.program.now c.args.method.now) (comparison_of k)) (λ (s : Operands). Some s) (reverse c.args.stack.now)) (sym c.in-Equal.is)

pub returns-in-Exceeding : goal.returns-in-Exceeding
returns-in-Exceeding c =
    (c.take_exceeding.ensures c.args.method.now).gives Some
    ∙ ap (λ (k : Compared). take_two (may_compare (view_of c.args.program.now c.args.method.now) (comparison_of k)) (λ (s : Operands). Some s) (reverse c.args.stack.now)) (sym c.in-Exceeding.is)
