use Rattle.std.proofs.Common.{◌≡◌, sym, ap, subst, reverse, IfOk}
use Rattle.cil_verify.specs.Places.{view_of}
use Rattle.cil_verify.specs.Rows.{Row, calls_through}
use Rattle.cil_verify.specs.Admits.{left_by_row}
use Rattle.cil_verify.specs.Steps.{row_of_step}
use Rattle.cil_verify.specs.Taking.{Leaves}
use Rattle.cil_verify.proofs.leaving.leave.Goals as goal

pub returns-in-CallThrough : goal.returns-in-CallThrough
returns-in-CallThrough c =
    let row : row_of_step c.args.step ≡ calls_through c.in-CallThrough.kind.now c.in-CallThrough.named.now = ap row_of_step c.in-CallThrough.is in
    subst (λ (r : Row). IfOk c.call_constrained.result (λ admitted. Leaves admitted c.call_constrained.new.stack (left_by_row (view_of c.args.program.now c.args.method.now) r (reverse c.args.stack.now)))) (sym row)
    c.call_constrained.ensures
