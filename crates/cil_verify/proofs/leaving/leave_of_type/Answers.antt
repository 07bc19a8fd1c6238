use Rattle.std.proofs.Common.{◌∙◌, sym, ap, reverse, Some}
use Rattle.cil_verify.specs.declared.step.TypeAccess.{TypeAccess}
use Rattle.cil_verify.specs.Places.{view_of}
use Rattle.cil_verify.specs.Admits.{left_by_row}
use Rattle.cil_verify.specs.Steps.{row_of_type}
use Rattle.cil_verify.proofs.leaving.leave_of_type.Goals as goal

pub returns-in-Clear : goal.returns-in-Clear
returns-in-Clear c =
    c.take_pointer.ensures.gives Some
    ∙ ap (λ (a : TypeAccess). left_by_row (view_of c.args.program.now c.args.method.now) (row_of_type a c.args.kind.now) (reverse c.args.stack.now)) (sym c.in-Clear.is)
