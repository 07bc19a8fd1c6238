use Rattle.std.proofs.Common.{◌∙◌, Some}
use Rattle.cil_verify.specs.Places.{view_of}
use Rattle.cil_verify.specs.Fits.{fits, points_to}
use Rattle.cil_verify.specs.Admits.{Operands, take_one}
use Rattle.cil_verify.proofs.TakingLemmas.{goes_on}
use Rattle.cil_verify.proofs.pointers.store_through.Goals as goal

pub returns : goal.returns
returns c =
    c.take_pointer.ensures.gives Some
    ∙ goes_on (take_one (fits (view_of c.args.program.now c.args.method.now) c.args.kind.now)) c.in_ok-take_fitting.field-0 c.args.stack.now c.take_fitting.new.stack (c.in_ok-take_fitting.ensures {u = tt}) c.if-not-branch.false (take_one (points_to c.args.kind.now) (λ (s : Operands). Some s))
