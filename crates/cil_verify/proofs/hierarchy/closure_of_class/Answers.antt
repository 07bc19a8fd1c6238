use Rattle.std.proofs.Common.{◌<◌, length, arith}
use Rattle.cil_verify.proofs.LayoutLemmas.{many_variables}
use Rattle.cil_verify.proofs.hierarchy.closure_of_class.Goals as goal

pub returns-then-len-gt255 : goal.returns-then-len-gt255
returns-then-len-gt255 c =
    let many : 255 < length c.args.class.now.vars = omega (arith, c.len.ensures, c.if-len-gt255.true) in
    many_variables c.args.program.now c.args.number c.args.class.now c.requires many
