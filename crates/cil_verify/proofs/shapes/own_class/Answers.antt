use Rattle.std.proofs.Common.{◌≡◌, Some, slice_get, sym}
use Rattle.type_inst.proofs.DefinitionLemmas.{few_variables}
use Rattle.cil_verify.proofs.shapes.own_class.Goals as goal

pub own_of-requires : goal.own_of-requires
own_of-requires c =
    let here : slice_get c.args.program.now.classes c.args.number ≡ Some c.in-Some.class.now = sym (c.in-Some.ensures {u = tt}) in
    few_variables c.args.program.now c.args.number c.in-Some.class.now c.requires here
