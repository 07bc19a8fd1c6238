use Rattle.std.proofs.Common.{◌≡◌, true, false}
use Rattle.cil_flow.specs.Regions.{begins_handler}
use Rattle.cil_flow.proofs.PassLemmas.{depth_of_handler, depth_of_other}
use Rattle.cil_flow.proofs.pass.depth_before.Goals as goal

pub returns-then-begins_handler : goal.returns-then-begins_handler
returns-then-begins_handler c =
    let begins : begins_handler c.args.body.now.clauses c.args.at ≡ true = cc in
    depth_of_handler c.args.has_result c.args.body.now c.args.at c.requires.within begins

pub returns : goal.returns
returns c =
    let other : begins_handler c.args.body.now.clauses c.args.at ≡ false = cc in
    let value = depth_of_other c.args.has_result c.args.body.now c.args.at c.args.arrived.now c.requires.within other c.requires.knows in
    cc
