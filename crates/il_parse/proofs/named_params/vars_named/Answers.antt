use Rattle.std.proofs.Common.{◌∙◌, rules, arith}
use Rattle.std.proofs.lemmas.Grind.{common_steps}
use Rattle.il_parse.specs.NamedTypes.{vars_named}
use Rattle.il_parse.proofs.VarLemmas.{vars_end, vars_next}
use Rattle.il_parse.proofs.named_params.vars_named.Goals as goal

pub loop-each-init : goal.loop-each-init
unfolding vars_named
loop-each-init c = first_of (search rules, grind (arith, common_steps))

pub returns-in_err-meet : goal.returns-in_err-meet
returns-in_err-meet c =
    let e = c.loop-each.invariant ∙ vars_next c.args.scope.now c.loop-each.met c.loop-each.found c.args.written.now c.loop-each.each-index c.each-item.result c.loop-each-test.true c.each-item.is in
    first_of (search rules, grind (arith, common_steps))

pub returns-in_err-bounds : goal.returns-in_err-bounds
returns-in_err-bounds c =
    let e = c.loop-each.invariant ∙ vars_next c.args.scope.now c.loop-each.met c.loop-each.found c.args.written.now c.loop-each.each-index c.each-item.result c.loop-each-test.true c.each-item.is in
    first_of (search rules, grind (arith, common_steps))

pub loop-each-preserved : goal.loop-each-preserved
loop-each-preserved c =
    let e = c.loop-each.invariant ∙ vars_next c.args.scope.now c.loop-each.met c.loop-each.found c.args.written.now c.loop-each.each-index c.each-item.result c.loop-each-test.true c.each-item.is in
    first_of (search rules, grind (arith, common_steps))

pub returns : goal.returns
returns c = c.loop-each.invariant ∙ vars_end c.args.scope.now c.loop-each.met c.loop-each.found c.args.written.now c.loop-each.each-index c.loop-each-test.false
