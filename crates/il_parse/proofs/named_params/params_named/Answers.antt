use Rattle.std.proofs.Common.{◌∙◌, rules, arith}
use Rattle.std.proofs.lemmas.Grind.{common_steps}
use Rattle.il_parse.specs.Looking.{each_of}
use Rattle.il_parse.specs.NamedTypes.{param_named, params_named}
use Rattle.il_parse.proofs.EachLemmas.{each_end, each_next}
use Rattle.il_parse.proofs.named_params.params_named.Goals as goal

pub loop-each-init : goal.loop-each-init
unfolding params_named each_of
loop-each-init c = first_of (search rules, grind (arith, common_steps))

pub returns-in_err-param_named : goal.returns-in_err-param_named
returns-in_err-param_named c =
    let e = c.loop-each.invariant ∙ each_next (param_named c.args.scope.now) c.loop-each.found c.args.written.now c.loop-each.each-index c.each-item.result c.loop-each-test.true c.each-item.is in
    first_of (search rules, grind (arith, common_steps))

pub loop-each-preserved : goal.loop-each-preserved
loop-each-preserved c =
    let e = c.loop-each.invariant ∙ each_next (param_named c.args.scope.now) c.loop-each.found c.args.written.now c.loop-each.each-index c.each-item.result c.loop-each-test.true c.each-item.is in
    first_of (search rules, grind (arith, common_steps))

pub returns : goal.returns
returns c = c.loop-each.invariant ∙ each_end (param_named c.args.scope.now) c.loop-each.found c.args.written.now c.loop-each.each-index c.loop-each-test.false
