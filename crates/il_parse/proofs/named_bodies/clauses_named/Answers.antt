use Rattle.std.proofs.Common.{◌∙◌, rules, arith}
use Rattle.std.proofs.lemmas.Grind.{common_steps}
use Rattle.il_parse.specs.Looking.{each_of}
use Rattle.il_parse.specs.NamedBodies.{clause_named}
use Rattle.il_parse.proofs.EachLemmas.{each_end, each_next}
use Rattle.il_parse.proofs.named_bodies.clauses_named.Goals as goal

pub loop-clause-init : goal.loop-clause-init
unfolding each_of
loop-clause-init c = first_of (search rules, grind (arith, common_steps))

pub returns-in_err-clause_named : goal.returns-in_err-clause_named
returns-in_err-clause_named c =
    let e = c.loop-clause.invariant ∙ each_next (clause_named c.args.scope.now c.args.labels.now) c.loop-clause.found c.args.written.now c.loop-clause.clause-index c.clause-item.result c.loop-clause-test.true c.clause-item.is in
    first_of (search rules, grind (arith, common_steps))

pub loop-clause-preserved : goal.loop-clause-preserved
loop-clause-preserved c =
    let e = c.loop-clause.invariant ∙ each_next (clause_named c.args.scope.now c.args.labels.now) c.loop-clause.found c.args.written.now c.loop-clause.clause-index c.clause-item.result c.loop-clause-test.true c.clause-item.is in
    first_of (search rules, grind (arith, common_steps))

pub returns : goal.returns
returns c = c.loop-clause.invariant ∙ each_end (clause_named c.args.scope.now c.args.labels.now) c.loop-clause.found c.args.written.now c.loop-clause.clause-index c.loop-clause-test.false
