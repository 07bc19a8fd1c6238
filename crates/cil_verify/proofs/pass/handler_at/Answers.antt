use Rattle.std.proofs.Common.{◌∙◌, sym}
use Rattle.cil_flow.specs.Regions.{handler_of, begins}
use Rattle.cil_verify.proofs.FindLemmas.{first_passes, none_next}
use Rattle.cil_verify.proofs.pass.handler_at.Goals as goal

pub returns-then-begins : goal.returns-then-begins
returns-then-begins c =
    first_passes (λ k. begins (handler_of k) c.args.at) c.args.clauses.now c.loop-clause.clause-index c.clause-item.result
    c.loop-clause-test.true c.clause-item.is c.loop-clause.invariant (sym c.begins.ensures ∙ c.if-begins.true)

pub loop-clause-preserved : goal.loop-clause-preserved
loop-clause-preserved c =
    none_next (λ k. begins (handler_of k) c.args.at) c.args.clauses.now c.loop-clause.clause-index c.clause-item.result
    c.loop-clause-test.true c.clause-item.is c.loop-clause.invariant (sym c.begins.ensures ∙ c.if-begins.false)
