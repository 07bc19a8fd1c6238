use Rattle.std.proofs.Common.{◌∙◌, sym}
use Rattle.std.proofs.lemmas.Result.{IfOk-weaker}
use Rattle.cil_verify.specs.Arrivals.{known}
use Rattle.cil_verify.proofs.PassLemmas.{state_of_handler, state_of_other}
use Rattle.cil_verify.proofs.pass.state_before.Goals as goal

pub returns-in-Some : goal.returns-in-Some
returns-in-Some c =
    IfOk-weaker c.caught_of.result _ _
    (λ stack is. is ∙ sym (state_of_handler c.args.clauses.now (known c.args.all.now c.args.at) c.args.at c.in-Some.clause.now (sym (c.in-Some.ensures {u = tt}))))
    c.caught_of.ensures

pub returns-in-None : goal.returns-in-None
returns-in-None c =
    IfOk-weaker c.stack_arrived.result _ _
    (λ stack is. is ∙ sym (state_of_other c.args.clauses.now (known c.args.all.now c.args.at) c.args.at (sym (c.in-None.ensures {u = tt}))))
    c.stack_arrived.ensures
