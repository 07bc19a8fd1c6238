use Rattle.std.proofs.Common.{◌≡◌, Err, sym, ap, subst}
use Rattle.mn_outside.specs.declared.outside.Refused.TheVariants.{Fault}
use Rattle.il_parse.specs.Answer.{IsAnswer}
use Rattle.run_top.specs.declared.command.Task.TheVariants.{Exec}
use Rattle.run_top.specs.Headline.{RefusedBy}
use Rattle.run_top.specs.Headline.RefusedBy.{by_form}
use Rattle.run_top.proofs.top.carry_out.Goals as goal

pub returns-in-Err-run_judged-clause-refused : goal.returns-in-Err-run_judged-clause-refused
returns-in-Err-run_judged-clause-refused c = λ why is.
    let same : c.in-Err-run_judged.refused ≡ Fault why = cc in
    let found = (c.in-Err-run_judged.ensures {u = tt}).refused why (ap Err same) in
    let judged = (c.in-Ok.ensures {u = tt}).judged in
    let form = by_form c.in-Exec.limit judged.parsed c.in-Ok.program judged.parses judged.program judged.verified found.1 in
    subst (λ task. RefusedBy (IsAnswer c.args.text.now) task why) (sym c.in-Exec.is) (subst (RefusedBy (IsAnswer c.args.text.now) (Exec c.in-Exec.limit)) (sym found.0) form)
