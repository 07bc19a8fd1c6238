use Rattle.std.proofs.Common.{◌≡◌, ◌∙◌, Err, sym, ap, subst}
use Rattle.il_parse.specs.Answer.{IsAnswer}
use Rattle.cil_verify.specs.Verifies.{Verifies}
use Rattle.run_top.specs.declared.refusal.TextRefusal.TheVariants.{Parser, Verifier}
use Rattle.run_top.specs.Places.{spot_at, spot_in}
use Rattle.run_top.specs.Headline.{RefusedBy}
use Rattle.run_top.specs.Headline.RefusedBy.{by_parser, by_verifier}
use Rattle.run_top.proofs.top.judge.Goals as goal

pub returns-in-Err-Fault-clause-refused : goal.returns-in-Err-Fault-clause-refused
returns-in-Err-Fault-clause-refused c = λ why is turns.
    let same : Parser c.in-Err-Fault.fault ≡ why = cc in
    let answer = (c.in-Err-Fault.ensures {u = tt}).fault c.in-Err-Fault.fault (ap Err c.in-Err-Fault.field-0-is) in
    subst (RefusedBy (IsAnswer c.args.text.now) turns) same (by_parser turns c.in-Err-Fault.fault answer)

pub returns-in-Err-Fault-verify-clause-refused : goal.returns-in-Err-Fault-verify-clause-refused
returns-in-Err-Fault-verify-clause-refused c = λ why is turns.
    let fault = c.in-Err-Fault-verify.fault in
    let same : Verifier c.spot_in-spot.result fault.cause ≡ why = cc in
    let refused = subst (Verifies c.in-Ok.parsed.program) (c.in-Err-Fault-verify.is ∙ ap Err c.in-Err-Fault-verify.field-0-is) c.verify.ensures in
    let spot : c.spot_in-spot.result ≡ spot_at c.in-Ok.parsed fault.at =
    c.spot_in-spot.ensures ∙ ap (λ ss. spot_in ss c.len-classes.result fault.at) c.as_slice.ensures ∙
    ap (λ n. spot_in c.in-Ok.parsed.spots n fault.at) c.len-classes.ensures in
    let answer = (c.in-Ok.ensures {u = tt}).ok in
    subst (RefusedBy (IsAnswer c.args.text.now) turns) (ap (λ s. Verifier s fault.cause) (sym spot) ∙ same) (by_verifier turns c.in-Ok.parsed fault answer refused)
