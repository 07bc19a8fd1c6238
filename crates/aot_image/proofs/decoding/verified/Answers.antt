use Rattle.std.proofs.Common.{◌∙◌, Err, sym, subst}
use Rattle.std.proofs.lemmas.Bool.{true≢false}
use Rattle.mn_outside.specs.declared.outside.Refused.{Refused}
use Rattle.cil_verify.specs.declared.fault.VerifyFault.{VerifyFault}
use Rattle.cil_verify.specs.Verifies.{Verifies, IsRefused}
use Rattle.aot_image.proofs.TextLemmas.{text_refused, not_canonical, not_verified}
use Rattle.aot_image.proofs.decoding.verified.Goals as goal

pub returns-then-not-branch : goal.returns-then-not-branch
returns-then-not-branch c =
    text_refused c.args.text.now c.bad_text.result c.bad_text.ensures
    (not_canonical c.texts_give_one_answer.ensures.program c.args.text.now c.args.program c.requires
    (λ e. true≢false (sym ((c.in_ok-is_canonical.ensures {u = tt}).1 e) ∙ c.if-not-branch.true)))

pub returns-in-Err-Fault : goal.returns-in-Err-Fault
returns-in-Err-Fault c =
    let refused : IsRefused c.args.program c.in-Err-Fault.field-0-0 =
    subst (λ (f : Refused VerifyFault). Verifies c.args.program (Err f)) c.in-Err-Fault.field-0-is (c.in-Err-Fault.ensures {u = tt}) in
    text_refused c.args.text.now c.bad_text-in-Err-Fault.result c.bad_text-in-Err-Fault.ensures
    (not_verified c.texts_give_one_answer.ensures.program c.args.text.now c.args.program c.in-Err-Fault.field-0-0 c.requires refused)
