use Rattle.std.proofs.Common.{◌≡◌, subst, sym, Err, ◌∙◌, ap}
use Rattle.il_text.specs.Readings.{IsRefusedFor}
use Rattle.il_parse.specs.Answer.{Parses, parsed, unreadable, unreadable_at}
use Rattle.il_parse.specs.Parsing.{Answers}
use Rattle.il_parse.proofs.TextsNamed.{parses_says}
use Rattle.il_parse.proofs.ParsingLemmas.{ok_by_tokens, fault_by_tokens, ok_answer, ok_accepted, answer_alone}
use Rattle.il_parse.proofs.parsing.parse.Goals as goal

pub returns-in-Ok-clause-ok : goal.returns-in-Ok-clause-ok
returns-in-Ok-clause-ok c =
    ok_answer c.args.text.now c.parsed.result (ok_by_tokens c.args.text.now c.in-Ok.tokens.items (c.in-Ok.ensures {u = tt}).tokens c.parsed.result
    (subst (λ ts. Answers (parsed c.args.text.now ts) c.parsed.result) c.as_slice.ensures.value c.parsed.ensures))

pub returns-in-Ok-clause-accepted : goal.returns-in-Ok-clause-accepted
returns-in-Ok-clause-accepted c =
    ok_accepted c.args.text.now c.parsed.result (ok_by_tokens c.args.text.now c.in-Ok.tokens.items (c.in-Ok.ensures {u = tt}).tokens c.parsed.result
    (subst (λ ts. Answers (parsed c.args.text.now ts) c.parsed.result) c.as_slice.ensures.value c.parsed.ensures))

pub returns-in-Ok-clause-fault : goal.returns-in-Ok-clause-fault
returns-in-Ok-clause-fault c = λ f is.
    answer_alone c.args.text.now (Err f) (fault_by_tokens c.args.text.now c.in-Ok.tokens.items (c.in-Ok.ensures {u = tt}).tokens c.parsed.result
    (subst (λ ts. Answers (parsed c.args.text.now ts) c.parsed.result) c.as_slice.ensures.value c.parsed.ensures) f is)

pub returns-in-Ok-clause-no_program : goal.returns-in-Ok-clause-no_program
returns-in-Ok-clause-no_program c = λ f is.
    parses_says c.args.text.now (Err f) (fault_by_tokens c.args.text.now c.in-Ok.tokens.items (c.in-Ok.ensures {u = tt}).tokens c.parsed.result
    (subst (λ ts. Answers (parsed c.args.text.now ts) c.parsed.result) c.as_slice.ensures.value c.parsed.ensures) f is)

pub returns-in-Err-Fault-clause-fault : goal.returns-in-Err-Fault-clause-fault
returns-in-Err-Fault-clause-fault c = λ f is.
    let same : c.unreadable.result ≡ f = cc in
    let text = c.args.text.now in
    answer_alone text (Err f) (subst (λ g. Parses text (Err g)) (sym (c.unreadable.ensures ∙ ap (unreadable_at text) c.in-Err-Fault.fault-is) ∙ same)
    (unreadable c.in-Err-Fault.fault (subst (IsRefusedFor text) c.in-Err-Fault.field-0-is (c.in-Err-Fault.ensures {u = tt}).refused).place))

pub returns-in-Err-Fault-clause-no_program : goal.returns-in-Err-Fault-clause-no_program
returns-in-Err-Fault-clause-no_program c = λ f is.
    let same : c.unreadable.result ≡ f = cc in
    let text = c.args.text.now in
    parses_says text (Err f) (subst (λ g. Parses text (Err g)) (sym (c.unreadable.ensures ∙ ap (unreadable_at text) c.in-Err-Fault.fault-is) ∙ same)
    (unreadable c.in-Err-Fault.fault (subst (IsRefusedFor text) c.in-Err-Fault.field-0-is (c.in-Err-Fault.ensures {u = tt}).refused).place))
