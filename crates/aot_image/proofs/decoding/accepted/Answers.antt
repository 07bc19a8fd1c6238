use Rattle.aot_image.proofs.TextLemmas.{text_refused, none_of_none}
use Rattle.aot_image.proofs.decoding.accepted.Goals as goal

pub returns-in-Err-Fault : goal.returns-in-Err-Fault
returns-in-Err-Fault c =
    text_refused c.args.text.now c.bad_text.result c.bad_text.ensures (none_of_none c.args.text.now (c.parse.ensures.no_program c.in-Err-Fault.field-0-0 (cc)))
