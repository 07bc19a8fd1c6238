use Rattle.std.proofs.Common.{◌∙◌, sym, ap, refl, length}
use Rattle.il_text.specs.Spelling.{is_class_variable}
use Rattle.il_text.proofs.Longest.{shifted, longest_front-led, longest_front-not_led}
use Rattle.il_text.proofs.lengths.method_variable_len.Goals as goal

pub returns-in_default-clause-value : goal.returns-in_default-clause-value
returns-in_default-clause-value c = sym (longest_front-not_led 33 is_class_variable (length c.args.bytes.now) c.args.bytes.now (c.in_default.ensures {u = tt}).none)

pub returns-clause-value : goal.returns-clause-value
returns-clause-value c = c.and_first.ensures.value ∙ ap (shifted 1) (c.class_variable_len.ensures.value) ∙ sym (longest_front-led 33 is_class_variable c.args.bytes.now c.in-Some.rest.now (c.in-Some.ensures {u = tt}).some refl)
