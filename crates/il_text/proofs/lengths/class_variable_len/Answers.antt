use Rattle.std.proofs.Common.{◌∙◌, sym, ap, refl, length}
use Rattle.il_text.specs.Bytes.{is_digit}
use Rattle.il_text.specs.Spelling.{is_run}
use Rattle.il_text.proofs.Longest.{shifted, longest_front-run, longest_front-led, longest_front-not_led}
use Rattle.il_text.proofs.lengths.class_variable_len.Goals as goal

pub returns-in_default-clause-value : goal.returns-in_default-clause-value
returns-in_default-clause-value c = sym (longest_front-not_led 33 (is_run is_digit) (length c.args.bytes.now) c.args.bytes.now (c.in_default.ensures {u = tt}).none)

pub returns-clause-value : goal.returns-clause-value
returns-clause-value c = c.and_first.ensures.value ∙ ap (shifted 1) (c.run_len.ensures.value ∙ sym (longest_front-run is_digit c.in-Some.digits.now)) ∙ sym (longest_front-led 33 (is_run is_digit) c.args.bytes.now c.in-Some.digits.now (c.in-Some.ensures {u = tt}).some refl)
