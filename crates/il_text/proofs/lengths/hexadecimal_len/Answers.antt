use Rattle.std.proofs.Common.{◌∙◌, sym, ap, refl, length}
use Rattle.il_text.specs.Bytes.{is_hex_digit}
use Rattle.il_text.specs.Spelling.{is_run, is_led_by}
use Rattle.il_text.proofs.Longest.{shifted, longest_front-run, longest_front-led, longest_front-not_led}
use Rattle.il_text.proofs.lengths.hexadecimal_len.Goals as goal

pub returns-in_default-clause-value : goal.returns-in_default-clause-value
returns-in_default-clause-value c = sym (longest_front-not_led 48 (is_led_by 120 (is_run is_hex_digit)) (length c.args.bytes.now) c.args.bytes.now (c.in_default.ensures {u = tt}).none)

pub returns-in_default-after-clause-value : goal.returns-in_default-after-clause-value
returns-in_default-after-clause-value c =
    sym (longest_front-led 48 (is_led_by 120 (is_run is_hex_digit)) c.args.bytes.now c.in-Some.rest.now (c.in-Some.ensures {u = tt}).some refl
    ∙ ap (shifted 1) (longest_front-not_led 120 (is_run is_hex_digit) (length c.in-Some.rest.now) c.in-Some.rest.now (c.in_default-after.ensures {u = tt}).none))

pub returns-clause-value : goal.returns-clause-value
returns-clause-value c =
    c.and_first-2.ensures.value ∙ ap (shifted 1) (c.and_first.ensures.value ∙ ap (shifted 1) (c.run_len.ensures.value ∙ sym (longest_front-run is_hex_digit c.in-Some-after.digits.now))
    ∙ sym (longest_front-led 120 (is_run is_hex_digit) c.in-Some.rest.now c.in-Some-after.digits.now (c.in-Some-after.ensures {u = tt}).some refl))
    ∙ sym (longest_front-led 48 (is_led_by 120 (is_run is_hex_digit)) c.args.bytes.now c.in-Some.rest.now (c.in-Some.ensures {u = tt}).some refl)
