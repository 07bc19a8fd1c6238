use Rattle.std.proofs.Common.{◌+◌, ◌*◌, ◌<◌, get_or, arith}
use Rattle.il_text.specs.Spelling.{digit_value}
use Rattle.il_text.proofs.ValueLemmas.{digits_past}
use Rattle.il_parse.proofs.literals.digits_value.Goals as goal

pub returns-in_err-checked_mul-clause-none : goal.returns-in_err-checked_mul-clause-none
returns-in_err-checked_mul-clause-none c =
    let past : 18446744073709551615 < c.args.base * c.loop-d.value + digit_value (get_or c.args.digits.now c.loop-d.d-index 0) = omega (arith, c.in_err-checked_mul.ensures {u = tt}) in
    rw c.from_residual.ensures (digits_past c.args.base c.loop-d.value c.loop-d.d-index 18446744073709551615 c.args.digits.now c.requires c.loop-d-test.true c.loop-d.invariant past)

pub returns-in_err-value-clause-none : goal.returns-in_err-value-clause-none
returns-in_err-value-clause-none c =
    let past : 18446744073709551615 < c.args.base * c.loop-d.value + digit_value (get_or c.args.digits.now c.loop-d.d-index 0) = omega (arith, c.in_err-value.ensures {u = tt}, c.in_ok-checked_mul.ensures {u = tt}, c.from.ensures, c.digit_value.ensures) in
    rw c.from_residual-in_err-value.ensures (digits_past c.args.base c.loop-d.value c.loop-d.d-index 18446744073709551615 c.args.digits.now c.requires c.loop-d-test.true c.loop-d.invariant past)
