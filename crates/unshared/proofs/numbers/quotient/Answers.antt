use Rattle.unshared.proofs.DividedLemmas.{quotient_is}
use Rattle.unshared.proofs.numbers.quotient.Goals as goal

pub returns : goal.returns
returns c = quotient_is c.args.width c.args.a c.args.b c.cast_unsigned.result c.wrapped.result c.cast_signed.result c.cast_signed-2.result c.wrapping_div-number.result c.ranges.a.fits c.ranges.b.fits c.requires.dividend c.cast_signed.ensures c.cast_signed-2.ensures c.wrapping_div-number.ensures c.cast_unsigned.ensures c.wrapped.ensures
