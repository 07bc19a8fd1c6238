use Rattle.std.proofs.Common.{◌≡◌, ◌^◌, nat_lt, false, arith}
use Rattle.std.proofs.lemmas.Bool.Decides.{nat_tests}
use Rattle.rgctx_template.specs.Catalogue.{data_of}
use Rattle.rt_service.proofs.PointerLemmas.{to_statics}
use Rattle.rt_service.proofs.pointing.target_of.Goals as goal

pub returns-else-pointer-lt-STATICS-clause-inside : goal.returns-else-pointer-lt-STATICS-clause-inside
returns-else-pointer-lt-STATICS-clause-inside g c = c.static_target.ensures.inside c.args.state.now.stack

pub returns-else-pointer-lt-STATICS-clause-goes : goal.returns-else-pointer-lt-STATICS-clause-goes
returns-else-pointer-lt-STATICS-clause-goes g c = λ cat meets h within im frame store said new made.
    let low : nat_lt c.args.pointer (2 ^ 62) ≡ false = grind (arith, nat_tests, c.if-pointer-lt-OBJECTS.false) in
    let high : nat_lt c.args.pointer (2 ^ 63) ≡ false = grind (arith, nat_tests, c.if-pointer-lt-STATICS.false) in
    to_statics (data_of cat) h c.args.state.now said new im c.args.pointer frame store low high (c.static_target.ensures.goes cat meets h within im c.args.state.now frame store said new made)
