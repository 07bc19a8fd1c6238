use Rattle.std.proofs.Common.{◌∙◌, ◌++◌, append-nil, sym, ap}
use Rattle.std.proofs.Math.ListN.{drop_of_length-le}
use Rattle.il_model.specs.LookUp.{numbers_from}
use Rattle.il_parse.proofs.named_classes.numbers_of.Goals as goal

pub returns : goal.returns
returns c =
    sym (append-nil c.loop-method.numbers) ∙ ap (λ ms. c.loop-method.numbers ++ numbers_from c.loop-method.next ms) (sym (drop_of_length-le c.args.methods.now c.loop-method-test.false))
    ∙ sym c.loop-method.invariant
