use Rattle.std.proofs.Common.{◌≡◌, ◌++◌, drop}
use Rattle.il_model.specs.LookUp.{numbers_from}
use Rattle.il_parse.proofs.named_classes.numbers_of.Given as goal

abbrev pub invariant-loop-method : goal.invariant-loop-method
invariant-loop-method l = numbers_from l.first l.fn.methods ≡ l.numbers ++ numbers_from l.next (drop l._method-index l.methods)
