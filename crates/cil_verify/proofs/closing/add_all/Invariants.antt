use Rattle.std.proofs.Common.{◌≡◌, fold, take}
use Rattle.il_model.specs.Trees.{with_new}
use Rattle.cil_verify.specs.TypeSets.{listed_in}
use Rattle.cil_verify.proofs.closing.add_all.Given as goal

abbrev pub invariant-loop-each : goal.invariant-loop-each
invariant-loop-each l = listed_in l.all ≡ fold with_new (listed_in l.initial.all) (take l.each-index l.kinds)
