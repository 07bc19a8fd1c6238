use Rattle.std.proofs.Common.{◌≡◌, map, take}
use Rattle.type_tree.specs.Tree.{class_var}
use Rattle.il_model.specs.LookUp.{numbers_from}
use Rattle.cil_verify.proofs.own.variables.Given as goal

abbrev pub invariant-loop-i : goal.invariant-loop-i
invariant-loop-i l = l.all ≡ map class_var (numbers_from 0 (take l.i l.class.vars))
