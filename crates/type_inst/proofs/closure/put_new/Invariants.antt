use Rattle.std.proofs.Common.{◌≡◌, ◌++◌, List, fold, take}
use Rattle.type_tree.specs.declared.tree.TExpr.{TExpr}
use Rattle.il_model.specs.Trees.{with_new}
use Rattle.type_inst.proofs.closure.put_new.Given as goal

abbrev pub invariant-loop-each : goal.invariant-loop-each
invariant-loop-each l =
    (l.all ≡ fold with_new l.initial.all (take l.each-index l.steps)) × ((front : List TExpr) → l.initial.all ≡ front ++ l.initial.next → l.all ≡ front ++ l.next)
