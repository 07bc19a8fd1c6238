use Rattle.std.proofs.Common.{◌≡◌, List, [], drop}
use Rattle.type_tree.specs.declared.tree.TExpr.{TExpr}
use Rattle.type_inst.specs.Opening.{Extends}
use Rattle.unshared.specs.Growing.{Grown}
use Rattle.unshared.specs.Settled.{settles_from}
use Rattle.unshared.proofs.mentions.settle_all.Given as goal

abbrev pub invariant-loop-entry : goal.invariant-loop-entry
invariant-loop-entry l = record {
  grown : Grown l.initial.trees.kinds l.trees.kinds;
  so : (later : List TExpr) → Extends l.trees.kinds later →
      settles_from l.program later l.method l.entries [] l.initial.replies ≡ settles_from l.program later l.method (drop l.entry-index l.entries) l.numbers.items l.replies;
}
