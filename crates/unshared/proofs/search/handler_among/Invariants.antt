use Rattle.std.proofs.Common.{◌≡◌, List, drop}
use Rattle.type_tree.specs.declared.tree.TExpr.{TExpr}
use Rattle.type_inst.specs.Opening.{Extends}
use Rattle.unshared.specs.Growing.{Grown}
use Rattle.unshared.specs.Searched.{finds}
use Rattle.unshared.proofs.search.handler_among.Given as goal

abbrev pub invariant-loop-clause : goal.invariant-loop-clause
invariant-loop-clause l = record {
  grown : Grown l.initial.trees.kinds l.trees.kinds;
  so : (later : List TExpr) → Extends l.trees.kinds later →
      finds l.program later l.frame.method l.thrown.kind l.frame.at l.clauses l.initial.replies ≡ finds l.program later l.frame.method l.thrown.kind l.frame.at (drop l.clause-index l.clauses) l.replies;
}
