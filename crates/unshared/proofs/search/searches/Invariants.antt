use Rattle.std.proofs.Common.{◌≡◌, List, drop}
use Rattle.type_tree.specs.declared.tree.TExpr.{TExpr}
use Rattle.type_inst.specs.Opening.{Extends}
use Rattle.unshared.specs.Going.{the_thrown}
use Rattle.unshared.specs.Growing.{Grown}
use Rattle.unshared.specs.Held.{the_frames}
use Rattle.unshared.specs.Searched.{searched, left_places}
use Rattle.unshared.proofs.search.searches.Given as goal

abbrev pub invariant-loop-passed : goal.invariant-loop-passed
invariant-loop-passed l = record {
  grown : Grown l.initial.trees.kinds l.trees.kinds;
  same : l.frames ≡ l.initial.frames;
  so : (later : List TExpr) → Extends l.trees.kinds later →
      searched l.program later (the_thrown l.thrown) (the_frames l.initial.frames).frames (the_frames l.initial.frames).places l.initial.replies
      ≡ searched l.program later (the_thrown l.thrown) (drop l.passed (the_frames l.initial.frames).frames) (left_places l.passed (the_frames l.initial.frames).places) l.replies;
}
