use Rattle.std.proofs.Common.{◌≡◌, ◌-◌, ◌++◌, flat_map, take}
use Rattle.il_model.specs.Trees.{trees_within}
use Rattle.il_model.specs.Entries.{arguments_of}
use Rattle.type_inst.proofs.limited.+put_trees.Given as goal

abbrev pub decreases-put_trees : goal.decreases-put_trees
decreases-put_trees l = l.levels

abbrev pub invariant-loop-part : goal.invariant-loop-part
invariant-loop-part l =
    l.all ≡ l.initial.all ++ flat_map (λ part. trees_within (l.levels - 1) part) (take l.part-index (arguments_of l.kind))
