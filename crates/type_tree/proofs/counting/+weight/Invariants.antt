use Rattle.std.proofs.Common.{◌≡◌, ◌-◌, ◌^◌, min, sum_by, take}
use Rattle.type_tree.specs.Positions.{weighted}
use Rattle.type_tree.proofs.counting.+weight.Given as goal

abbrev pub invariant-total_weight-loop-part : goal.invariant-total_weight-loop-part
invariant-total_weight-loop-part l =
    l.total ≡ min (sum_by (weighted l.class_sizes l.method_sizes) (take l.part-index l.parts)) (2 ^ 128 - 1)
