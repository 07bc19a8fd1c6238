use Rattle.std.proofs.Common.{◌≡◌, map, take}
use Rattle.il_model.specs.Slots.{method_tree_at}
use Rattle.type_inst.proofs.method_trees.methods_at.Given as goal

abbrev pub invariant-loop-method : goal.invariant-loop-method
invariant-loop-method l = l.all ≡ map (method_tree_at l.kind) (take l.method-index l.methods)
