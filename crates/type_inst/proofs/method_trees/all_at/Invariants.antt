use Rattle.std.proofs.Common.{◌≡◌, map, take}
use Rattle.il_model.specs.Bases.{with_args_of}
use Rattle.type_inst.proofs.method_trees.all_at.Given as goal

abbrev pub invariant-loop-part : goal.invariant-loop-part
invariant-loop-part l = l.all ≡ map (with_args_of l.kind) (take l.part-index l.parts)
