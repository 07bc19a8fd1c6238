use Rattle.std.proofs.Common.{◌≡◌, false, flat_map, take}
use Rattle.std.specs.List.{list_any}
use Rattle.il_model.specs.Admission.{closure_of, is_large}
use Rattle.type_inst.specs.Reaching.{TestAlike}
use Rattle.type_inst.proofs.limited.closures_of.Given as goal

abbrev pub invariant-loop-root : goal.invariant-loop-root
invariant-loop-root l = (list_any is_large l.all ≡ false) × TestAlike l.all (flat_map (closure_of l.program) (take l.root-index l.roots))
