use Rattle.std.proofs.Common.{◌≡◌, map, take}
use Rattle.type_tree.specs.Substitution.{substituted}
use Rattle.type_tree.proofs.substitution.+filled.Given as goal

abbrev pub invariant-filled_all-loop-part : goal.invariant-filled_all-loop-part
invariant-filled_all-loop-part l = l.trees ≡ map (substituted l.class_args l.method_args) (take l.part-index l.parts)
