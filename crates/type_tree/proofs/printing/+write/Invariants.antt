use Rattle.std.proofs.Common.{◌≡◌, ◌++◌, map, take}
use Rattle.type_tree.specs.Printed.{printed, listed}
use Rattle.type_tree.proofs.printing.+write.Given as goal

abbrev pub invariant-write_list-loop-i : goal.invariant-write_list-loop-i
invariant-write_list-loop-i l = l.text.items ≡ l.initial.text.items ++ listed (map (printed l.names) (take l.i l.parts))
