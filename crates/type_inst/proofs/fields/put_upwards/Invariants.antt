use Rattle.std.proofs.Common.{◌≡◌, ◌++◌, flat_map, take}
use Rattle.std.specs.Prelude.{reverse}
use Rattle.il_model.specs.Layouts.{own_kinds_of}
use Rattle.type_inst.proofs.fields.put_upwards.Given as goal

abbrev pub invariant-loop-i : goal.invariant-loop-i
invariant-loop-i l = l.all ≡ l.initial.all ++ flat_map (own_kinds_of l.program) (take l.i (reverse l.chain))
