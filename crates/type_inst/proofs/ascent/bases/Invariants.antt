use Rattle.std.proofs.Common.{◌≡◌, ◌-◌, ◌++◌, length}
use Rattle.il_model.specs.Bases.{upwards, bases_of}
use Rattle.type_inst.proofs.ascent.bases.Given as goal

abbrev pub invariant-loop : goal.invariant-loop
invariant-loop l = l.all ++ upwards l.program (length l.program.classes - l.counter) l.next ≡ bases_of l.program l.tree
