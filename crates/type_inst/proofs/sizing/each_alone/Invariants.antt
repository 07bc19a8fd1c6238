use Rattle.std.proofs.Common.{◌≡◌, map, take}
use Rattle.il_model.specs.declared.program.Program.{Program}
use Rattle.type_inst.specs.Sizing.{IsOpened, capped_words}
use Rattle.type_inst.proofs.sizing.each_alone.Given as goal

abbrev pub invariant-loop-i : goal.invariant-loop-i
invariant-loop-i l = (program : Program) → IsOpened program l.kinds l.places l.rows → l.all ≡ map (capped_words l.most program) (take l.i l.kinds)
