use Rattle.std.proofs.Common.{◌≡◌, map, take}
use Rattle.il_model.specs.Bases.{with_args_of}
use Rattle.type_inst.proofs.steps.with_args.Given as goal

abbrev pub invariant-loop-part : goal.invariant-loop-part
invariant-loop-part l = l.all ≡ map (with_args_of l.kind) (take l.part-index l.parts)
