use Rattle.std.proofs.Common.{◌≤◌, sym, arith}
use Rattle.rt_service.proofs.SlotLemmas.{no_slot}
use Rattle.rt_service.proofs.typing.slot_of.Goals as goal

pub returns-in-Err : goal.returns-in-Err
returns-in-Err c =
    let far : 224 ≤ c.args.ordinal = omega (arith, c.in-Err.ensures) in
    sym (no_slot c.args.program.now c.args.exact.now c.args.interface.now c.args.ordinal c.requires.types.hierarchy (record { rule = λ number class class_is is. c.requires.few.each number class is }) far)
