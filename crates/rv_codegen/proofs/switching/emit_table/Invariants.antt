use Rattle.std.proofs.Common.{◌≡◌, [], flat_map, take}
use Rattle.rv_codegen.specs.PlainItems.{jump_items}
use Rattle.rv_codegen.specs.Emitted.{data_of, with_items}
use Rattle.rv_codegen.proofs.switching.emit_table.Given as goal

abbrev pub invariant-loop-target : goal.invariant-loop-target
invariant-loop-target l = l.asm ≡ with_items l.fn.asm (flat_map (jump_items (data_of l.body) 0 []) (take l.target-index l.targets))
