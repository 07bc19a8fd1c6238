use Rattle.std.proofs.Common.{◌≡◌, ◌≤◌, ◌++◌, drop, map}
use Rattle.rv_isa.specs.Word.{word_of}
use Rattle.run_top.specs.WellFormed.{AllFind}
use Rattle.run_top.specs.Code.{image_of, instrs_of}
use Rattle.run_top.proofs.compile.compile.Given as goal

abbrev pub invariant-loop-op : goal.invariant-loop-op
invariant-loop-op l = (l.image.items ++ map word_of (instrs_of l.depth (drop l.op-index l.ops)) ≡ image_of l.ops) × AllFind l.depth (drop l.op-index l.ops) × (l.depth ≤ 120)
