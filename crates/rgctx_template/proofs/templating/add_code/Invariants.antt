use Rattle.std.proofs.Common.{◌≡◌, drop, flat_map}
use Rattle.il_model.specs.Entries.{entries_of}
use Rattle.rgctx_template.specs.Collected.{collected}
use Rattle.rgctx_template.proofs.templating.add_code.Given as goal

abbrev pub invariant-loop-op : goal.invariant-loop-op
invariant-loop-op l =
    collected l.entries (flat_map (entries_of l.program) (drop l.op-index l.code)) ≡ collected l.initial.entries (flat_map (entries_of l.program) l.code)
