use Rattle.std.proofs.Common.{◌≡◌, map, drop}
use Rattle.il_model.specs.Entries.{closed_entry}
use Rattle.rgctx_template.specs.Collected.{collected}
use Rattle.got_plt.proofs.closing.add_closed.Given as goal

abbrev pub invariant-loop-entry : goal.invariant-loop-entry
invariant-loop-entry l =
    collected l.entries (map (closed_entry l.class_args l.method_args) (drop l.entry-index l.written)) ≡ collected l.initial.entries (map (closed_entry l.class_args l.method_args) l.written)
