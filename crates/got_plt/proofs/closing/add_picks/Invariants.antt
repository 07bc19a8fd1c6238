use Rattle.std.proofs.Common.{◌≡◌, drop, flat_map}
use Rattle.rgctx_template.specs.Collected.{collected}
use Rattle.got_plt.specs.Closed.{closed_of}
use Rattle.got_plt.proofs.closing.add_picks.Given as goal

abbrev pub invariant-loop-pick : goal.invariant-loop-pick
invariant-loop-pick l =
    collected l.entries (flat_map (closed_of l.program) (drop l.pick-index l.picks)) ≡ collected l.initial.entries (flat_map (closed_of l.program) l.picks)
