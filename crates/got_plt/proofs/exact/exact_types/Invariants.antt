use Rattle.std.proofs.Common.{◌≡◌, take}
use Rattle.rgctx_template.specs.BodyRows.{exact_types}
use Rattle.got_plt.proofs.exact.exact_types.Given as goal

abbrev pub invariant-loop-part : goal.invariant-loop-part
invariant-loop-part l = l.types ≡ exact_types (take l.part-index l.parts)
