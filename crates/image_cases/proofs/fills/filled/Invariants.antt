use Rattle.std.proofs.Common.{slice_index}
use Rattle.rgctx_template.specs.Catalogue.{data_of}
use Rattle.rgctx_fill.specs.Ready.{IsReady, IsOn}
use Rattle.image_cases.specs.Filling.{Meets}
use Rattle.image_cases.proofs.fills.filled.Given as goal

abbrev pub invariant-loop : goal.invariant-loop
invariant-loop l = Meets l.fn.cat l.words × (IsReady (data_of l.fn.cat) (slice_index l.words) l.fill × IsOn l.fill.stage)
