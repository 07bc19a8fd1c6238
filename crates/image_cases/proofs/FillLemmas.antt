-- A fill that has more to do has not answered.
use Rattle.std.proofs.Common.{◌≡◌}
use Rattle.rgctx_fill.specs.declared.stage.FillStep.TheVariants as step
use Rattle.rgctx_fill.specs.declared.stage.Stage.{Stage}
use Rattle.rgctx_fill.specs.declared.stage.Stage.TheVariants as stage
use Rattle.rgctx_fill.specs.Turns.{given_at}
use Rattle.rgctx_fill.specs.Ready.{IsOn}

pub on_more : (s : Stage) → step.More ≡ given_at s → IsOn s
on_more (stage.Node place) more = tt
on_more (stage.NodeClaim place) more = tt
on_more (stage.Link depth row) more = tt
on_more (stage.Row depth row place) more = tt
on_more (stage.RowClaim depth row place) more = tt
on_more (stage.Tie depth row found) more = tt
on_more (stage.Entry row) more = tt
on_more (stage.Done value) more = absurd cc
