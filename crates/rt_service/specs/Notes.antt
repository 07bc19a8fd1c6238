-- A fill under way, and what its turn is noted as. This project's own.
use Rattle.std.specs.Prelude.{ℕ}
use Rattle.interaction.specs.declared.turn.What.{What}
use Rattle.interaction.specs.declared.turn.What.TheVariants as noted
use Rattle.rgctx_template.specs.Catalogue.{CatData}
use Rattle.rgctx_fill.specs.declared.stage.FillNext.{FillNext}
use Rattle.rgctx_fill.specs.declared.stage.FillNext.TheVariants as next
use Rattle.rgctx_fill.specs.Turns.{FillData}
use Rattle.rgctx_fill.specs.Ready.{IsOn, IsReady}

abbrev pub noted_as : FillNext → What
noted_as (next.Load i) = noted.Load i
noted_as (next.Claim i word) = noted.Claim i
noted_as (next.Full r key) = noted.Action
noted_as next.Nothing = noted.Action

-- the fill is ready for its next turn
abbrev pub IsUnderWay : CatData → (ℕ → ℕ) → FillData → Type 0
IsUnderWay cat held f = IsOn f.stage × IsReady cat held f
