use Rattle.rgctx_fill.proofs.WholeImage.{image-fillable}
use Rattle.rgctx_fill.proofs.laws.image_catalogues_are_fillable.Goals as goal

pub returns : goal.returns
returns c = image-fillable
