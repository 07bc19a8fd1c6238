use Rattle.aot_image.specs.ImageForm.{BodyFits}
use Rattle.aot_image.proofs.WritingLemmas.{holds_each}
use Rattle.aot_image.proofs.encoding.put_bodies.Goals as goal

pub put_body-requires : goal.put_body-requires
put_body-requires c = holds_each BodyFits c.args.bodies.now c.loop-row.row-index c.row-item.result c.loop-row-test.true c.row-item.is c.requires
