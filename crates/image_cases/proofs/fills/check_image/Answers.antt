use Rattle.aot_image.specs.ImageForm.{data_of}
use Rattle.image_cases.proofs.fills.check_image.Goals as goal

pub check_fills-requires : goal.check_fills-requires
check_fills-requires g c = c.images_have_catalogues.ensures (data_of c.args.image.now) c.requires
