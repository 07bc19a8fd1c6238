use Rattle.aot_image.proofs.CatalogueForm.{image-catalogue}
use Rattle.aot_image.proofs.laws.images_have_catalogues.Goals as goal

pub returns : goal.returns
returns c = image-catalogue
