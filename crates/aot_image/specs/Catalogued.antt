-- The catalogue of an image. This project's own.
use Rattle.rgctx_template.specs.Catalogue.{CatData}
use Rattle.aot_image.specs.ImageSpelling.{ImageData}

-- the program of the image, its compiled bodies and its closed entries
abbrev pub catalogue_of : ImageData → CatData
catalogue_of image = record { program = image.program; bodies = image.bodies; got = image.got }
