-- Words over which fills of an image go on. This project's own.
use Rattle.std.specs.Prelude.{ℕ, List, slice_index}
use Rattle.rgctx_words.specs.Held.{AreFit}
use Rattle.rgctx_template.specs.declared.catalogue.Catalogue.{Catalogue}
use Rattle.rgctx_template.specs.Catalogue.{data_of}
use Rattle.rgctx_fill.specs.Fitting.{AreFitting}

-- these are as many words as there are, and they fit under the catalogue
abbrev pub Meets : Catalogue → List ℕ → Type 0
Meets cat words = AreFit (λ ws. AreFitting (data_of cat) (λ i. slice_index ws i)) words
