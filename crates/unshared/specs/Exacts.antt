-- Exact types of the code, as those of the meaning.
use Rattle.unshared.specs.declared.exact.Exact.{Exact as ExactHere}
use Rattle.unshared.specs.declared.exact.Exact.TheVariants as exact
use Rattle.cil_meaning.specs.Pieces.{Exact, Text, Numbered}

abbrev pub the_exact : ExactHere → Exact
the_exact exact.Text = Text
the_exact (exact.Numbered number) = Numbered number
