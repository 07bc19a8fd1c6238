-- Operands of an exchange of the code, as those of the definition.
use Rattle.unshared.specs.declared.library.Given.{Given as GivenHere}
use Rattle.unshared.specs.Served.{Given}

abbrev pub the_given : GivenHere → Given
the_given g = record { word = g.word; comparand = g.comparand; above = g.above; taken = g.taken }
