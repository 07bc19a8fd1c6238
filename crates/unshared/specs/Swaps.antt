-- How a word is read and written at once, as the meaning has it.
use Rattle.unshared.specs.declared.library.Swapping.{Swapping as SwappingHere}
use Rattle.unshared.specs.declared.library.Swapping.TheVariants as swapping
use Rattle.cil_meaning.specs.Groups.{Swapping, Exchanging, Comparing, Adding}

abbrev pub the_swapping : SwappingHere → Swapping
the_swapping swapping.Exchanging = Exchanging
the_swapping swapping.Comparing = Comparing
the_swapping swapping.Adding = Adding
