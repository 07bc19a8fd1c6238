-- Places of a text with their lines and columns. This project's own.
use Rattle.std.specs.Prelude.{◌≡◌, ◌≤◌, ℕ, List, [], length, take}
use Rattle.il_text.specs.declared.place.Spot.{Spot}
use Rattle.il_text.specs.Places.{spot_after}
use Rattle.il_model.specs.declared.class.ClassDef.{ClassDef}
use Rattle.il_parse.specs.declared.answer.Spots.{Spots}
use Rattle.il_parse.specs.Answer.{library_spot}

-- the text is no longer than texts may be, and this offset in it has this line and column
pub record IsPlace (text : List ℕ) (at : ℕ) (spot : Spot) : Type 0 where
  pub short : length text ≤ 4194304
  pub inside : at ≤ length text
  pub stands : spot ≡ spot_after (take at text)

-- the places of one of the library's classes, which has no code
abbrev pub spots_of_library_class : ClassDef → Spots
spots_of_library_class c = record { declared = library_spot; code = [] }
