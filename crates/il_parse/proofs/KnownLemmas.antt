-- What a text declares.
use Rattle.std.proofs.Common.{◌≡◌, ℕ, List, ap}
use Rattle.il_model.specs.declared.written.WrittenClass.{WrittenClass}
use Rattle.il_model.specs.LookUp.{known_of}
use Rattle.il_parse.specs.Scopes.{declared}

-- the classes of a text with the literals of the text are what the text declares
pub declared_is : (classes : List WrittenClass) (literals : List (List ℕ)) → literals ≡ (known_of classes).literals → declared classes literals ≡ known_of classes
declared_is classes literals is = ap (declared classes) is
