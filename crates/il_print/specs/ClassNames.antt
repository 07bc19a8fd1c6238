-- The names of classes, by number. This project's own.
use Rattle.std.specs.Prelude.{List, map}
use Rattle.il_model.specs.declared.class.ClassDef.{ClassDef}
use Rattle.il_model.specs.Canonical.{Word}

abbrev pub names_of : List ClassDef → List Word
names_of classes = map (λ c. c.name) classes
