-- What the look-up keeps of the classes that a text declares, and which class a name finds. This project's own.
use Rattle.std.specs.Prelude.{◌≡◌, ℕ, if◌then◌else◌, List, [], ◌∷◌, ◌++◌, length, map, bytes_eq}
use Rattle.std.specs.HashMap.{HashMap, get_by}
use Rattle.il_model.specs.declared.written.WrittenClass.{WrittenClass}
use Rattle.il_model.specs.Lexemes.{is_among}
use Rattle.il_model.specs.Spellings.{plain_name}
use Rattle.il_model.specs.Library.{library_classes}
use Rattle.il_model.specs.Names.{Scope, place_of}
use Rattle.il_model.specs.LookUp.{Known}

-- the names of the library's classes
abbrev pub library_names : List (List ℕ)
library_names = map (λ c. c.name) library_classes

-- the names of all classes, those of the library first
abbrev pub declared_names : List WrittenClass → List (List ℕ)
declared_names classes = library_names ++ map (λ c. c.name.name) classes

-- how many type variables each class has
abbrev pub declared_arities : List WrittenClass → List ℕ
declared_arities classes = map (λ c. length c.vars) library_classes ++ map (λ c. length c.vars) classes

abbrev pub declared : List WrittenClass → List (List ℕ) → Known
declared classes literals = record { names = declared_names classes; arities = declared_arities classes; literals = literals }

abbrev pub declared_scope : List WrittenClass → ℕ → ℕ → Scope
declared_scope classes of_class of_method =
    record { names = declared_names classes; arities = declared_arities classes; of_class = of_class; of_method = of_method }

-- the table has the first place of each of these names, and no other name
pub record FindsPlaces {K S : Type 0} (items : K → List ℕ) (table : HashMap K ℕ S) (names : List (List ℕ)) : Type 0 where
  pub place : (name : List ℕ) → get_by (λ k. bytes_eq name (items k)) table ≡ place_of names name

-- the table has the first place of each class by its plain name
abbrev pub FindsClasses : {K S : Type 0} → (K → List ℕ) → HashMap K ℕ S → List WrittenClass → Type 0
FindsClasses items table classes = FindsPlaces items table (map plain_name (declared_names classes))

-- the names that were met, with one more in front unless it is among them
abbrev pub met_with : List (List ℕ) → List ℕ → List (List ℕ)
met_with met name = if is_among met name then met else name ∷ met

-- the names that were met, with these in front in their order, unless they are among them
abbrev pub names_before : List (List ℕ) → List (List ℕ) → List (List ℕ)
names_before [] met = met
names_before (name ∷ names) met = met_with (names_before names met) name
