-- What the tables of names keep. This project's own.
use Rattle.std.specs.Prelude.{◌≡◌, ◌≤◌, ℕ, List, length, count_by, bytes_eq, unwrap_or}
use Rattle.std.specs.HashMap.{HashMap, get_by}
use Rattle.il_model.specs.declared.program.Program.{Program}
use Rattle.il_model.specs.Names.{place_of, plain_names}
use Rattle.aot_image.specs.declared.choice_names.Tables.{Tables}
use Rattle.aot_image.specs.ChoosingMethods.{full_texts}

-- the table has the first place of each of these names, and no other name
pub record FindsPlaces {K S : Type 0} (items : K → List ℕ) (table : HashMap K ℕ S) (names : List (List ℕ)) : Type 0 where
  pub place : (name : List ℕ) → get_by (λ k. bytes_eq name (items k)) table ≡ place_of names name

-- the table has how often each name stands among these
pub record Counts {K S : Type 0} (items : K → List ℕ) (table : HashMap K ℕ S) (names : List (List ℕ)) : Type 0 where
  pub count : (k : K) → unwrap_or (get_by (λ other. bytes_eq (items k) (items other)) table) 0 ≡ count_by (bytes_eq (items k)) names

-- the tables of a program whose classes and methods are numbered in 16 bits
pub record AreTablesOf (program : Program) (tables : Tables) : Type 0 where
  pub classes : FindsPlaces (λ k. k.items) tables.classes (plain_names program.classes)
  pub methods : FindsPlaces (λ k. k.items) tables.methods (full_texts program)
  pub few_classes : length program.classes ≤ 65536
  pub few_methods : length program.methods ≤ 65536
