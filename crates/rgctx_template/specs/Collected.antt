-- A list of entries as it grows: each entry is put at the end unless it stands there already. This project's own.
use Rattle.std.specs.Prelude.{fold, List, [], ◌∷◌, ◌++◌, if◌then◌else◌}
use Rattle.il_model.specs.declared.entry.Entry.{Entry}
use Rattle.il_model.specs.Entries.{is_listed}

-- the list with the entry at its end, unless it is listed
abbrev pub added : List Entry → Entry → List Entry
added listed e = if is_listed listed e then listed else (listed ++ e ∷ [])

-- the list with these entries added in order
abbrev pub collected : List Entry → List Entry → List Entry
collected listed es = fold added listed es
