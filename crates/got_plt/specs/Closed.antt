-- The closed entries of an image: what its exact bodies fetch. This project's own.
use Rattle.std.specs.Prelude.{ℕ, Bool, if◌then◌else◌, List, [], length, map, flat_map, take, drop, Option, Some, None}
use Rattle.std.specs.List.{list_all}
use Rattle.type_tree.specs.declared.tree.TExpr.{TExpr}
use Rattle.il_model.specs.declared.method.MethodDef.{MethodDef}
use Rattle.il_model.specs.declared.key.Key.{Key}
use Rattle.il_model.specs.declared.key.KeyPart.{KeyPart}
use Rattle.il_model.specs.declared.entry.Entry.{Entry}
use Rattle.il_model.specs.declared.entry.Def.TheVariants as def
use Rattle.il_model.specs.declared.program.Program.{Program}
use Rattle.il_model.specs.Found.{method_at}
use Rattle.il_model.specs.Entries.{closed_entry, once, template_of}
use Rattle.share_canon.specs.Keys.{is_exact}
use Rattle.rgctx_template.specs.BodyRows.{exact_types, vars_of_owner}

-- whether a key serves one instantiation alone
abbrev pub is_exact_key : List KeyPart → Bool
is_exact_key parts = list_all is_exact parts

-- the template of a method, with these types put for the variables: those of its class first, then its own
abbrev pub closed_template : Program → ℕ → List TExpr → Option MethodDef → List Entry
closed_template program number types None = []
closed_template program number types (Some m) =
    map (closed_entry (take (length (vars_of_owner program m)) types) (drop (length (vars_of_owner program m)) types)) (template_of program (def.Method number))

-- what the body of a pick fetches from the rows of the image's node: all that its template has, where the key is exact
abbrev pub closed_of_key : Program → ℕ → List KeyPart → List Entry
closed_of_key program number parts =
    if is_exact_key parts then closed_template program number (exact_types parts) (method_at program number) else []

abbrev pub closed_of : Program → ℕ × Key → List Entry
closed_of program pick = closed_of_key program pick.0 pick.1.parts

-- the closed entries of the picks, in order, each once
abbrev pub closed_entries : Program → List (ℕ × Key) → List Entry
closed_entries program picks = once [] (flat_map (closed_of program) picks)
