-- What the picks that a choice leaves satisfy: of the conditions on a compiled body of an image (`IsKeptBody`), those that speak of its method and its key. This project's own.
use Rattle.std.specs.Prelude.{◌≡◌, ℕ, ◌+◌, ◌==◌, true, false, List, length, map, take, slice_get, Some}
use Rattle.std.specs.List.{list_any, list_all}
use Rattle.type_tree.specs.Tree.{has_variables_below}
use Rattle.il_model.specs.declared.method.Body.{Body}
use Rattle.il_model.specs.declared.method.MethodDef.{MethodDef}
use Rattle.il_model.specs.declared.key.BodyRow.{BodyRow}
use Rattle.il_model.specs.declared.program.Program.{Program}
use Rattle.il_model.specs.Found.{method_at}
use Rattle.il_model.specs.ClassRules.{has_counts}
use Rattle.rgctx_template.specs.Admitted.{is_admitted, is_bounded_throughout}
use Rattle.rgctx_template.specs.BodyRows.{exact_types, is_unmixed, vars_of_owner, key_meets, same_row, entry_method}
use Rattle.aot_image.specs.ChoosingPicks.{Pick}

-- a row whose method and key may stand behind those of these earlier ones, whatever its other numbers are
pub record IsKeptPick (program : Program) (earlier : List BodyRow) (row : BodyRow) : Type 0 where
  -- its method has a body, and is not the one in which started threads begin
  pub method : MethodDef
  pub is : method_at program row.method ≡ Some method
  pub body : Body
  pub has : method.body ≡ Some body
  pub compiled : (row.method == entry_method) ≡ false
  -- the exact types of its key have no variables; each class in them is there, and each head has the arguments that it wants
  pub closed : list_all (has_variables_below 0 0) (exact_types row.key.parts) ≡ true
  pub counts : list_all (has_counts program) (exact_types row.key.parts) ≡ true
  -- the key has a part for each variable, and does not mix those for every type with others
  pub parts : length row.key.parts ≡ length (vars_of_owner program method) + length method.vars
  pub unmixed : is_unmixed row.key.parts ≡ true
  -- the exact types are admitted, and the bounds are met: those of the types in them, and those of the variables
  pub admitted : list_all (is_admitted program) (exact_types row.key.parts) ≡ true
  pub bounds : list_all (is_bounded_throughout program) (exact_types row.key.parts) ≡ true
  pub meets : key_meets program (vars_of_owner program method) method.vars row.key.parts ≡ true
  -- no earlier row has the method and the key
  pub new : list_any (same_row row) earlier ≡ false

-- the method and the key of a row
abbrev pub pick_in : BodyRow → Pick
pick_in row = (row.method, row.key)

-- rows that have these methods and keys, in order, and whatever other numbers: each is kept behind those before it
pub record AreKeptPicks (program : Program) (picks : List Pick) : Type 0 where
  pub each : (rows : List BodyRow) (k : ℕ) (row : BodyRow) → map pick_in rows ≡ picks → slice_get rows k ≡ Some row → IsKeptPick program (take k rows) row
