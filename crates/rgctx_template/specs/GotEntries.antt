-- The conditions on the closed entries of an image, each with a name. A row of the image is refused where one of them does not hold. This project's own.
use Rattle.std.specs.Prelude.{◌≡◌, ℕ, suc, ◌<◌, ◌==◌, max, fold, Bool, true, false, List, [], ◌∷◌, length, take, slice_get, is_some, nat_le, Some, option_to_list}
use Rattle.std.specs.List.{list_any, list_all}
use Rattle.type_tree.specs.declared.tree.TExpr.{TExpr}
use Rattle.type_tree.specs.declared.tree.TNode.{TNode}
use Rattle.type_tree.specs.declared.tree.TNode.TheVariants.{Node, ClassVar, MethodVar}
use Rattle.type_tree.specs.Tree.{folded, has_variables_below}
use Rattle.type_tree.specs.Positions.{positions_of}
use Rattle.il_model.specs.declared.entry.Entry.{Entry}
use Rattle.il_model.specs.declared.entry.Entry.TheVariants as entry
use Rattle.il_model.specs.declared.program.Program.{Program}
use Rattle.il_model.specs.Find.{class_number_of, class_of}
use Rattle.il_model.specs.Found.{method_at}
use Rattle.il_model.specs.Entries.{is_listed}
use Rattle.il_model.specs.Layouts.{fields_in}
use Rattle.il_model.specs.ClassRules.{has_counts, is_number}
use Rattle.rgctx_template.specs.Admitted.{is_bounded_throughout, is_bounded_method}

-- ---- sizes

abbrev pub largest : List ℕ → ℕ
largest numbers = fold max 0 numbers

-- one level of a type, with its levels in place of each tree below
abbrev pub level_depth : TNode ℕ → ℕ
level_depth (Node h parts) = suc (largest parts)
level_depth (ClassVar n) = 1
level_depth (MethodVar n) = 1

-- the levels of a type, the root being one
abbrev pub levels_of : TExpr → ℕ
levels_of = folded level_depth

-- the most positions of a tree in a closed entry
abbrev pub most_entry_positions : ℕ
most_entry_positions = 16777216

-- the most levels of a tree in a closed entry
abbrev pub most_entry_levels : ℕ
most_entry_levels = 768

-- the most closed entries of an image
abbrev pub most_closed_entries : ℕ
most_closed_entries = 1792

-- ---- what an entry names

abbrev pub trees_of : Entry → List TExpr
trees_of (entry.Kind t) = t ∷ []
trees_of (entry.Method number c args) = c ∷ args
trees_of (entry.Size t) = t ∷ []
trees_of (entry.Extent t) = t ∷ []
trees_of (entry.Offset c place) = c ∷ []
trees_of (entry.Slot number) = []

abbrev pub is_slot : Entry → Bool
is_slot (entry.Kind t) = false
is_slot (entry.Method number c args) = false
is_slot (entry.Size t) = false
is_slot (entry.Extent t) = false
is_slot (entry.Offset c place) = false
is_slot (entry.Slot number) = true

-- whether the class that a type names has the method with this number itself
abbrev pub has_own_method : Program → TExpr → ℕ → Bool
has_own_method program c number = list_any (λ m. is_number m.owner (class_number_of c)) (option_to_list (method_at program number))

-- whether the class that a type names has a field of its own at this place
abbrev pub has_own_field : Program → TExpr → ℕ → Bool
has_own_field program c place = is_some (slice_get (fields_in (class_of program c)) place)

-- whether the method or the field that an entry names is there, and is its class's own
abbrev pub has_member : Program → Entry → Bool
has_member program (entry.Kind t) = true
has_member program (entry.Method number c args) = has_own_method program c number
has_member program (entry.Size t) = true
has_member program (entry.Extent t) = true
has_member program (entry.Offset c place) = has_own_field program c place
has_member program (entry.Slot number) = true

-- whether the method that an entry names has as many arguments of its own as variables
abbrev pub has_arguments : Program → Entry → Bool
has_arguments program (entry.Kind t) = true
has_arguments program (entry.Method number c args) = list_all (λ m. length args == length m.vars) (option_to_list (method_at program number))
has_arguments program (entry.Size t) = true
has_arguments program (entry.Extent t) = true
has_arguments program (entry.Offset c place) = true
has_arguments program (entry.Slot number) = true

-- whether the arguments of the method that an entry names, where it is admitted, meet the bounds of its own variables
abbrev pub meets_method_bounds : Program → Entry → Bool
meets_method_bounds program (entry.Kind t) = true
meets_method_bounds program (entry.Method number c args) = list_all (is_bounded_method program c args) (option_to_list (method_at program number))
meets_method_bounds program (entry.Size t) = true
meets_method_bounds program (entry.Extent t) = true
meets_method_bounds program (entry.Offset c place) = true
meets_method_bounds program (entry.Slot number) = true

-- ---- the conditions

-- a closed entry that may stand behind these earlier ones
pub record IsKeptEntry (program : Program) (earlier : List Entry) (e : Entry) : Type 0 where
  -- it is no slot
  pub kind : is_slot e ≡ false
  -- its trees have no variables
  pub closed : list_all (has_variables_below 0 0) (trees_of e) ≡ true
  -- its method or field is there, and is its class's
  pub member : has_member program e ≡ true
  -- its method has as many arguments as variables; in its trees each class is there, and each head has the arguments that it wants
  pub arguments : has_arguments program e ≡ true
  pub counts : list_all (has_counts program) (trees_of e) ≡ true
  -- its trees are not too large
  pub positions : list_all (λ t. nat_le (positions_of t) most_entry_positions) (trees_of e) ≡ true
  pub levels : list_all (λ t. nat_le (levels_of t) most_entry_levels) (trees_of e) ≡ true
  -- what is admitted of it meets its bounds
  pub bounds : list_all (is_bounded_throughout program) (trees_of e) ≡ true
  pub method_bounds : meets_method_bounds program e ≡ true
  -- it stands there once, and among the first
  pub new : is_listed earlier e ≡ false
  pub few : length earlier < most_closed_entries

-- the closed entries of an image
pub record AreKeptEntries (program : Program) (got : List Entry) : Type 0 where
  pub each : (k : ℕ) (e : Entry) → slice_get got k ≡ Some e → IsKeptEntry program (take k got) e
