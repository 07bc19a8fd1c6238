-- The conditions on the compiled bodies of an image, each with a name. A row of the image is refused where one of them does not hold. This project's own.
use Rattle.std.specs.Prelude.{◌≡◌, ℕ, suc, ◌+◌, ◌==◌, Bool, true, false, not, ◌&&◌, ◌||◌, List, [], ◌∷◌, ◌++◌, length, flat_map, zip, take, drop, slice_get, nat_le, nat_lt, Some, option_to_list}
use Rattle.std.specs.List.{list_any, list_all}
use Rattle.std.specs.Cmp.Lexicographic.{pointwise}
use Rattle.type_tree.specs.declared.tree.TExpr.{TExpr}
use Rattle.type_tree.specs.Same.{is_same}
use Rattle.type_tree.specs.Tree.{class_var, method_var, has_variables_below}
use Rattle.type_tree.specs.Substitution.{substituted}
use Rattle.il_model.specs.declared.class.VarDef.{VarDef}
use Rattle.il_model.specs.declared.method.Body.{Body}
use Rattle.il_model.specs.declared.method.MethodDef.{MethodDef}
use Rattle.il_model.specs.declared.key.KeyPart.{KeyPart}
use Rattle.il_model.specs.declared.key.KeyPart.TheVariants as part
use Rattle.il_model.specs.declared.key.BodyRow.{BodyRow}
use Rattle.il_model.specs.declared.program.Program.{Program}
use Rattle.il_model.specs.Found.{method_at}
use Rattle.il_model.specs.Assignable.{meets_bound}
use Rattle.il_model.specs.ClassRules.{has_counts}
use Rattle.rgctx_template.specs.Admitted.{is_admitted, no_variables, is_bounded_throughout}

-- ---- keys

-- whether a part serves every type
abbrev pub is_any : KeyPart → Bool
is_any part.Ref = false
is_any part.Any = true
is_any (part.Exact t) = false

abbrev pub exact_type : KeyPart → List TExpr
exact_type part.Ref = []
exact_type part.Any = []
exact_type (part.Exact t) = t ∷ []

abbrev pub exact_types : List KeyPart → List TExpr
exact_types parts = flat_map exact_type parts

-- whether all parts serve every type, or none does
abbrev pub is_unmixed : List KeyPart → Bool
is_unmixed parts = not (list_any is_any parts) || list_all is_any parts

-- the variables of the class that has a method
abbrev pub vars_of_owner : Program → MethodDef → List VarDef
vars_of_owner program m = flat_map (λ c. c.vars) (option_to_list (slice_get program.classes m.owner))

-- what a part gives for a variable, which stays where the part is not exact
abbrev pub argument_of_part : TExpr → KeyPart → TExpr
argument_of_part variable part.Ref = variable
argument_of_part variable part.Any = variable
argument_of_part variable (part.Exact t) = t

-- the arguments that the parts give for the variables of a class from the number `n` on
abbrev pub class_arguments : ℕ → List KeyPart → List TExpr
class_arguments n [] = []
class_arguments n (p ∷ ps) = argument_of_part (class_var n) p ∷ class_arguments (suc n) ps

-- the same for the variables of a method
abbrev pub method_arguments : ℕ → List KeyPart → List TExpr
method_arguments n [] = []
method_arguments n (p ∷ ps) = argument_of_part (method_var n) p ∷ method_arguments (suc n) ps

-- whether a type meets a bound, with the arguments put; a bound that still has a variable then, whose part is not exact, is not judged
abbrev pub meets_judged : Program → List TExpr → List TExpr → TExpr → TExpr → Bool
meets_judged program class_args method_args t bound =
    not (has_variables_below 0 0 (substituted class_args method_args bound)) || meets_bound program no_variables t (substituted class_args method_args bound)

-- whether a part meets the bounds of its variable, of which those of a part that is not exact are not judged
abbrev pub part_meets : Program → List TExpr → List TExpr → VarDef × KeyPart → Bool
part_meets program class_args method_args e =
    list_all (λ t. list_all (meets_judged program class_args method_args t) e.0.bounds) (exact_type e.1)

-- whether the parts of a key meet the bounds of the class's variables and then of the method's
abbrev pub key_meets : Program → List VarDef → List VarDef → List KeyPart → Bool
key_meets program of_class of_method parts =
    list_all (part_meets program (class_arguments 0 (take (length of_class) parts)) (method_arguments 0 (drop (length of_class) parts)))
    (zip (of_class ++ of_method) parts)

abbrev pub same_part : KeyPart → KeyPart → Bool
same_part part.Ref part.Ref = true
same_part part.Any part.Any = true
same_part (part.Exact s) (part.Exact t) = is_same s t
same_part _ _ = false

-- ---- rows

-- whether two rows are of one method and one key
abbrev pub same_row : BodyRow → BodyRow → Bool
same_row a b = (a.method == b.method) && pointwise same_part a.key.parts b.key.parts

-- the number of the method in which a started thread begins, which is always interpreted
abbrev pub entry_method : ℕ
entry_method = 0

-- whether the code, of so many words, has a word with this number that is not the first
abbrev pub is_code_word : ℕ → ℕ → Bool
is_code_word count n = nat_le 1 n && nat_lt n count

-- the fewest words of a frame
abbrev pub least_frame : ℕ
least_frame = 8

-- the most words of a frame
abbrev pub most_frame : ℕ
most_frame = 2064

-- a compiled body that may stand behind these earlier ones, in a code of so many words
pub record IsKeptBody (program : Program) (count : ℕ) (earlier : List BodyRow) (row : BodyRow) : Type 0 where
  -- its method has a body, and is not the one in which started threads begin
  pub method : MethodDef
  pub is : method_at program row.method ≡ Some method
  pub body : Body
  pub has : method.body ≡ Some body
  pub compiled : (row.method == entry_method) ≡ false
  -- the exact types of its key have no variables; each class in them is there, and each head has the arguments that it wants
  pub closed : list_all (has_variables_below 0 0) (exact_types row.key.parts) ≡ true
  pub counts : list_all (has_counts program) (exact_types row.key.parts) ≡ true
  -- the key has a part for each variable, and does not mix those for every type with others
  pub parts : length row.key.parts ≡ length (vars_of_owner program method) + length method.vars
  pub unmixed : is_unmixed row.key.parts ≡ true
  -- the exact types are admitted, and the bounds are met: those of the types in them, and those of the variables
  pub admitted : list_all (is_admitted program) (exact_types row.key.parts) ≡ true
  pub bounds : list_all (is_bounded_throughout program) (exact_types row.key.parts) ≡ true
  pub meets : key_meets program (vars_of_owner program method) method.vars row.key.parts ≡ true
  -- no earlier row has the method and the key
  pub new : list_any (same_row row) earlier ≡ false
  -- entry and handlers are words of the code behind the first
  pub entry : is_code_word count row.entry ≡ true
  pub handlers : list_all (is_code_word count) row.handlers ≡ true
  -- the frame has its header, and no more than a frame has
  pub frame : (nat_le least_frame row.frame && nat_le row.frame most_frame) ≡ true
  -- there is a handler for each clause
  pub clauses : length row.handlers ≡ length body.clauses

-- the compiled bodies of an image, in a code of so many words
pub record AreKeptBodies (program : Program) (count : ℕ) (bodies : List BodyRow) : Type 0 where
  pub each : (k : ℕ) (row : BodyRow) → slice_get bodies k ≡ Some row → IsKeptBody program count (take k bodies) row
