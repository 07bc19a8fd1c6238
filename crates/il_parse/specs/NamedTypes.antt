-- What written types and members stand for. This project's own.
use Rattle.std.specs.Prelude.{ℕ, nat_lt, Bool, true, false, if◌then◌else◌, List, [], ◌∷◌, ◌++◌, length, drop, Option, Some, None, Ok}
use Rattle.type_tree.specs.declared.tree.TExpr.{TExpr}
use Rattle.type_tree.specs.declared.tree.Head.TheVariants as head
use Rattle.type_tree.specs.Tree.{node, class_var, method_var}
use Rattle.il_text.specs.Spelling.{is_class_variable, is_method_variable, digits_value}
use Rattle.il_model.specs.declared.method.PType.{PType}
use Rattle.il_model.specs.declared.method.PType.TheVariants as ptype
use Rattle.il_model.specs.declared.class.VarDef.{VarDef}
use Rattle.il_model.specs.declared.member.MRef.{MRef}
use Rattle.il_model.specs.declared.member.FRef.{FRef}
use Rattle.il_model.specs.declared.written.WrittenName.{WrittenName}
use Rattle.il_model.specs.declared.written.WrittenType.{WrittenType}
use Rattle.il_model.specs.declared.written.WrittenType.TheViews.{out-WrittenType}
use Rattle.il_model.specs.declared.written.WrittenType.TheOpen.{WrittenType-F}
use Rattle.il_model.specs.declared.written.WrittenType.TheFolds.{fold-WrittenType}
use Rattle.il_model.specs.declared.written.WrittenParam.{WrittenParam}
use Rattle.il_model.specs.declared.written.WrittenVar.{WrittenVar}
use Rattle.il_model.specs.declared.written.WrittenMethodRef.{WrittenMethodRef}
use Rattle.il_model.specs.declared.written.WrittenFieldRef.{WrittenFieldRef}
use Rattle.il_model.specs.Lexemes.{is_among}
use Rattle.il_model.specs.Names.{Scope, class_number}
use Rattle.il_model.specs.LookUp.{arity_of}
use Rattle.il_parse.specs.Looking.{Look, ◌>>=◌, pure, unknown, repeated, found_or_unknown, each_of, perhaps_of}

-- the variable with this number, if it is below the number of those that there are
abbrev pub variable_below : ℕ → ℕ → (ℕ → TExpr) → WrittenName → Look TExpr
variable_below number most variable v = if nat_lt number most then Ok (variable number) else unknown v

-- the type variable that a token stands for
unfoldable pub variable_named : Scope → WrittenName → Look TExpr
variable_named s v =
    if is_class_variable v.name then variable_below (digits_value 10 (drop 1 v.name)) s.of_class class_var v
    else (if is_method_variable v.name then variable_below (digits_value 10 (drop 2 v.name)) s.of_method method_var v else unknown v)

-- what these stand for, each of which was looked up
unfoldable pub all_found : List TExpr → List (Look TExpr) → Look (List TExpr)
all_found found [] = pure found
all_found found (looked ∷ rest) = looked >>= (λ t. all_found (found ++ t ∷ []) rest)

-- one level of a written type, with what was found in place of each type below; the name of a class comes before its arguments
abbrev pub level_named : Scope → WrittenType-F (Look TExpr) → Look TExpr
level_named s WrittenType-F.Int32 = Ok (node head.Int32 [])
level_named s WrittenType-F.Int64 = Ok (node head.Int64 [])
level_named s WrittenType-F.Bool = Ok (node head.Bool [])
level_named s WrittenType-F.Object = Ok (node (head.Class 0) [])
level_named s WrittenType-F.String = Ok (node (head.Class 1) [])
level_named s (WrittenType-F.Variable v) = variable_named s v
level_named s (WrittenType-F.Named name args) =
    found_or_unknown (class_number s.names name.name) name >>= (λ number. all_found [] args >>= (λ ts. pure (node (head.Class number) ts)))
level_named s (WrittenType-F.Vector element) = element >>= (λ t. pure (node head.Vector (t ∷ [])))

-- the type that a written type stands for
unfoldable pub type_named : Scope → WrittenType → Look TExpr
type_named s = fold-WrittenType (Look TExpr) (level_named s)

unfoldable pub types_named : Scope → List WrittenType → Look (List TExpr)
types_named s = each_of (type_named s)

unfoldable pub result_named : Scope → Option WrittenType → Look (Option TExpr)
result_named s = perhaps_of (type_named s)

abbrev pub param_type : Bool → TExpr → PType
param_type true t = ptype.Pointer t
param_type false t = ptype.Value t

-- a parameter or a local
unfoldable pub param_named : Scope → WrittenParam → Look PType
param_named s p = type_named s p.kind >>= (λ t. pure (param_type p.pointer t))

unfoldable pub params_named : Scope → List WrittenParam → Look (List PType)
params_named s = each_of (param_named s)

-- type variables behind those found, with the names that were met
unfoldable pub vars_named_from : Scope → List (List ℕ) → List VarDef → List WrittenVar → Look (List VarDef)
vars_named_from s met found [] = pure found
vars_named_from s met found (v ∷ vs) =
    if is_among met v.name.name then repeated v.name.at
    else types_named s v.bounds >>= (λ ts. vars_named_from s (v.name.name ∷ met) (found ++ record { name = v.name.name; bounds = ts } ∷ []) vs)

unfoldable pub vars_named : Scope → List WrittenVar → Look (List VarDef)
vars_named s = vars_named_from s [] []

abbrev pub level_class : {A : Type 0} → Scope → WrittenType-F A → Option ℕ
level_class s WrittenType-F.Int32 = None
level_class s WrittenType-F.Int64 = None
level_class s WrittenType-F.Bool = None
level_class s WrittenType-F.Object = Some 0
level_class s WrittenType-F.String = Some 1
level_class s (WrittenType-F.Variable v) = None
level_class s (WrittenType-F.Named name args) = class_number s.names name.name
level_class s (WrittenType-F.Vector element) = None

-- the number of the class that a written type names
unfoldable pub written_class : Scope → WrittenType → Option ℕ
written_class s t = level_class s (out-WrittenType t)

-- where the types of a member of this class are read: among the class's variables, none where there is no such class, and so many of the method
unfoldable pub member_scope : Scope → WrittenType → ℕ → Scope
member_scope s class of_method = record s { of_class = arity_of s.arities (written_class s class); of_method = of_method }

-- a method as an instruction names it
unfoldable pub method_ref_named : Scope → WrittenMethodRef → Look MRef
method_ref_named s m =
    result_named (member_scope s m.class (length m.args)) m.result >>= (λ result.
    type_named s m.class >>= (λ class.
    types_named s m.args >>= (λ args.
    params_named (member_scope s m.class (length m.args)) m.params >>= (λ params.
    pure (record { instance = m.instance; result = result; class = class; name = m.name; args = args; params = params })))))

-- a field as an instruction names it
unfoldable pub field_ref_named : Scope → WrittenFieldRef → Look FRef
field_ref_named s f =
    type_named (member_scope s f.class 0) f.kind >>= (λ kind.
    type_named s f.class >>= (λ class. pure (record { kind = kind; class = class; name = f.name })))
