-- The limit that an instantiated method or an entry passes. This project's own.
use Rattle.std.specs.Prelude.{ℕ, ◌+◌, List, [], ◌∷◌, ◌++◌, map, flat_map, sum_by, option_to_list, nat_lt, if◌then◌else◌, Option, Some, None}
use Rattle.type_tree.specs.declared.tree.TExpr.{TExpr}
use Rattle.type_tree.specs.Positions.{positions_of}
use Rattle.type_tree.specs.Substitution.{substituted}
use Rattle.il_model.specs.declared.program.Program.{Program}
use Rattle.il_model.specs.declared.method.PType.{PType}
use Rattle.il_model.specs.declared.method.PType.TheVariants as ptype
use Rattle.il_model.specs.declared.method.Body.{Body}
use Rattle.il_model.specs.declared.method.MethodDef.{MethodDef}
use Rattle.il_model.specs.declared.entry.Entry.{Entry}
use Rattle.il_model.specs.declared.entry.Entry.TheVariants as entry
use Rattle.il_model.specs.declared.layout.Limit.{Limit}
use Rattle.il_model.specs.declared.layout.Limit.TheVariants as limit
use Rattle.il_model.specs.declared.layout.MethodTree.{MethodTree}
use Rattle.il_model.specs.Entries.{arguments_of}
use Rattle.il_model.specs.Found.{method_at}
use Rattle.il_model.specs.Admission.{most_positions, limit_of}

-- of the limits of many types the one that counts: Positions, wherever it stands
abbrev pub worse : Option Limit → Option Limit → Option Limit
worse (Some limit.Positions) other = Some limit.Positions
worse (Some limit.ValueWords) (Some limit.Positions) = Some limit.Positions
worse (Some limit.ValueWords) (Some limit.ValueWords) = Some limit.ValueWords
worse (Some limit.ValueWords) None = Some limit.ValueWords
worse None other = other

abbrev pub worst : List (Option Limit) → Option Limit
worst [] = None
worst (l ∷ ls) = worse l (worst ls)

abbrev pub type_of_place : PType → List TExpr
type_of_place (ptype.Value t) = t ∷ []
type_of_place (ptype.Pointer t) = t ∷ []
type_of_place ptype.Native = []

abbrev pub types_of_places : List PType → List TExpr
types_of_places places = flat_map type_of_place places

abbrev pub types_of_body : Body → List TExpr
types_of_body b = types_of_places b.locals

-- the types of a method's signature and locals, over its own variables
abbrev pub types_of_method : MethodDef → List TExpr
types_of_method d = types_of_places d.params ++ option_to_list d.result ++ flat_map types_of_body (option_to_list d.body)

-- the class and the arguments of an instantiated method with this definition, and the types of its signature and locals with these put
abbrev pub types_named_by : TExpr → List TExpr → Option MethodDef → List TExpr
types_named_by class args d = class ∷ args ++ map (λ t. substituted (arguments_of class) args t) (flat_map types_of_method (option_to_list d))

-- the positions of a method with its class and its arguments, the method being one
abbrev pub method_positions : TExpr → List TExpr → ℕ
method_positions class args = 1 + sum_by positions_of (class ∷ args)

-- The limit that a method with this definition passes at this class and these arguments, if it does: Positions where it has too many
-- of them, or one of its types passes that limit, and else ValueWords where one of its types passes it.
abbrev pub limit_at : Program → TExpr → List TExpr → Option MethodDef → Option Limit
limit_at p class args d =
    if nat_lt most_positions (method_positions class args) then Some limit.Positions else worst (map (limit_of p) (types_named_by class args d))

abbrev pub limit_of_method : Program → MethodTree → Option Limit
limit_of_method p m = limit_at p m.class m.args (method_at p m.method)

-- the limit of an entry without variables; a slot's is that of its method
abbrev pub limit_of_entry : Program → Entry → Option Limit
limit_of_entry p (entry.Kind t) = limit_of p t
limit_of_entry p (entry.Method number class args) = limit_of_method p (record { method = number; class = class; args = args })
limit_of_entry p (entry.Size t) = limit_of p t
limit_of_entry p (entry.Extent t) = limit_of p t
limit_of_entry p (entry.Offset t place) = limit_of p t
limit_of_entry p (entry.Slot number) = None
