-- The bases of a type, after ECMA-335, Partition II. All definitions on types are total, and the same for types with and without variables: a variable is a type of its own, without a base.
use Rattle.std.specs.Prelude.{ℕ, zero, suc, List, [], ◌∷◌, length, map, slice_get, Option, Some, None, option_map, option_and_then}
use Rattle.type_tree.specs.declared.tree.TExpr.{TExpr}
use Rattle.type_tree.specs.declared.tree.Head.TheVariants as head
use Rattle.type_tree.specs.Tree.{node, class_var}
use Rattle.type_tree.specs.Substitution.{substituted}
use Rattle.il_model.specs.declared.class.ClassDef.{ClassDef}
use Rattle.il_model.specs.declared.program.Program.{Program}
use Rattle.il_model.specs.Find.{class_number_of, class_of}
use Rattle.il_model.specs.LookUp.{numbers_from}
use Rattle.il_model.specs.Entries.{arguments_of}

-- a type of a class's definition, with the arguments of this type of the class put for the variables
abbrev pub with_args_of : TExpr → TExpr → TExpr
with_args_of t part = substituted (arguments_of t) [] part

abbrev pub own_of_class : ℕ → Option ClassDef → TExpr
own_of_class number None = node (head.Class number) []
own_of_class number (Some c) = node (head.Class number) (map class_var (numbers_from 0 c.vars))

-- the class with this number, applied to its own variables
abbrev pub own_of : Program → ℕ → TExpr
own_of program number = own_of_class number (slice_get program.classes number)

abbrev pub own_of_number : Program → TExpr → Option ℕ → TExpr
own_of_number program t None = t
own_of_number program t (Some number) = own_of program number

-- the definition of a type: its class applied to its own variables; a type that names no class is its own definition
abbrev pub definition_of : Program → TExpr → TExpr
definition_of program t = own_of_number program t (class_number_of t)

-- the base of a type: that of its class, with the arguments put
abbrev pub base_of : Program → TExpr → Option TExpr
base_of program t = option_and_then (λ c. option_map (with_args_of t) c.base) (class_of program t)

-- this type and its bases upwards, at most so many
abbrev pub upwards : Program → ℕ → Option TExpr → List TExpr
upwards program zero at = []
upwards program (suc levels) None = []
upwards program (suc levels) (Some t) = t ∷ upwards program levels (base_of program t)

-- the bases of a type upwards, the type itself aside. Without a cycle there are fewer than classes
abbrev pub proper_bases_of : Program → TExpr → List TExpr
proper_bases_of program t = upwards program (length program.classes) (base_of program t)

-- the type, then its bases upwards
abbrev pub bases_of : Program → TExpr → List TExpr
bases_of program t = t ∷ proper_bases_of program t
