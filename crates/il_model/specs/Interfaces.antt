-- The interfaces of a type. The order is this project's own.
use Rattle.std.specs.Prelude.{ℕ, zero, suc, List, [], ◌∷◌, ◌++◌, length, map, flat_map, Option, Some, None, option_to_list}
use Rattle.type_tree.specs.declared.tree.TExpr.{TExpr}
use Rattle.il_model.specs.declared.class.ClassDef.{ClassDef}
use Rattle.il_model.specs.declared.program.Program.{Program}
use Rattle.il_model.specs.Find.{class_of}
use Rattle.il_model.specs.Trees.{without_repeats}
use Rattle.il_model.specs.Bases.{with_args_of, base_of}

abbrev pub interfaces_in : Option ClassDef → List TExpr
interfaces_in None = []
interfaces_in (Some c) = c.interfaces

-- the interfaces that the class of a type names itself, with the arguments put
abbrev pub own_interfaces_of : Program → TExpr → List TExpr
own_interfaces_of program t = map (with_args_of t) (interfaces_in (class_of program t))

-- the interfaces that are met on the way up, so many levels far: the base's first, then each own one, followed by its own
abbrev pub interfaces_met : Program → ℕ → TExpr → List TExpr
interfaces_met program zero t = []
interfaces_met program (suc levels) t =
    flat_map (λ base. interfaces_met program levels base) (option_to_list (base_of program t)) ++
    flat_map (λ each. each ∷ interfaces_met program levels each) (own_interfaces_of program t)

-- the interfaces of a type, repeats left out. Without a cycle no way up has more levels than there are classes
abbrev pub interfaces_of : Program → TExpr → List TExpr
interfaces_of program t = without_repeats (interfaces_met program (length program.classes) t)
