-- What is admitted among closed types, methods with their arguments included, and which bounds are judged there. This project's own.
use Rattle.std.specs.Prelude.{Bool, not, ◌||◌, List, [], Some, zip, is_none}
use Rattle.std.specs.List.{list_all}
use Rattle.type_tree.specs.declared.tree.TExpr.{TExpr}
use Rattle.type_tree.specs.Substitution.{substituted}
use Rattle.il_model.specs.declared.class.VarDef.{VarDef}
use Rattle.il_model.specs.declared.method.MethodDef.{MethodDef}
use Rattle.il_model.specs.declared.program.Program.{Program}
use Rattle.il_model.specs.Entries.{arguments_of}
use Rattle.il_model.specs.Trees.{trees_in}
use Rattle.il_model.specs.Assignable.{Bounded, meets_bound}
use Rattle.il_model.specs.Admission.{limit_of}
use Rattle.il_model.specs.Methods.{limit_at}
use Rattle.il_model.specs.ClassRules.{meets_own_bounds}

-- ---- admission

abbrev pub is_admitted : Program → TExpr → Bool
is_admitted program t = is_none (limit_of program t)

-- whether a method is admitted at this class and these arguments: it has not too many positions, and they and the types of its signature and locals are admitted
abbrev pub is_admitted_method : Program → TExpr → List TExpr → MethodDef → Bool
is_admitted_method program c args m = is_none (limit_at program c args (Some m))

-- ---- bounds

-- among closed types no variable has bounds
abbrev pub no_variables : Bounded
no_variables = record { of_class = []; of_method = [] }

-- whether each admitted type in a tree, at any depth, meets its bounds; the tree itself need not be admitted
abbrev pub is_bounded_throughout : Program → TExpr → Bool
is_bounded_throughout program t = list_all (λ each. not (is_admitted program each) || meets_own_bounds program no_variables each) (trees_in t)

-- whether an argument meets each bound of its variable, with the arguments of class and method put for the variables in them
abbrev pub meets_all : Program → List TExpr → List TExpr → VarDef × TExpr → Bool
meets_all program class_args method_args e =
    list_all (λ bound. meets_bound program no_variables e.1 (substituted class_args method_args bound)) e.0.bounds

-- whether the arguments of a method meet the bounds of its own variables, which is judged where the method is admitted
abbrev pub is_bounded_method : Program → TExpr → List TExpr → MethodDef → Bool
is_bounded_method program c args m =
    not (is_admitted_method program c args m) || list_all (meets_all program (arguments_of c) args) (zip m.vars args)
