-- What the rows of an image are judged by, part by part. This project's own.
use Rattle.std.specs.Prelude.{Bool, not, ◌||◌, List}
use Rattle.type_tree.specs.declared.tree.TExpr.{TExpr}
use Rattle.type_tree.specs.Substitution.{substituted}
use Rattle.il_model.specs.declared.program.Program.{Program}
use Rattle.il_model.specs.ClassRules.{meets_own_bounds}
use Rattle.rgctx_template.specs.Admitted.{is_admitted, no_variables}

-- whether a tree meets its own bounds, where it is admitted
abbrev pub is_bounded_here : Program → TExpr → Bool
is_bounded_here program t = not (is_admitted program t) || meets_own_bounds program no_variables t

-- whether a type is admitted once these arguments are put for its variables
abbrev pub is_admitted_with : Program → List TExpr → List TExpr → TExpr → Bool
is_admitted_with program class_args method_args t = is_admitted program (substituted class_args method_args t)
