-- Which keys may be chosen for a method: those that a body of an image may have (`IsKeptBody`), and why others may not. This project's own.
use Rattle.std.specs.Prelude.{◌==◌, ◌&&◌, Bool, true, not, if◌then◌else◌, List, ◌++◌, length, Option, Some, None}
use Rattle.std.specs.List.{list_all}
use Rattle.type_tree.specs.declared.tree.TExpr.{TExpr}
use Rattle.type_tree.specs.Tree.{has_variables_below}
use Rattle.il_model.specs.declared.class.VarDef.{VarDef}
use Rattle.il_model.specs.declared.method.MethodDef.{MethodDef}
use Rattle.il_model.specs.declared.key.KeyPart.{KeyPart}
use Rattle.il_model.specs.declared.key.KeyPart.TheVariants.{Ref, Any, Exact}
use Rattle.il_model.specs.declared.program.Program.{Program}
use Rattle.rgctx_template.specs.Admitted.{is_admitted, is_bounded_throughout}
use Rattle.rgctx_template.specs.BodyRows.{is_unmixed, key_meets, vars_of_owner}
use Rattle.aot_image.specs.declared.choice_fault.ChoiceCause.{ChoiceCause}
use Rattle.aot_image.specs.declared.choice_fault.ChoiceCause.TheVariants as cause

-- the variables of the class of a method, and then those of the method: a key has a part for each
abbrev pub vars_of : Program → MethodDef → List VarDef
vars_of program m = vars_of_owner program m ++ m.vars

-- a type without variables
abbrev pub is_closed : TExpr → Bool
is_closed t = has_variables_below 0 0 t

abbrev pub is_closed_part : KeyPart → Bool
is_closed_part Ref = true
is_closed_part Any = true
is_closed_part (Exact t) = is_closed t

-- a type is admitted, and the arguments in it meet their bounds
abbrev pub is_good_type : Program → TExpr → Bool
is_good_type program t = is_admitted program t && is_bounded_throughout program t

abbrev pub is_good_part : Program → KeyPart → Bool
is_good_part program Ref = true
is_good_part program Any = true
is_good_part program (Exact t) = is_good_type program t

-- the types of a key are admitted, and all bounds that are judged are met
abbrev pub is_admitted_key : Program → MethodDef → List KeyPart → Bool
is_admitted_key program m parts = list_all (is_good_part program) parts && key_meets program (vars_of_owner program m) m.vars parts

-- the first cause for which keys are refused for a method
abbrev pub cause_of : Program → MethodDef → List KeyPart → Option ChoiceCause
cause_of program m parts =
    if not (length parts == length (vars_of program m)) then Some cause.WrongArity
    else (if not (list_all is_closed_part parts) then Some cause.NotClosed
    else (if not (is_unmixed parts) then Some cause.MixedAny
    else (if not (is_admitted_key program m parts) then Some cause.NotAdmitted else None)))
