-- How wide a place is for the values of a type, in a body that is compiled for a key. This project's own.
use Rattle.std.specs.Prelude.{ℕ, Bool, List, map, take, drop, length, slice_get, Option, Some, None, if◌then◌else◌}
use Rattle.type_tree.specs.declared.tree.TExpr.{TExpr}
use Rattle.type_tree.specs.Tree.{class_var, has_variables_below}
use Rattle.type_tree.specs.Substitution.{substituted}
use Rattle.il_model.specs.declared.key.KeyPart.{KeyPart}
use Rattle.il_model.specs.declared.key.KeyPart.TheVariants.{Ref, Any, Exact}
use Rattle.il_model.specs.declared.layout.Limit.{Limit}
use Rattle.il_model.specs.declared.method.MethodDef.{MethodDef}
use Rattle.il_model.specs.declared.program.Program.{Program}
use Rattle.il_model.specs.Library.{plain}
use Rattle.frame_plan.specs.declared.kinds.StandIns.{StandIns}
use Rattle.il_model.specs.Kinds.{is_reference}
use Rattle.il_model.specs.ClassRules.{vars_in}
use Rattle.il_model.specs.Layouts.{words_of}
use Rattle.il_model.specs.Admission.{most_words, limit_of}

-- What stands for a type variable: `object` for all reference types, which take as many words; the one tree; and where the variable
-- may be any type, a variable.
abbrev pub stand_in : KeyPart → TExpr
stand_in Ref = plain 0
stand_in Any = class_var 0
stand_in (Exact tree) = tree

-- the parts of a key are those of the class first, which has so many variables
abbrev pub stand_ins_with : ℕ → List KeyPart → StandIns
stand_ins_with count key = record { for_class = map stand_in (take count key); for_method = map stand_in (drop count key) }

-- what stands for the variables of a method's body in a body that is compiled for a key
abbrev pub stand_ins_of : Program → MethodDef → List KeyPart → StandIns
stand_ins_of program m key = stand_ins_with (length (vars_in (slice_get program.classes m.owner))) key

-- whether a type has no variables
abbrev pub is_closed : TExpr → Bool
is_closed t = has_variables_below 0 0 t

-- the width for a type without variables, with the limit that it passes: a value of a type that isn't admitted never arises
abbrev pub width_unless : Program → TExpr → Option Limit → ℕ
width_unless program t None = words_of program t
width_unless program t (Some limit) = most_words

-- the width for a type with variables left: a reference has one word, and what may be of any size takes the words of the largest value
abbrev pub width_of_open : Program → TExpr → ℕ
width_of_open program t = if is_reference program t then 1 else most_words

-- the width for a type in which stand-ins are put
abbrev pub width_of : Program → TExpr → ℕ
width_of program t = if is_closed t then width_unless program t (limit_of program t) else width_of_open program t

-- the width for a type of the definition
abbrev pub width_in : Program → StandIns → TExpr → ℕ
width_in program ins t = width_of program (substituted ins.for_class ins.for_method t)
