-- That places are wide enough for the values of each instantiation that a body serves. This project's own.
use Rattle.std.specs.Prelude.{◌≡◌, ◌≤◌, false, List, ◌++◌, length, slice_get, None}
use Rattle.std.specs.List.{list_any}
use Rattle.type_tree.specs.declared.tree.TExpr.{TExpr}
use Rattle.type_tree.specs.Substitution.{substituted}
use Rattle.il_model.specs.declared.key.KeyPart.{KeyPart}
use Rattle.il_model.specs.declared.method.MethodDef.{MethodDef}
use Rattle.il_model.specs.declared.program.Program.{Program}
use Rattle.il_model.specs.ClassRules.{vars_in}
use Rattle.il_model.specs.Layouts.{words_of}
use Rattle.il_model.specs.Admission.{limit_of}
use Rattle.share_canon.specs.Keys.{Serves, is_for_references}
use Rattle.frame_plan.specs.Widths.{stand_ins_of, width_in}

-- the key serves the method with these arguments, those for the variables of its class first
pub record Instantiates (program : Program) (m : MethodDef) (key : List KeyPart) (class_args method_args : List TExpr) : Type 0 where
  pub serves : Serves program key (class_args ++ method_args)
  pub vars : length class_args ≡ length (vars_in (slice_get program.classes m.owner))

-- a part for references, whose arguments differ in their positions, is among these
abbrev pub HasNoRef : List KeyPart → Type 0
HasNoRef key = list_any is_for_references key ≡ false

-- a value of a type of the body, with the arguments put, has no more words than a place for the type
abbrev pub PlacesHoldValues : Type 0
PlacesHoldValues =
    (program : Program) (m : MethodDef) (key : List KeyPart) (class_args method_args : List TExpr) (t : TExpr) →
    Instantiates program m key class_args method_args → HasNoRef key → limit_of program (substituted class_args method_args t) ≡ None →
    words_of program (substituted class_args method_args t) ≤ width_in program (stand_ins_of program m key) t
