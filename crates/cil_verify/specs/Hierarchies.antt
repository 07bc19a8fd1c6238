-- Parts of the rules on hierarchies and layouts, as they are judged. This project's own.
use Rattle.std.specs.Prelude.{◌≡◌, ◌≤◌, ℕ, Bool, true, false, not, ◌&&◌, List, [], ◌∷◌, length, option_to_list, Option, Some, None}
use Rattle.std.specs.List.{list_any, list_all}
use Rattle.type_tree.specs.declared.tree.TExpr.{TExpr}
use Rattle.il_model.specs.declared.class.ClassDef.{ClassDef}
use Rattle.il_model.specs.declared.program.Program.{Program}
use Rattle.il_model.specs.Trees.{without_repeats}
use Rattle.il_model.specs.Layouts.{most_trees}
use Rattle.il_model.specs.Bases.{own_of}
use Rattle.il_model.specs.Slots.{is_interface}
use Rattle.il_model.specs.Find.{class_of}
use Rattle.il_model.specs.Kinds.{is_struct_class}
use Rattle.il_model.specs.Admission.{steps_of, closure_of, is_large}
use Rattle.il_model.specs.ClassRules.{types_written, has_counts, is_delegate_kind, may_be_base, HasHierarchy}
use Rattle.cil_verify.specs.declared.type_set.TypeSet.{TypeSet}
use Rattle.cil_verify.specs.TypeSets.{listed_in}
use Rattle.cil_verify.specs.Closures.{HasClosures, AreTooMuch}

-- whether the kind and the head of a class are in order
abbrev pub fits_head : Program → ClassDef → Bool
fits_head program c =
    not (is_delegate_kind c.kind) && (list_all (has_counts program) (types_written c) &&
    (list_all (may_be_base program) (option_to_list c.base) && list_all (is_interface program) c.interfaces))

-- what is answered of a class by the rule on hierarchies: its closure, or that the rule does not hold
abbrev pub Judged : Program → ℕ → ClassDef → Option TypeSet → Type 0
Judged program number c None = ¬ (HasHierarchy program number c)
Judged program number c (Some set) = HasHierarchy program number c × HasClosures program (own_of program number ∷ []) (listed_in set)

-- the closure of a type has no tree that is too large, and not too many different ones
pub record FitsClosure (program : Program) (t : TExpr) : Type 0 where
  pub no_large : list_any is_large (closure_of program t) ≡ false
  pub few : length (without_repeats (closure_of program t)) ≤ most_trees

-- what is answered of the closure of a type
abbrev pub ClosureOf : Program → TExpr → Option TypeSet → Type 0
ClosureOf program t None = ¬ (FitsClosure program t)
ClosureOf program t (Some set) = FitsClosure program t × HasClosures program (t ∷ []) (listed_in set)

-- where the type is a struct, the closures of the steps from it are few, and none is too large
abbrev pub IsShortStruct : Program → TExpr → Type 0
IsShortStruct program t = is_struct_class (class_of program t) ≡ true → ¬ (AreTooMuch program (steps_of program t))
