-- What the leaves ask of a program. This project's own.
use Rattle.std.specs.Prelude.{◌≡◌, ◌≤◌, ℕ, List, [], ◌++◌, length, slice_get, Some}
use Rattle.il_model.specs.declared.class.ClassDef.{ClassDef}
use Rattle.il_model.specs.declared.method.MethodDef.{MethodDef}
use Rattle.il_model.specs.declared.program.Program.{Program}
use Rattle.il_model.specs.Found.{method_at}
use Rattle.il_model.specs.Library.{library_classes, library_methods}

-- the most classes and the most methods of a program
abbrev pub most_classes : ℕ
most_classes = 4096

abbrev pub most_methods : ℕ
most_methods = 16384

-- the predefined classes and methods stand first; behind them stand the entry point, which has no variables, and its class, which has none
pub record HasLeaves (program : Program) : Type 0 where
  pub own_classes : List ClassDef
  pub classes : program.classes ≡ library_classes ++ own_classes
  pub own_methods : List MethodDef
  pub methods : program.methods ≡ library_methods ++ own_methods
  pub main : MethodDef
  pub main_is : method_at program program.main ≡ Some main
  pub main_own : length library_methods ≤ program.main
  pub main_vars : main.vars ≡ []
  pub class : ClassDef
  pub class_is : slice_get program.classes main.owner ≡ Some class
  pub class_own : length library_classes ≤ main.owner
  pub class_vars : class.vars ≡ []
  pub few_classes : length program.classes ≤ most_classes
  pub few_methods : length program.methods ≤ most_methods
