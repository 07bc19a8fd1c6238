-- Which slots calls go to, on a few classes: an example. This project's own.
use Rattle.std.specs.Prelude.{◌≡◌, ℕ, List, [], ◌∷◌, Option, Some, None, codes}
use Rattle.type_tree.specs.declared.tree.TExpr.{TExpr}
use Rattle.il_model.specs.declared.class.ClassKind.{ClassKind}
use Rattle.il_model.specs.declared.class.ClassKind.TheVariants as kind
use Rattle.il_model.specs.declared.class.ClassDef.{ClassDef}
use Rattle.il_model.specs.declared.method.Shape.{Shape}
use Rattle.il_model.specs.declared.method.Shape.TheVariants as shape
use Rattle.il_model.specs.declared.method.MethodDef.{MethodDef}
use Rattle.il_model.specs.declared.program.Program.{Program}
use Rattle.il_model.specs.Library.{plain}
use Rattle.cil_meaning.specs.Calls.{slot_found}

abbrev pub class : ClassKind → Option TExpr → List TExpr → List ℕ → ClassDef
class k base interfaces methods = record { name = codes "C"; kind = k; vars = []; base = base; interfaces = interfaces; fields = []; methods = methods }

abbrev pub method : ℕ → Shape → MethodDef
method owner s = record { owner = owner; name = codes "f"; shape = s; vars = []; params = []; result = None; body = None }

-- Class 1 has method 0 and the interface 5; class 2 overrides it by method 1; class 3 has a new one, method 2. Class 4 is a
-- struct with the interface, and method 3 is the interface's.
abbrev pub classes : Program
classes = record {
  classes =
      class kind.Plain None [] [] ∷ class kind.Plain (Some (plain 0)) (plain 5 ∷ []) (0 ∷ []) ∷
      class kind.Plain (Some (plain 1)) [] (1 ∷ []) ∷ class kind.Plain (Some (plain 2)) [] (2 ∷ []) ∷
      class kind.Struct None (plain 5 ∷ []) (4 ∷ []) ∷ class kind.Interface None [] (3 ∷ []) ∷ [];
  methods = method 1 shape.NewSlot ∷ method 2 shape.Virtual ∷ method 3 shape.NewSlot ∷ method 5 shape.Abstract ∷ method 4 shape.NewSlot ∷ [];
  literals = [];
  main = 0;
}

-- Of an object of class 3, a call that names the method of class 1 or of class 2 goes to slot 0, that of class 3 to slot 1, and
-- the interface's to its place behind them; of a box of the struct, to its own slot and to the interface's place.
pub record FindsSlots : Type 0 where
  pub first : slot_found classes (plain 3) (plain 1) 0 ≡ Some 0
  pub overridden : slot_found classes (plain 3) (plain 2) 1 ≡ Some 0
  pub new : slot_found classes (plain 3) (plain 3) 2 ≡ Some 1
  pub interface : slot_found classes (plain 3) (plain 5) 3 ≡ Some 2
  pub boxed : slot_found classes (plain 4) (plain 5) 3 ≡ Some 1
  pub own : slot_found classes (plain 4) (plain 4) 4 ≡ Some 0
