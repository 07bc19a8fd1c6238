-- What the code has done to a stack on its way through a row. Lists stand from the deepest place up, operands from the top down. Only private contracts cite it.
use Rattle.std.specs.Prelude.{◌≡◌, Bool, List, reverse, Option, Some, None, if◌then◌else◌}
use Rattle.cil_flow.specs.declared.state.StackType.{StackType}
use Rattle.cil_verify.specs.Admits.{Operands}

-- goes on with what is left, if it was admitted
abbrev pub if_taken : Bool → (Operands → Option Operands) → Operands → Option Operands
if_taken admitted go s = if admitted then go s else None

-- operands were taken off the old stack as this function takes them, and admitted where it goes on
pub record Takes (taken : (Operands → Option Operands) → Operands → Option Operands) (admitted : Bool) (old new : List StackType) : Type 0 where
  pub gives : (go : Operands → Option Operands) → if_taken admitted go (reverse new) ≡ taken go (reverse old)

-- the new stack is what is left, if that was admitted
abbrev pub Leaves : Bool → List StackType → Option Operands → Type 0
Leaves admitted new left = if_taken admitted Some (reverse new) ≡ left
