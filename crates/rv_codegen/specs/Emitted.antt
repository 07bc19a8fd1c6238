-- An assembly with more instructions at its end, and the body that they are made from. This project's own.
use Rattle.std.specs.Prelude.{◌≡◌, ◌≤◌, List, ◌++◌, slice_get, Some}
use Rattle.il_model.specs.declared.method.MethodDef.{MethodDef}
use Rattle.il_model.specs.Found.{method_at}
use Rattle.cil_flow.specs.declared.state.States.{States}
use Rattle.cil_verify.specs.declared.view.BodyView.{BodyView}
use Rattle.rv_isa.specs.declared.instr.Instr.{Instr}
use Rattle.rv_isa.specs.declared.item.Item.{Item}
use Rattle.rv_isa.specs.Assembly.{Assembly}
use Rattle.rv_codegen.specs.PlainItems.{BodyData, held_count, plain}
use Rattle.rv_codegen.specs.declared.view.BodyParts.{BodyParts}

abbrev pub with_items : Assembly → List Item → Assembly
with_items asm items = record asm { items = asm.items ++ items }

abbrev pub with_instrs : Assembly → List Instr → Assembly
with_instrs asm instrs = with_items asm (plain instrs)

-- a body without its loans
abbrev pub data_of : BodyParts → BodyData
data_of body = record { program = body.program.now; method = body.method.now; states = body.states.now.states; plan = body.plan.now; labels = body.labels.now }

-- the method of a view, and the states of its body
pub record IsViewOf (v : BodyView) (m : MethodDef) (s : States) : Type 0 where
  pub method : method_at v.program.now.program v.method ≡ Some m
  pub states : slice_get v.program.now.states v.method ≡ Some s

-- a view's body, with this method and these states
abbrev pub data_in : BodyView → MethodDef → States → BodyData
data_in v m s = record { program = v.program.now.program; method = m; states = s.states; plan = v.plan.now; labels = v.labels.now }

-- the method of a view has 120 arguments and locals at most
abbrev pub IsSmallView : BodyView → Type 0
IsSmallView v = (m : MethodDef) (s : States) → IsViewOf v m s → held_count (data_in v m s) ≤ 120
