-- The instruction at which the innermost frame stands. Only private contracts cite it.
use Rattle.std.specs.Prelude.{Ok}
use Rattle.il_model.specs.declared.program.Program.{Program}
use Rattle.il_model.specs.declared.method.MethodDef.{MethodDef}
use Rattle.il_model.specs.declared.op.Op.{Op}
use Rattle.il_model.specs.Found.{method_at}
use Rattle.cil_meaning.specs.Site.{op_at}
use Rattle.unshared.specs.declared.frames.Frames.{Frames as FramesHere}
use Rattle.unshared.specs.Silent.{Silent, ◌>>=◌, there}

-- with the definition of the frame's method
unfoldable pub op_here : Program → FramesHere → Silent (MethodDef × Op)
op_here p f = do
  d ← there (method_at p f.top.method.method)
  o ← there (op_at d f.top.at)
  Ok (d, o)
