-- A field as an instruction of an instantiated method names it. Only private contracts cite it.
use Rattle.std.specs.Prelude.{ℕ, Ok}
use Rattle.type_tree.specs.declared.tree.TExpr.{TExpr}
use Rattle.il_model.specs.declared.program.Program.{Program}
use Rattle.il_model.specs.declared.member.FRef.{FRef}
use Rattle.il_model.specs.Found.{field_found}
use Rattle.il_model.specs.Entries.{field_type}
use Rattle.cil_meaning.specs.Naming.{put_type}
use Rattle.unshared.specs.declared.frames.Frames.{Frames as FramesHere}
use Rattle.unshared.specs.declared.members.FieldHere.{FieldHere}
use Rattle.unshared.specs.Silent.{Silent, ◌>>=◌, there}

pub record FieldSeen : Type 0 where
  pub class : TExpr
  pub kind : TExpr
  pub place : ℕ

abbrev pub the_field : FieldHere → FieldSeen
the_field x = record { class = x.class; kind = x.kind; place = x.place }

unfoldable pub field_here : Program → FramesHere → FRef → Silent FieldSeen
field_here p f named = do
  place ← there (field_found p named)
  Ok (record { class = put_type f.top.method named.class; kind = put_type f.top.method (field_type named); place = place })
