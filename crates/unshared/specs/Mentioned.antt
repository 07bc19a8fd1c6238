-- What the code's mention of an instruction stands for. This project's own.
use Rattle.unshared.specs.declared.mention.Mention.{Mention}
use Rattle.unshared.specs.declared.mention.Mention.TheVariants as code
use Rattle.il_model.specs.Entries as model

abbrev pub mentioned : Mention → model.Mention
mentioned code.Nothing = model.nothing
mentioned (code.Type t) = model.type t.now
mentioned (code.Kind t) = model.kind t.now
mentioned (code.Vector t) = model.vector t.now
mentioned (code.Field f) = model.field f.now
mentioned (code.Call m) = model.call m.now
mentioned (code.VirtualCall m) = model.virtual_call m.now
mentioned (code.Constrained t m) = model.constrained t.now m.now
mentioned (code.New m) = model.new m.now
