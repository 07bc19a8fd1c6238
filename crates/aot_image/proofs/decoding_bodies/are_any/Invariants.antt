use Rattle.std.proofs.Common.{◌≡◌, true, take}
use Rattle.std.specs.List.{list_all}
use Rattle.rgctx_template.specs.BodyRows.{is_any}
use Rattle.aot_image.proofs.decoding_bodies.are_any.Given as goal

abbrev pub invariant-loop-part : goal.invariant-loop-part
invariant-loop-part l = list_all is_any (take l.part-index l.parts) ≡ true
