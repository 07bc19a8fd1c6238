use Rattle.std.proofs.Common.{◌≡◌, false, take}
use Rattle.std.specs.List.{list_any}
use Rattle.rgctx_template.specs.BodyRows.{is_any}
use Rattle.aot_image.proofs.decoding_bodies.has_any.Given as goal

abbrev pub invariant-loop-part : goal.invariant-loop-part
invariant-loop-part l = list_any is_any (take l.part-index l.parts) ≡ false
